-- `sections::Cutting::clip_all` meets its contract. The table holds the polygon of the clips by the first i half-spaces. Assumes nothing.
use mathlib.Core.Path.{◌≡◌, refl, ◌∙◌}
use Prim.Native.Nat.{◌+◌}
use native.Mathlib.Omega.{arith}
use Rattle.planes.specs.Values.{plane}
use Rattle.polygons.specs.Tables.{look}
use Rattle.polygons.proofs.Starts.{wider, rows_none, turn_clip, turn_more, turn_gone}
use Rattle.sections.proofs.Cutting.clip_all.Goals as goal

pub loop-i-init : goal.loop-i-init
loop-i-init c =
    let s = c.args.self.now in
    let hs = s.halves in
    record {
      as_many = refl;
      out_as_many = refl;
      polygon = rw (rows_none (plane s.plane) hs.numbers.now hs.width s.rows) at (wider (plane s.plane) (look hs.numbers.now hs.width) 6 (6 + s.rows) (omega arith) c.requires.polygon);
    }

pub overflow_add-i : goal.overflow_add-i
overflow_add-i c = omega (arith, c.requires.region.few)

pub clip_on-m-requires : goal.clip_on-m-requires
clip_on-m-requires c =
    let s = c.args.self.now in
    let q = c.loop-i in
    turn_clip (plane s.plane) s.halves.numbers.now s.halves.width s.rows c.requires.region q.i (omega arith) q.t q.m q.out q.invariant.polygon (omega (arith, c.requires.room)) (omega (arith, c.requires.out_room))

pub returns-then-m-eq0 : goal.returns-then-m-eq0
returns-then-m-eq0 c =
    let s = c.args.self.now in
    let q = c.loop-i in
    let d = c.clip_on-m in
    turn_gone (plane s.plane) s.halves.numbers.now s.halves.width s.rows c.requires.region q.i (omega arith) q.t q.m q.out q.invariant.polygon (omega (arith, c.requires.room)) (omega (arith, c.requires.out_room)) d.new.t d.result d.ensures c.if-m-eq0.true

pub loop-i-preserved : goal.loop-i-preserved
loop-i-preserved c =
    let s = c.args.self.now in
    let q = c.loop-i in
    let d = c.clip_on-m in
    record {
      as_many = d.auto.t ∙ q.invariant.as_many;
      out_as_many = d.auto.out ∙ q.invariant.out_as_many;
      polygon = turn_more (plane s.plane) s.halves.numbers.now s.halves.width s.rows c.requires.region q.i (omega arith) q.t q.m q.out q.invariant.polygon (omega (arith, c.requires.room)) (omega (arith, c.requires.out_room)) d.new.t d.result d.ensures;
    }

pub returns : goal.returns
returns c =
    let q = c.loop-i in
    let e : q.i ≡ c.args.self.now.rows = omega arith in
    rw e at q.invariant.polygon

-- `polygons::clipping::Clip::emit` meets its contract. The loop has put out what the first i corners put out. Assumes nothing.
use mathlib.Core.Path.{refl, sym, ap, ◌∙◌}
use Prim.Native.Nat.{◌<◌}
use native.Mathlib.Omega.{arith}
use lib.ListN.{length}
use Rattle.planes.specs.Values.{plane}
use Rattle.polygons.specs.Tables.{look}
use Rattle.polygons.proofs.Cells.{read_none}
use Rattle.polygons.proofs.Loops.{last_none, last_more, last_below, put_all_none, step_room, step_count, step_read}
use Rattle.polygons.proofs.clipping.Clip.emit.Goals as goal

pub loop-i-init : goal.loop-i-init
loop-i-init c =
    let s = c.args.self.now in
    let none = sym (put_all_none (plane s.support) (look s.halves.numbers.now s.halves.width) s.by c.args.sides.now c.args.t.now c.last_out.result) in
    record { as_many = refl; prev = last_none _ _ _; at = ap length none; read_is = read_none c.args.out.now ∙ none }

pub step-p-requires : goal.step-p-requires
step-p-requires c =
    let r = c.requires in
    let q = c.loop-i in
    let o = c.last_out in
    let l : q.i < length c.args.sides.now = omega arith in
    let u = step_room _ _ _ c.args.sides.now c.args.t.now o.result q.i q.p.at q.p.prev c.said.result q.invariant.at q.invariant.prev c.said.ensures l (rw o.ensures r.few) in
    let m : o.result < r.top = rw o.ensures (last_below c.args.sides.now c.args.t.now 0 r.top (omega (arith, r.region.box)) r.below _ (omega arith)) in
    record {
      top = r.top;
      region = r.region;
      k_below = r.k_below;
      prev_below = rw q.invariant.prev (last_below _ _ o.result r.top m r.below q.i (omega arith));
      b_below = r.below q.i l;
      corner_room = omega (arith, r.corner_room);
      room = omega (arith, u, r.room);
      few = omega (arith, u);
    }

pub loop-i-preserved : goal.loop-i-preserved
loop-i-preserved c =
    let q = c.loop-i in
    let u = c.step-p in
    record {
      as_many = u.auto.out ∙ q.invariant.as_many;
      prev = u.ensures.prev_is ∙ last_more _ _ _ q.i q.p.prev c.said.result q.invariant.prev c.said.ensures;
      at = step_count _ _ _ _ _ _ q.i q.p.at q.p.prev c.said.result q.invariant.at q.invariant.prev c.said.ensures q.out _ u.result u.ensures;
      read_is = step_read _ _ _ _ _ _ q.i q.p.at q.p.prev c.said.result q.invariant.at q.invariant.prev c.said.ensures q.out _ u.result u.ensures q.invariant.read_is;
    }

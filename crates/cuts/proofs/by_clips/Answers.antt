-- `cuts::by_clips` meets its contract. The loop has the polygon of as many clips as it counts (proofs/Cuts). Assumes nothing.
use mathlib.Core.Path.{subst, ◌∙◌}
use native.Mathlib.Omega.{arith}
use Rattle.std.proofs.Common.{rules}
use Rattle.planes.specs.Values.{plane}
use Rattle.polygons.specs.Values.{way_of}
use Rattle.polygons.proofs.Loops.{start_corners}
use Rattle.polygons.proofs.Starts.{way_in, opened_start}
use Rattle.cuts.proofs.Cuts.{Cutting, cutting_first, cutting_end, cutting_nothing, cutting_added, cutting_placed, cutting_at, cutting_clip, cutting_more}
use Rattle.cuts.proofs.by_clips.Goals as goal

pub loop-init : goal.loop-init
loop-init c =
    let b = c.begin in
    let p = c.args.path.now in
    let r = c.requires in
    cutting_first r b.new.t (opened_start (plane c.args.s) p.rows.now 9 r.support r.normal c.way-w.result c.way-w.ensures b.new.t (search rules) (b.ensures ∙ start_corners (plane c.args.s) p.rows.now 9 (way_of c.way-w.result)))

pub returns-then-n-eq0 : goal.returns-then-n-eq0
returns-then-n-eq0 c = cutting_nothing c.requires c.loop.invariant c.if-n-eq0.true

pub added-m-requires : goal.added-m-requires
added-m-requires c = cutting_added c.requires c.loop.invariant c.if-n-eq0.false

pub stopped-requires : goal.stopped-requires
stopped-requires c =
    let r = c.requires in
    let l = way_in (plane c.args.s) c.args.path.now.rows.now 9 r.support r.normal c.way-w.result c.way-w.ensures in
    (omega (arith, l), r.rows, cutting_placed r c.loop.invariant c.if-n-eq0.false c.added-m.ensures)

pub returns-in_default : goal.returns-in_default
returns-in_default c = cutting_at c.requires c.loop.invariant c.if-n-eq0.false c.added-m.ensures c.way-w.ensures c.in_default.ensures

pub clip_on-n-requires : goal.clip_on-n-requires
clip_on-n-requires c = cutting_clip c.requires c.loop.invariant c.if-n-eq0.false c.added-m.ensures c.way-w.ensures c.in-Some.ensures c.loop.room.second (search rules) (search rules)

pub loop-preserved : goal.loop-preserved
loop-preserved c = cutting_more c.requires c.loop.invariant c.if-n-eq0.false c.added-m.ensures c.way-w.ensures c.in-Some.ensures c.loop.room.second (search rules) (search rules) c.clip_on-n.ensures

pub returns : goal.returns
returns c = let p = c.args.path.now in absurd (cutting_end c.requires (subst (Cutting (plane c.args.s) p.rows.now p.depth c.loop.room.first c.loop.n) (omega (arith, c.loop-test.false, c.loop.auto.counter-end)) c.loop.invariant))

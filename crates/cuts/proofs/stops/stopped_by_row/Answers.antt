-- `cuts::stops::stopped_by_row` meets its contract (proofs/Asking). Assumes nothing.
use mathlib.Core.Path.{◌∙◌}
use Rattle.cuts.proofs.Asking.{asked_row, row_asked, row_stops, row_front, front_all}
use Rattle.cuts.proofs.stops.stopped_by_row.Goals as goal

pub not_in_front-requires : goal.not_in_front-requires
not_in_front-requires c = let q = c.loop-at.invariant in row_asked c.args.m q.3 (asked_row q.2 c.in-Some.ensures.steps) c.load.ensures c.requires.0 c.requires.1

pub returns-then-not_in_front : goal.returns-then-not_in_front
returns-then-not_in_front c = let q = c.loop-at.invariant in row_stops c.args.m q.3 (asked_row q.2 c.in-Some.ensures.steps) c.load.ensures (c.not_in_front.ensures.yes c.if-not_in_front.true)

pub loop-at-preserved : goal.loop-at-preserved
loop-at-preserved c =
    let q = c.loop-at.invariant in
    let n = c.in-Some.ensures in
    (n.goes.keeps, tt, n.steps.same ∙ q.2, row_front c.args.m q.3 (asked_row q.2 n.steps) c.load.ensures c.requires.1 (c.not_in_front.ensures.no c.if-not_in_front.false))

pub returns : goal.returns
returns c = front_all c.args.m c.loop-at.invariant.3 c.in-None.ensures.steps.row

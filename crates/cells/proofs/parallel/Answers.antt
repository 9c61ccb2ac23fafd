-- `cells::parallel` meets its contract (proofs/Paths). Assumes nothing.
use Rattle.cuts.proofs.Asking.{asked_row}
use Rattle.cells.proofs.Paths.{classified_front, classified_behind}
use Rattle.cells.proofs.parallel.Goals as goal

pub returns-then-holds : goal.returns-then-holds
returns-then-holds c = let q = c.loop-at.invariant in classified_front (asked_row q.2 c.in-Some.ensures.steps) q.3 c.load-h.ensures (c.holds.ensures.yes c.if-holds.true)

pub returns-then-holds-2 : goal.returns-then-holds-2
returns-then-holds-2 c = let q = c.loop-at.invariant in classified_behind (asked_row q.2 c.in-Some.ensures.steps) q.3 c.load-h.ensures c.opposite-b.ensures (c.holds-in-loop-at.ensures.yes c.if-holds-2.true)

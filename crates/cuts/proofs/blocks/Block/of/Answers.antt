-- `cuts::blocks::Block::of` meets its contract (proofs/Axes). Assumes nothing.
use mathlib.Core.Path.{◌∙◌}
use Rattle.whole.specs.Code.{in64}
use Rattle.cuts.proofs.Asking.{asked_row}
use Rattle.cuts.proofs.Axes.{row_d, narrowing_more}
use Rattle.cuts.proofs.blocks.Block.of.Goals as goal

pub narrow-requires : goal.narrow-requires
narrow-requires c =
    let q = c.loop-at.invariant in
    let d = row_d q.3 (asked_row q.2 c.in-Some.ensures.steps) c.load-h.ensures c.requires in
    (c.in_ok-k.ensures.below, rw (in64 d tt) d)

pub loop-at-preserved : goal.loop-at-preserved
loop-at-preserved c =
    let q = c.loop-at.invariant in
    let n = c.in-Some.ensures in
    (n.goes.keeps, tt, n.steps.same ∙ q.2, narrowing_more q.3 (asked_row q.2 n.steps) c.load-h.ensures c.requires c.in_ok-k.ensures c.narrow.ensures)

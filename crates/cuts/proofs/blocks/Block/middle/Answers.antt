-- `cuts::blocks::Block::middle` meets its contract (proofs/Axes). Assumes nothing.
use Rattle.cuts.proofs.Axes.{middle_kept}
use Rattle.cuts.proofs.blocks.Block.middle.Goals as goal

pub returns : goal.returns
returns c = middle_kept c.requires.0 c.requires.1 c.in_ok-x.ensures c.in_ok-y.ensures c.in_ok-z.ensures

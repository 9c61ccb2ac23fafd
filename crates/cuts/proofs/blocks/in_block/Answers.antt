-- `cuts::blocks::in_block` meets its contract (proofs/Axes). Assumes nothing.
use Rattle.std.proofs.lemmas.Option.{IfSome_then}
use Rattle.whole.specs.Code.{in64}
use Rattle.planes.specs.Bounds.{in_range_in}
use Rattle.cuts.proofs.Axes.{seen_block}
use Rattle.cuts.proofs.blocks.in_block.Goals as goal

pub middle-requires : goal.middle-requires
middle-requires c = let d = (in_range_in c.requires.0).d_in in (c.in_ok-k.ensures.below, rw (in64 d tt) d)

pub returns : goal.returns
returns c = IfSome_then c.middle.result c.middle.ensures (λ m. seen_block c.requires.0 c.in_ok-k.ensures c.in_ok-of.ensures)

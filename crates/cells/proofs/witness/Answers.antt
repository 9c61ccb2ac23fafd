-- `cells::witness` meets its contract. Assumes nothing.
use Rattle.std.proofs.Common.{rules}
use Rattle.cells.specs.Paths.{witness_at}
use Rattle.cells.proofs.witness.Goals as goal

pub returns : goal.returns
unfolding witness_at
returns c = search rules

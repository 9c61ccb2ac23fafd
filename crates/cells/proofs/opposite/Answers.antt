-- `cells::opposite` meets its contract. Assumes nothing.
use Rattle.std.proofs.Common.{rules}
use Rattle.scope.specs.Planes.{flip}
use Rattle.cells.proofs.opposite.Goals as goal

pub returns : goal.returns
unfolding flip
returns c = search rules

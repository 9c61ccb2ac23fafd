-- `cells::side_of_box` meets its contract: by the sign of d. Assumes nothing.
use Rattle.std.proofs.Common.{rules}
use Rattle.cells.specs.Paths.{missed_by}
use Rattle.cells.proofs.side_of_box.Goals as goal

pub returns-then-p-gt0 : goal.returns-then-p-gt0
unfolding missed_by
returns-then-p-gt0 c = search rules

pub returns : goal.returns
unfolding missed_by
returns c = search rules

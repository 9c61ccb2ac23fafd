-- `cells::side_below` meets its contract: by the sign of the sum at the witness. Assumes nothing.
use Rattle.std.proofs.Common.{rules}
use Rattle.scope.specs.Planes.{at}
use Rattle.polygons.specs.Tables.{row}
use Rattle.cells.proofs.side_below.Goals as goal

pub returns-in-Front : goal.returns-in-Front
unfolding at
returns-in-Front c = search rules

pub returns-in-On : goal.returns-in-On
unfolding at row
returns-in-On c = search rules

pub returns-in-Back : goal.returns-in-Back
unfolding at
returns-in-Back c = search rules

-- `cells::missed` meets its contract: by the last row, or the box. Assumes nothing.
use Rattle.std.proofs.Common.{rules}
use Rattle.cells.specs.Paths.{missed_by}
use Rattle.cells.proofs.missed.Goals as goal

pub returns-then-path-eq0 : goal.returns-then-path-eq0
unfolding missed_by
returns-then-path-eq0 c = search rules

pub returns : goal.returns
unfolding missed_by
returns c = search rules

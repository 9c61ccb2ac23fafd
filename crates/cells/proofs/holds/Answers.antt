-- `cells::holds` meets its contract. Assumes nothing.
use Rattle.std.proofs.Common.{rules}
use Rattle.cells.proofs.holds.Goals as goal

pub returns-then-q-p-3-clause-yes : goal.returns-then-q-p-3-clause-yes
returns-then-q-p-3-clause-yes c = λ e. record { same_x = search rules; same_y = search rules; same_z = search rules; wider = search rules }

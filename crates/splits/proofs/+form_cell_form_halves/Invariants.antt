-- The measure of `form_cell` and `form_halves`: twice the boundary planes that are left, a cell above its halves.
use Rattle.std.proofs.Common.{◌+◌, ◌-◌, ◌*◌, length}
use Rattle.splits.proofs.+form_cell_form_halves.Given as goal

abbrev pub decreases-form_cell : goal.decreases-form_cell
decreases-form_cell l = (length l.boundary.now - l.k) * 2 + 1

abbrev pub decreases-form_halves : goal.decreases-form_halves
decreases-form_halves l = (length l.boundary.now - l.at.place) * 2

-- `borders::is_boundary` meets its contract: the four walks from the box tell it (proofs/Tells). Assumes nothing.
use native.Mathlib.Omega.{arith}
use Rattle.borders.proofs.Tells.{own_few, told_missed, begun_in, told_walked}
use Rattle.borders.proofs.is_boundary.Goals as goal

pub returns-then-is_none : goal.returns-then-is_none
returns-then-is_none c = told_missed c.requires c.row.ensures c.cut.ensures c.if-is_none.ensures

pub overflow_cast-t : goal.overflow_cast-t
overflow_cast-t c = record { fits = omega (arith, own_few c.requires) }

pub side_on-requires : goal.side_on-requires
side_on-requires c = begun_in c.requires c.row.ensures c.cut.ensures c.if-is_none.ensures

pub returns : goal.returns
returns c = told_walked c.requires c.row.ensures c.cut.ensures c.if-is_none.ensures c.side_on.ensures

-- `splits::form_cell` and `splits::form_halves` meet their contracts, together: each calls the other. Assumes nothing.
use mathlib.Core.Path.{refl, ap}
use native.Mathlib.Omega.{arith}
use Rattle.std.proofs.lemmas.Result.{err_from_is_err_and}
use Rattle.refusals.specs.Numbers.{numbered}
use Rattle.splits.proofs.Halves.{listed_there, plane_ranged, halves_deep, push_front, front_in, halves_front, push_back, back_in, halves_back, halves_put}
use Rattle.splits.proofs.Forms.{form_uniform, scan_in, form_nothing, later, halves_in, form_split}
use Rattle.splits.proofs.+form_cell_form_halves.Goals as goal

pub form_cell-returns-in-Some : goal.form_cell-returns-in-Some
form_cell-returns-in-Some t c = form_uniform c.requires c.mark_of.ensures c.in-Some.is

pub form_cell-first_cut-requires : goal.form_cell-first_cut-requires
form_cell-first_cut-requires t c = scan_in c.requires c.mark_of.ensures c.in_default.is c.mark_of.auto.path

pub form_cell-form_halves-requires : goal.form_cell-form_halves-requires
form_cell-form_halves-requires t c = (
  omega (arith, c.decreases, later c.requires c.mark_of.ensures c.in_default.is c.first_cut.ensures c.in-Some-first_cut.is),
  halves_in c.requires c.mark_of.ensures c.in_default.is c.first_cut.ensures c.in-Some-first_cut.is c.mark_of.auto.path,
)

pub form_cell-unreachable-requires : goal.form_cell-unreachable-requires
form_cell-unreachable-requires t c = form_nothing c.requires c.mark_of.ensures c.in_default.is c.first_cut.ensures c.in-None.is

pub form_cell-returns : goal.form_cell-returns
form_cell-returns t c = form_split c.requires c.mark_of.ensures c.in_default.is c.first_cut.ensures c.in-Some-first_cut.is c.form_halves.ensures

pub form_halves-row-p-requires : goal.form_halves-row-p-requires
form_halves-row-p-requires t c = listed_there c.requires

pub form_halves-overflow_add-below : goal.form_halves-overflow_add-below
form_halves-overflow_add-below t c = record { fits = omega (arith, halves_deep c.requires) }

pub form_halves-push-requires : goal.form_halves-push-requires
form_halves-push-requires t c = push_front c.requires

pub form_halves-form_cell-requires : goal.form_halves-form_cell-requires
form_halves-form_cell-requires t c = (
  omega (arith, c.decreases, c.requires.inside),
  front_in c.requires c.row-p.ensures c.push.ensures c.push.auto.path,
)

pub form_halves-returns-in_err-front : goal.form_halves-returns-in_err-front
form_halves-returns-in_err-front t c =
    let e = err_from_is_err_and c.from_residual.result c.from_residual.ensures.1 in
    rw (e.1, e.2) (halves_front c.requires c.row-p.ensures c.push.ensures c.push.auto.path c.form_cell.ensures (ap numbered c.in_err-front.was))

pub form_halves-opposite-requires : goal.form_halves-opposite-requires
form_halves-opposite-requires t c = plane_ranged c.requires c.row-p.ensures

pub form_halves-push-requires-2 : goal.form_halves-push-requires-2
form_halves-push-requires-2 t c = push_back c.requires c.row-p.ensures c.push.ensures c.push.auto.path c.form_cell.ensures c.form_cell.auto.path

pub form_halves-form_cell-requires-2 : goal.form_halves-form_cell-requires-2
form_halves-form_cell-requires-2 t c = (
  omega (arith, c.decreases, c.requires.inside),
  back_in c.requires c.row-p.ensures c.push.ensures c.push.auto.path c.form_cell.ensures c.form_cell.auto.path (ap numbered c.in_ok-front.was) c.form_cell.auto.out c.opposite.ensures c.push-2.ensures c.push-2.auto.path,
)

pub form_halves-returns-in_err-back : goal.form_halves-returns-in_err-back
form_halves-returns-in_err-back t c =
    let e = err_from_is_err_and c.from_residual-in_err-back.result c.from_residual-in_err-back.ensures.1 in
    rw (e.1, e.2) (halves_back c.requires c.row-p.ensures c.push.ensures c.push.auto.path c.form_cell.ensures c.form_cell.auto.path (ap numbered c.in_ok-front.was) c.form_cell.auto.out c.opposite.ensures c.push-2.ensures c.push-2.auto.path c.form_cell-2.ensures (ap numbered c.in_err-back.was))

pub form_halves-returns : goal.form_halves-returns
form_halves-returns t c = halves_put c.requires c.row-p.ensures c.push.ensures c.push.auto.path c.form_cell.ensures c.form_cell.auto.path (ap numbered c.in_ok-front.was) c.form_cell.auto.out c.opposite.ensures c.push-2.ensures c.push-2.auto.path c.form_cell-2.ensures (ap numbered c.in_ok-back.was) c.form_cell-2.auto.out refl c.emit.ensures

-- `forms::normal_judged` meets its contract: at each way out the answer is document 01's (proofs/Singles). Assumes nothing.
use native.Mathlib.Omega.{arith}
use Rattle.std.proofs.lemmas.Result.{err_from_is_err_and}
use Rattle.forms.proofs.Singles.{solid_not, solid_sound, single_given}
use Rattle.forms.proofs.normal_judged.Goals as goal

pub returns-in_err-judge_rows : goal.returns-in_err-judge_rows
returns-in_err-judge_rows c =
    let p = err_from_is_err_and c.from_residual.result c.from_residual.ensures.1 in
    rw (p.1, p.2) (solid_not c.args.a.now c.requires.long c.in_err-judge_rows.ensures)

pub form_single-requires : goal.form_single-requires
form_single-requires c = single_given c.args.a.now c.in_ok-judge_rows.ensures c.requires.zeros (omega (arith, c.requires.long))

pub returns : goal.returns
returns c = solid_sound c.args.a.now c.requires.long c.in_ok-judge_rows.ensures c.form_single.ensures

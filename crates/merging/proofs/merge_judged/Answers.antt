-- `merging::merge_judged` meets its contract: at each way out the answer is document 01's (proofs/Told). Assumes nothing.
use native.Mathlib.Omega.{arith}
use Rattle.std.proofs.lemmas.Result.{err_from_is_err_and}
use Rattle.merging.proofs.Told.{not_known, a_not, b_not, sound_in, both_sound}
use Rattle.merging.proofs.merge_judged.Goals as goal

pub returns-in_err-operation : goal.returns-in_err-operation
returns-in_err-operation c =
    let p = err_from_is_err_and c.from_residual.result c.from_residual.ensures.1 in
    let q = c.in_err-operation.ensures in
    rw (p.1, p.2, q.0) (not_known c.args.a.now c.args.b.now c.requires.long q.1)

pub returns-in_err-judge_rows : goal.returns-in_err-judge_rows
returns-in_err-judge_rows c =
    let p = err_from_is_err_and c.from_residual-in_err-judge_rows.result c.from_residual-in_err-judge_rows.ensures.1 in
    rw (p.1, p.2) (a_not c.args.a.now c.args.b.now c.requires.long _ c.in_ok-operation.ensures c.in_err-judge_rows.ensures)

pub returns-in_err-judge_rows-2 : goal.returns-in_err-judge_rows-2
returns-in_err-judge_rows-2 c =
    let p = err_from_is_err_and c.from_residual-in_err-judge_rows-2.result c.from_residual-in_err-judge_rows-2.ensures.1 in
    rw (p.1, p.2) (b_not c.args.a.now c.args.b.now c.requires.long _ c.in_ok-operation.ensures c.in_ok-judge_rows.ensures c.in_err-judge_rows-2.ensures)

pub merge_sound-requires : goal.merge_sound-requires
merge_sound-requires c = sound_in c.args.a.now c.args.b.now c.in_ok-judge_rows.ensures c.in_ok-judge_rows-2.ensures c.requires.zeros (omega (arith, c.requires.long))

pub returns : goal.returns
returns c = both_sound c.args.a.now c.args.b.now c.requires.long _ c.in_ok-operation.ensures c.in_ok-judge_rows.ensures c.in_ok-judge_rows-2.ensures c.merge_sound.ensures

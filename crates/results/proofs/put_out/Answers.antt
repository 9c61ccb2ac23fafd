-- `results::put_out` meets its contract: a walk that has no room, and the listing of the planes that the rows use (proofs/PutOut). Assumes nothing.
use mathlib.Core.Path.{ap}
use Rattle.std.proofs.lemmas.Result.{err_from_is_err_and}
use Rattle.refusals.specs.Numbers.{numbered}
use Rattle.walks.proofs.Emits.{got}
use Rattle.results.proofs.PutOut.{put_refused, list_in, put_listed, put_not_listed}
use Rattle.results.proofs.put_out.Goals as goal

pub returns-in_err-root : goal.returns-in_err-root
returns-in_err-root c =
    let p = err_from_is_err_and c.from_residual.result c.from_residual.ensures.1 in
    rw (p.1, p.2) (λ o s h. put_refused h c.args.planes.now (ap numbered c.in_err-root.was))

pub list_used-requires : goal.list_used-requires
list_used-requires c = list_in c.requires (ap numbered c.in_ok-root.was)

pub returns-in_err-n : goal.returns-in_err-n
returns-in_err-n c =
    let p = err_from_is_err_and c.from_residual-in_err-n.result c.from_residual-in_err-n.ensures.1 in
    rw (p.1, p.2) (λ o s h. put_not_listed h (got (ap numbered c.in_ok-root.was) h.emitted) c.args.planes.now c.list_used.new.planes c.list_used.new.nodes c.list_used.auto.planes c.in_err-n.ensures)

pub returns : goal.returns
returns c = λ o s h. put_listed h (got (ap numbered c.in_ok-root.was) h.emitted) c.args.planes.now c.list_used.new.planes c.list_used.new.nodes c.list_used.auto.planes c.in_ok-n.ensures

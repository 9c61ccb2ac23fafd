-- `skopelyne::skopelyne_read` meets its contract. Assumes nothing.
use mathlib.Core.Path.{sym, subst}
use Prim.Native.Nat.{◌≤◌}
use Rattle.refusals.specs.Numbers.{lined}
use Rattle.skopelyne.proofs.Most.{read_most}
use Rattle.skopelyne.proofs.skopelyne_read.Goals as goal

pub returns-clause-answer : goal.returns-clause-answer
returns-clause-answer c = record { answer = lined c.read-r.result; promise = c.read-r.ensures; counted = c.judged.ensures }

pub returns-clause-number : goal.returns-clause-number
returns-clause-number c = subst (λ n. n ≤ 10) (sym c.judged.ensures.number) (read_most c.read-r.result)

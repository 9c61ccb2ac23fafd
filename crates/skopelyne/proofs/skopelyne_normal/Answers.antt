-- `skopelyne::skopelyne_normal` meets its contract. Assumes nothing.
use mathlib.Core.Path.{sym, subst}
use Prim.Native.Nat.{◌≤◌}
use Rattle.refusals.specs.Numbers.{numbered}
use Rattle.skopelyne.proofs.Most.{given_most}
use Rattle.skopelyne.proofs.skopelyne_normal.Goals as goal

pub returns-clause-answer : goal.returns-clause-answer
returns-clause-answer c = record { answer = numbered c.normal-r.result; promise = c.normal-r.ensures; counted = c.give.ensures }

pub returns-clause-number : goal.returns-clause-number
returns-clause-number c = subst (λ n. n ≤ 10) (sym c.give.ensures.number) (given_most c.normal-r.result)

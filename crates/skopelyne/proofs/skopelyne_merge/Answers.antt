-- `skopelyne::skopelyne_merge` meets its contract. Assumes nothing.
use mathlib.Core.Path.{sym, subst}
use Prim.Native.Nat.{◌≤◌}
use Rattle.refusals.specs.Numbers.{numbered}
use Rattle.skopelyne.proofs.Most.{given_most}
use Rattle.skopelyne.proofs.skopelyne_merge.Goals as goal

pub returns-clause-answer : goal.returns-clause-answer
returns-clause-answer c = record { answer = numbered c.merge-r.result; promise = c.merge-r.ensures; counted = c.give.ensures }

pub returns-clause-number : goal.returns-clause-number
returns-clause-number c = subst (λ n. n ≤ 10) (sym c.give.ensures.number) (given_most c.merge-r.result)

-- `skopelyne::skopelyne_write` meets its contract. Assumes nothing.
use mathlib.Core.Path.{sym, subst}
use Prim.Native.Nat.{◌≤◌}
use Rattle.refusals.specs.Numbers.{numbered}
use Rattle.skopelyne.proofs.Most.{told_most}
use Rattle.skopelyne.proofs.skopelyne_write.Goals as goal

pub returns-clause-answer : goal.returns-clause-answer
returns-clause-answer c = record { answer = numbered c.write.result; promise = c.write.ensures; number = c.tell.ensures.number; length = c.tell.ensures.value }

pub returns-clause-number : goal.returns-clause-number
returns-clause-number c = subst (λ n. n ≤ 10) (sym c.tell.ensures.number) (told_most 0 c.write.result)

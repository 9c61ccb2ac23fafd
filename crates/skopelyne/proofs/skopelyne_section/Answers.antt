-- `skopelyne::skopelyne_section` meets its contract. Assumes nothing.
use mathlib.Core.Path.{sym, subst}
use Prim.Native.Nat.{◌≤◌}
use mir.Facts.{to_z-of_z}
use Rattle.refusals.specs.Numbers.{numbered}
use Rattle.sections.specs.Promises.{SectionTold}
use Rattle.skopelyne.proofs.Most.{section_most}
use Rattle.skopelyne.proofs.skopelyne_section.Goals as goal

pub returns-clause-answer : goal.returns-clause-answer
returns-clause-answer c = record { answer = numbered c.section-r.result; promise = subst (λ p. SectionTold p c.args.halves.now c.args.bounds.now c.section-r.new.bounds c.args.work.now c.section-r.new.work (numbered c.section-r.result)) (λ i. record { a = to_z-of_z c.ranges.a i; b = to_z-of_z c.ranges.b i; c = to_z-of_z c.ranges.c i; d = to_z-of_z c.ranges.d i }) c.section-r.ensures; number = c.bounded.ensures.0; count = c.bounded.ensures.1 }

pub returns-clause-number : goal.returns-clause-number
returns-clause-number c = subst (λ n. n ≤ 10) (sym c.bounded.ensures.0) (section_most c.section-r.result)

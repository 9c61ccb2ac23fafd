-- What follows a leaf of a walk on a plane.
--     decides_map        the answer to the same question put otherwise
--     marks_differ       two marks, as the code compares them and as they are told
use mathlib.Core.Path.{◌≡◌, refl, sym, ◌∙◌}
use mathlib.Core.Bool.{Bool, not}
use mathlib.Core.Logic.{◌≢◌}
use denote.Enum.Bare.{sameb}
use Rattle.std.specs.Prelude.{Decides}
use Rattle.std.proofs.lemmas.Bool.{false≢true}
use Rattle.whole.specs.Tests.{differ}
use Rattle.scope.specs.Solids.{Mark, IN, OUT}
use Rattle.walks.specs.declared.operations.Mark as marks
use Rattle.walks.specs.declared.operations.Mark.TheVariants.{In, Out}
use Rattle.walks.specs.contracts.operations.Mark.{the_type}
use Rattle.walks.specs.Marks.{mark_of}

pub decides_map : {X Y : Type 0} {z : Bool} → (X → Y) → (Y → X) → Decides z X → Decides z Y
decides_map f g d = (λ e. f (d.0 e), λ y. d.1 (g y))

pub marks_differ : (x y : marks.Mark) {m : Mark} → mark_of y ≡ m → Decides (not (sameb the_type x y)) (mark_of x ≢ m)
marks_differ In In e = (λ t. absurd (false≢true t), λ n. absurd (n e))
marks_differ In Out e = (λ t i. let d : IN ≡ OUT = i ∙ sym e in differ (cc), λ n. refl)
marks_differ Out In e = (λ t i. let d : OUT ≡ IN = i ∙ sym e in differ (cc), λ n. refl)
marks_differ Out Out e = (λ t. absurd (false≢true t), λ n. absurd (n e))

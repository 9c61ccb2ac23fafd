-- No second answer meets the promise of the public call: `tells_unique`, one answer, by the theory's `point_unique`, and one work table.
use Rattle.std.specs.Prelude.{◌≡◌, refl, List, ℕ, ℤ, Result, Ok, Err}
use Rattle.std.proofs.Common.{sym, ap, ◌∙◌}
use Rattle.scope.specs.Planes.{Point}
use Rattle.scope.specs.Solids.{Reply}
use Rattle.scope.specs.Answers.{Answer, given, refused}
use Rattle.theory.specs.Answers.{point_unique}
use Rattle.theory.specs.Text.Lent.{lent}
use Rattle.points.specs.Promises.{told, told_answer, Tells}
use Rattle.points.specs.declared.Place.{Place}
use Rattle.points.specs.declared.Place.TheVariants.{In, Out, On}

-- an answer from what it stands for
abbrev answered : Answer Reply → Result Place ℕ
answered (given r) = Ok (told r)
answered (refused k) = Err k

answered_back : (a : Result Place ℕ) → answered (told_answer a) ≡ a
answered_back (Ok In) = refl
answered_back (Ok Out) = refl
answered_back (Ok On) = refl
answered_back (Err k) = refl

module _ {xs : List ℤ} {ns : List ℕ} {r : ℕ} {w u v : List ℤ} where
  pub tells_unique : {X : Point} {a b : Result Place ℕ} → Tells xs ns r X w u a → Tells xs ns r X w v b → (a ≡ b) × (u ≡ v)
  tells_unique {X} {a} {b} h k =
      (sym (answered_back a) ∙ ap answered (point_unique (lent xs ns r) X h.answer k.answer) ∙ answered_back b, h.zeros ∙ sym k.zeros)

-- What follows from the promises.
--     section_unique     no second answer, and no second contents of the tables, fit the promise of a section
--     half_in            a half-space without fault is in range, and its normal is not zero
--     section_answered   for a lawful call the answer is the section's bounds, if they have room
--     nothing_told       a lawful call answers Nothing exactly if no point lies on the plane, strictly in the box and strictly in every half-space
use Rattle.std.specs.Prelude.{◌≡◌, refl, Option, None, Result, Ok, Bool, true, false, ◌≢◌, ◌↔◌, List, [], ◌∷◌, ◌++◌, ℕ, ◌/◌, ◌≤◌, leb, ℤ, length}
use Rattle.std.proofs.Common.{sym, ap, ◌∙◌}
use Rattle.std.proofs.Math.Option.{some}
use borrow.Author.Tests.{le-leb}
use Rattle.whole.specs.Tests.{differ, and_true}
use Rattle.whole.specs.Sign.{Sign, minus, nought, plus}
use Rattle.scope.specs.Limits.{most_halves, stated}
use Rattle.scope.specs.Planes.{Plane, in_range, lead, half_fault, half_faults}
use Rattle.scope.specs.Cells.{box, Cuts}
use Rattle.scope.specs.Section.{section}
use Rattle.scope.specs.Answers.{given, refused, no_fault, no_faults, quads, section_answer, section_by, bounds_by}
use Rattle.theory.specs.Section.{section_nothing}
use Rattle.planes.specs.Values.{plane}
use Rattle.planes.specs.declared.Plane as struct
use Rattle.sections.specs.Values.{section_of}
use Rattle.sections.specs.Promises.{SectionTold}

-- ---- no second answer

module _ {s : struct.Plane} {halves bounds work b₁ b₂ w₁ w₂ : List ℤ} {r₁ r₂ : Result (Option ℕ) ℕ} where
  pub section_unique : SectionTold s halves bounds b₁ work w₁ r₁ → SectionTold s halves bounds b₂ work w₂ r₂ → (r₁ ≡ r₂) × (b₁ ≡ b₂) × (w₁ ≡ w₂)
  section_unique h k = (h.answer ∙ sym k.answer, h.bounds_left ∙ sym k.bounds_left, h.work_left ∙ sym k.work_left)

-- ---- lawful calls

pub half_in : (p : Plane) → no_fault (half_fault p) ≡ true → (in_range p ≡ true) × (lead p ≢ nought)
unfolding half_fault
half_in p e = go (in_range p) (lead p) e
  where
    go : (b : Bool) (s : Sign) → no_fault (half_faults b s) ≡ true → (b ≡ true) × (s ≢ nought)
    go false s e = differ (cc)
    go true nought e = differ (cc)
    go true minus e = (refl, λ f. differ (cc))
    go true plus e = (refl, λ f. differ (cc))

-- a work table of the length stated, at most 128 half-spaces, all lawful
module _ (s : struct.Plane) (halves bounds work : List ℤ) (hs : List Plane) (w : stated ≤ length work) (q : quads halves ≡ some hs) (m : length hs ≤ most_halves) (l : no_faults (plane s ∷ hs) ≡ true) where
  pub section_answered : section_answer (length work) (length bounds) (plane s) halves ≡ bounds_by (length bounds / 4) (section (plane s) hs)
  unfolding section_answer section_by
  section_answered = let e = le-leb stated (length work) w in let f = le-leb (length hs) most_halves m in rw (e, q, f, l)

  normal : lead (plane s) ≢ nought
  normal = (half_in (plane s) (and_true (no_fault (half_fault (plane s))) (no_faults hs) l).0).1

  nothing_of : (room : ℕ) (bs : List Plane) → section_of (bounds_by room bs) ≡ Ok None → bs ≡ []
  nothing_of room [] e = refl
  nothing_of room (b ∷ bs) e = by (leb (length (b ∷ bs)) room) refl
    where
      by : (t : Bool) → leb (length (b ∷ bs)) room ≡ t → b ∷ bs ≡ []
      by true f = let g : section_of (given (b ∷ bs)) ≡ Ok None = rw f at e in differ (cc)
      by false f = let g : section_of (refused 8) ≡ Ok None = rw f at e in differ (cc)

  module _ {b₁ w₁ : List ℤ} {r : Result (Option ℕ) ℕ} (h : SectionTold s halves bounds b₁ work w₁ r) where
    pub nothing_told : (r ≡ Ok None) ↔ ¬ Cuts (plane s) (hs ++ box)
    nothing_told = (
      (λ e. (section_nothing (plane s) hs normal).0 (nothing_of (length bounds / 4) (section (plane s) hs) (ap section_of (sym section_answered) ∙ sym h.answer ∙ e))),
      (λ c. h.answer ∙ ap section_of section_answered ∙ ap (λ bs. section_of (bounds_by (length bounds / 4) bs)) ((section_nothing (plane s) hs normal).1 c)),
    )

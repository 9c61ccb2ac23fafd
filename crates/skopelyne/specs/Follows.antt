-- No second number, no second count and no second table meets the promise of a function of the library.
--     given_unique, read_out_unique, write_out_unique, text_out_unique, section_out_unique, point_out_unique
use Rattle.std.specs.Prelude.{◌≡◌, List, ℕ, ℤ}
use Rattle.std.proofs.Common.{sym, ap, ◌∙◌}
use Rattle.scope.specs.Planes.{Point}
use Rattle.planes.specs.declared.Plane.{Plane}
use Rattle.results.specs.Results.{Asked}
use Rattle.results.specs.Follows.{told_unique}
use Rattle.solids.specs.Follows.{read_unique, write_unique}
use Rattle.sections.specs.Follows.{section_unique}
use Rattle.points.specs.Only.{tells_unique}
use Rattle.texts.specs.Answers.{Job}
use Rattle.zones.specs.Follows.{text_told_unique}
use Rattle.skopelyne.specs.Numbers.{Counts, given_as, read_as, written_as, section_as, point_as, Counted}
use Rattle.skopelyne.specs.Exports.{GivenOut, ReadOut, WriteOut, TextOut, SectionOut, PointOut}

-- ---- no second answer

counted_unique : {c d : Counts} {k k₁ p p₁ n n₁ r r₁ : ℕ} → c ≡ d → Counted c k p n r → Counted d k₁ p₁ n₁ r₁ → (k ≡ k₁) × (p ≡ p₁) × (n ≡ n₁) × (r ≡ r₁)
counted_unique e h i = (h.number ∙ ap (λ c. c.number) e ∙ sym i.number, h.planes ∙ ap (λ c. c.planes) e ∙ sym i.planes, h.nodes ∙ ap (λ c. c.nodes) e ∙ sym i.nodes, h.root ∙ ap (λ c. c.root) e ∙ sym i.root)

module _ {xs xs' xs'' : List ℤ} {ns ns' ns'' : List ℕ} {w w' w'' : List ℤ} {k k₁ p p₁ n n₁ r r₁ : ℕ} where
  pub given_unique : {q : Asked} → GivenOut q xs xs' ns ns' w w' k p n r → GivenOut q xs xs'' ns ns'' w w'' k₁ p₁ n₁ r₁ → ((k ≡ k₁) × (p ≡ p₁) × (n ≡ n₁) × (r ≡ r₁)) × (xs' ≡ xs'') × (ns' ≡ ns'') × (w' ≡ w'')
  given_unique h i = let u = told_unique h.promise i.promise in (counted_unique (ap given_as u.0) h.counted i.counted, u.1, u.2, u.3)

  pub read_out_unique : {t : List ℕ} → ReadOut t xs xs' ns ns' w w' k p n r → ReadOut t xs xs'' ns ns'' w w'' k₁ p₁ n₁ r₁ → ((k ≡ k₁) × (p ≡ p₁) × (n ≡ n₁) × (r ≡ r₁)) × (xs' ≡ xs'') × (ns' ≡ ns'') × (w' ≡ w'')
  read_out_unique h i = let u = read_unique h.promise i.promise in (counted_unique (ap read_as u.0) h.counted i.counted, u.1, u.2, u.3)

module _ {u u' u'' : List ℕ} {w w' w'' : List ℤ} {k k₁ n n₁ : ℕ} where
  pub write_out_unique : {xs : List ℤ} {ns : List ℕ} {r : ℕ} → WriteOut xs ns r u u' w w' k n → WriteOut xs ns r u u'' w w'' k₁ n₁ → (k ≡ k₁) × (n ≡ n₁) × (u' ≡ u'') × (w' ≡ w'')
  write_out_unique h i = let e = write_unique h.promise i.promise in (h.number ∙ ap (λ a. (written_as a).0) e.0 ∙ sym i.number, h.length ∙ ap (λ a. (written_as a).1) e.0 ∙ sym i.length, e.1, e.2)

  pub text_out_unique : {job : Job} {t : List ℕ} → TextOut job t u u' w w' k n → TextOut job t u u'' w w'' k₁ n₁ → (k ≡ k₁) × (n ≡ n₁) × (u' ≡ u'') × (w' ≡ w'')
  text_out_unique h i = let e = text_told_unique h.promise i.promise in (h.number ∙ ap (λ a. (written_as a).0) e.0 ∙ sym i.number, h.length ∙ ap (λ a. (written_as a).1) e.0 ∙ sym i.length, e.1, e.2)

module _ {w w' w'' : List ℤ} {k k₁ n n₁ : ℕ} where
  pub section_out_unique : {s : Plane} {hs bs bs' bs'' : List ℤ} → SectionOut s hs bs bs' w w' k n → SectionOut s hs bs bs'' w w'' k₁ n₁ → (k ≡ k₁) × (n ≡ n₁) × (bs' ≡ bs'') × (w' ≡ w'')
  section_out_unique h i = let e = section_unique h.promise i.promise in (h.number ∙ ap (λ a. (section_as a).0) e.0 ∙ sym i.number, h.count ∙ ap (λ a. (section_as a).1) e.0 ∙ sym i.count, e.1, e.2)

  pub point_out_unique : {xs : List ℤ} {ns : List ℕ} {r : ℕ} {X : Point} → PointOut xs ns r X w w' k n → PointOut xs ns r X w w'' k₁ n₁ → (k ≡ k₁) × (n ≡ n₁) × (w' ≡ w'')
  point_out_unique h i = let e = tells_unique h.promise i.promise in (h.number ∙ ap (λ a. (point_as a).0) e.0 ∙ sym i.number, h.place ∙ ap (λ a. (point_as a).1) e.0 ∙ sym i.place, e.1)

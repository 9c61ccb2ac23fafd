-- Members of a list, and places in it.
use Rattle.std.specs.Prelude.{◌≡◌, List, [], ◌∷◌, ◌++◌, ◌≢◌, ◌⊎◌, ℕ, zero, suc, ◌<◌, length}
use Rattle.std.proofs.Math.Path.{refl, sym}
use Rattle.std.proofs.Common.{ap, ◌∙◌, inl, inr, arith}
use Rattle.std.proofs.Math.Option.{none, some}
use Rattle.std.proofs.Math.ListN.{get_elem?}
use Rattle.whole.specs.Tests.{differ}
use Rattle.whole.specs.Lists.{Each, Each.none, Each.◌and◌}

infix 5 ◌∈◌
pub data ◌∈◌ {A : Type 0} (p : A) : List A → Type 0 where
  here : {q : A} {qs : List A} → p ≡ q → p ∈ (q ∷ qs)
  there : {q : A} {qs : List A} → p ∈ qs → p ∈ (q ∷ qs)

module _ {A : Type 0} where
  pub in_left : {p : A} {ps : List A} (qs : List A) → p ∈ ps → p ∈ (ps ++ qs)
  in_left qs (here e) = here e
  in_left qs (there m) = there (in_left qs m)

  pub in_right : {p : A} (ps : List A) {qs : List A} → p ∈ qs → p ∈ (ps ++ qs)
  in_right [] m = m
  in_right (q ∷ ps) m = there (in_right ps m)

  pub in_either : {p : A} (ps qs : List A) → p ∈ (ps ++ qs) → (p ∈ ps) ⊎ (p ∈ qs)
  in_either [] qs m = inr m
  in_either (q ∷ ps) qs (here e) = inl (here e)
  in_either {p} (q ∷ ps) qs (there m) = go (in_either ps qs m)
    where
      go : (p ∈ ps) ⊎ (p ∈ qs) → (p ∈ (q ∷ ps)) ⊎ (p ∈ qs)
      go (inl m) = inl (there m)
      go (inr m) = inr m

  -- what holds of each entry, by its members and as a list
  pub each_in : {Q : A → Type 0} {ps : List A} → Each Q ps → (p : A) → p ∈ ps → Q p
  each_in none p m = elim m [ ]
  each_in (q and e) p (here d) = rw d q
  each_in (q and e) p (there m) = each_in e p m

  pub in_each : {Q : A → Type 0} (ps : List A) → ((p : A) → p ∈ ps → Q p) → Each Q ps
  in_each [] f = none
  in_each (p ∷ ps) f = f p (here refl) and in_each ps (λ q m. f q (there m))

  -- ---- the list without one place

  pub without : {p : A} (ps : List A) → p ∈ ps → List A
  without [] m = elim m [ ]
  without (q ∷ ps) (here e) = ps
  without (q ∷ ps) (there m) = q ∷ without ps m

  pub without_length : {p : A} (ps : List A) (m : p ∈ ps) → length ps ≡ suc (length (without ps m))
  unfolding without
  without_length [] m = elim m [ ]
  without_length (q ∷ ps) (here e) = refl
  without_length (q ∷ ps) (there m) = omega (arith, without_length ps m)

  pub without_in : {p q : A} (ps : List A) (m : p ∈ ps) → q ∈ ps → q ≢ p → q ∈ without ps m
  unfolding without
  without_in [] m k n = elim m [ ]
  without_in (r ∷ ps) (here e) (here d) n = absurd (n (d ∙ sym e))
  without_in (r ∷ ps) (here e) (there k) n = k
  without_in (r ∷ ps) (there m) (here d) n = here d
  without_in (r ∷ ps) (there m) (there k) n = there (without_in ps m k n)

  -- ---- places

  pub elem_in : (ps : List A) (n : ℕ) {p : A} → get_elem? ps n ≡ some p → p ∈ ps
  elem_in [] n e = differ (cc)
  elem_in (q ∷ qs) zero {p} e = let d : p ≡ q = cc in here d
  elem_in (q ∷ qs) (suc n) e = there (elem_in qs n e)

  pub elem_small : (ps : List A) (n : ℕ) {p : A} → get_elem? ps n ≡ some p → n < length ps
  elem_small [] n e = differ (cc)
  elem_small (q ∷ qs) zero e = omega arith
  elem_small (q ∷ qs) (suc n) {p} e = omega (arith, elem_small qs n {p = p} e)

  pub elem_at : (ps : List A) (n : ℕ) → n < length ps → (p : A) × (get_elem? ps n ≡ some p)
  elem_at [] n h = absurd (omega arith)
  elem_at (q ∷ qs) zero h = (q, refl)
  elem_at (q ∷ qs) (suc n) h = elem_at qs n (omega arith)

  pub in_elem : {p : A} {ps : List A} → p ∈ ps → (n : ℕ) × (get_elem? ps n ≡ some p)
  in_elem (here e) = (0, ap some (sym e))
  in_elem (there m) = let r = in_elem m in (suc r.0, r.1)

  -- two lists that begin alike in length
  pub parts : (xs us : List A) {ys vs : List A} → length xs ≡ length us → xs ++ ys ≡ us ++ vs → (xs ≡ us) × (ys ≡ vs)
  parts [] [] l e = (refl, e)
  parts [] (u ∷ us) l e = absurd (omega arith)
  parts (x ∷ xs) [] l e = absurd (omega arith)
  parts (x ∷ xs) (u ∷ us) {ys} {vs} l e =
      let d : x ≡ u = cc in
      let r = parts xs us {ys = ys} {vs = vs} (omega arith) (cc) in
      (cc r.0, r.1)

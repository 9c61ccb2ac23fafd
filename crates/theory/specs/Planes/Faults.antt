-- What may be wrong with a plane: a lawful plane has no fault, any other has one, and each fault says what it found.
--     Ranged, ranged, in_range_of              a, b, c and d in range
--     fault_none, lawful_of, fault_unlawful    no fault, exactly in a lawful plane
--     Blamed, blamed                           what each of the four faults says
--     LawfulHalf, half_none, half_lawful_of    no fault, exactly in a half-space in range whose normal is not zero
--     half_blamed                              what each of its two faults says
use Rattle.std.specs.Prelude.{◌≡◌, Bool, ◌≢◌, ℕ, leb, eqb, ℤ, pos, nat_abs}
use Rattle.std.proofs.Math.Path.{refl}
use Rattle.std.proofs.Common.{subst, leb→le, le→leb, eqb→eq}
use Rattle.std.proofs.Math.Bool.{true, false}
use Rattle.std.proofs.Math.Option.{none, some}
use Rattle.std.proofs.Math.Dec.{T}
use Rattle.whole.specs.Tests.{◌and◌, differ, is_true, true_is, and_split, and_make, eq_test}
use Rattle.whole.specs.Order.{◌⋖◌}
use Rattle.whole.specs.Sign.{Sign, minus, nought, plus, sgn, below_of, nought_of}
use Rattle.whole.specs.Bounds.{Within}
use Rattle.scope.specs.Limits.{most_abc, most_d}
use Rattle.scope.specs.Planes.{Plane, in_range, then, lead, common, Lawful, Fault, out_of_range, zero_normal, not_reduced, wrong_sign, faults, fault, half_faults, half_fault}

-- ---- in range

pub record Ranged (p : Plane) : Type 0 where
  pub a : Within p.x most_abc
  pub b : Within p.y most_abc
  pub c : Within p.z most_abc
  pub d : Within p.w most_d

test_within : (z : ℤ) (B : ℕ) → T (leb (nat_abs z) B) → Within z B
test_within z B t = record { within = leb→le (nat_abs z) B t }

within_test : (z : ℤ) (B : ℕ) → Within z B → T (leb (nat_abs z) B)
within_test z B h = le→leb (nat_abs z) B h.within

module _ (p : Plane) where
  abbrev from_c : Bool
  from_c = leb (nat_abs p.z) most_abc and leb (nat_abs p.w) most_d

  abbrev from_b : Bool
  from_b = leb (nat_abs p.y) most_abc and from_c

  -- the test of range says that each number is in range
  pub ranged : T (in_range p) → Ranged p
  unfolding in_range
  ranged t =
      let u = and_split (leb (nat_abs p.x) most_abc) from_b t in
      let v = and_split (leb (nat_abs p.y) most_abc) from_c u.1 in
      let w = and_split (leb (nat_abs p.z) most_abc) (leb (nat_abs p.w) most_d) v.1 in
      record { a = test_within p.x most_abc u.0; b = test_within p.y most_abc v.0; c = test_within p.z most_abc w.0; d = test_within p.w most_d w.1 }

  -- and numbers in range pass it
  pub in_range_of : Ranged p → T (in_range p)
  unfolding in_range
  in_range_of r = and_make (leb (nat_abs p.x) most_abc) from_b (within_test p.x most_abc r.a)
      (and_make (leb (nat_abs p.y) most_abc) from_c (within_test p.y most_abc r.b)
      (and_make (leb (nat_abs p.z) most_abc) (leb (nat_abs p.w) most_d) (within_test p.z most_abc r.c) (within_test p.w most_d r.d)))

  out_of : in_range p ≡ false → ¬ Ranged p
  out_of e r = subst T e (in_range_of r)

-- ---- lawful planes

-- a lawful plane has no fault
pub fault_none : (p : Plane) → Lawful p → fault p ≡ none
unfolding fault
fault_none p l = rw (is_true (in_range p) l.range, l.normal, l.reduced)

-- a plane with no fault is lawful
pub lawful_of : (p : Plane) → fault p ≡ none → Lawful p
unfolding fault
lawful_of p = go (in_range p) (lead p) (eqb (common p) 1) refl refl (eqb→eq (common p) 1)
  where
    go : (b : Bool) (s : Sign) (c : Bool) → in_range p ≡ b → lead p ≡ s → (T c → common p ≡ 1) → faults b s c ≡ none → Lawful p
    go false s c h k l e = differ (cc)
    go true nought c h k l e = differ (cc)
    go true minus false h k l e = differ (cc)
    go true minus true h k l e = differ (cc)
    go true plus false h k l e = differ (cc)
    go true plus true h k l e = record { range = true_is (in_range p) h; normal = k; reduced = l tt }

-- so a plane with a fault is not lawful
pub fault_unlawful : (p : Plane) (f : Fault) → fault p ≡ some f → ¬ Lawful p
fault_unlawful p f e l = differ (cc (fault_none p l))

-- ---- what a fault says

-- the first nonzero among a, b, c is negative
pub data Trailing (p : Plane) : Type 0 where
  trail_a : p.x ⋖ pos 0 → Trailing p
  trail_b : p.x ≡ pos 0 → p.y ⋖ pos 0 → Trailing p
  trail_c : p.x ≡ pos 0 → p.y ≡ pos 0 → p.z ⋖ pos 0 → Trailing p

-- what each fault says
pub data Blamed (p : Plane) : Fault → Type 0 where
  far : ¬ Ranged p → Blamed p out_of_range
  flat : p.x ≡ pos 0 → p.y ≡ pos 0 → p.z ≡ pos 0 → Blamed p zero_normal
  divided : common p ≢ 1 → Blamed p not_reduced
  turned : common p ≡ 1 → Trailing p → Blamed p wrong_sign

-- the sign of the first nonzero, for the signs that may be blamed
data Lead (p : Plane) : Sign → Type 0 where
  leads : Lead p plus
  level : Blamed p zero_normal → Lead p nought
  trails : Trailing p → Lead p minus

lead_is : (p : Plane) → Lead p (lead p)
unfolding lead
lead_is p = go (sgn p.x) (sgn p.y) (sgn p.z) refl refl refl
  where
    go : (a b c : Sign) → sgn p.x ≡ a → sgn p.y ≡ b → sgn p.z ≡ c → Lead p (then a (then b c))
    go plus b c h i j = leads
    go nought plus c h i j = leads
    go nought nought plus h i j = leads
    go nought nought nought h i j = level (flat (nought_of p.x h) (nought_of p.y i) (nought_of p.z j))
    go nought nought minus h i j = trails (trail_c (nought_of p.x h) (nought_of p.y i) (below_of p.z j))
    go nought minus c h i j = trails (trail_b (nought_of p.x h) (below_of p.y i))
    go minus b c h i j = trails (trail_a (below_of p.x h))

module _ (p : Plane) (f : Fault) where
  named : {g : Fault} → some g ≡ some f → Blamed p g → Blamed p f
  named {g} e b = let x : g ≡ f = cc in subst (Blamed p) x b

  -- a fault that is found is there
  pub blamed : fault p ≡ some f → Blamed p f
  unfolding fault
  blamed = go (in_range p) (lead p) (eqb (common p) 1) refl (lead_is p) (eqb→eq (common p) 1) (eq_test (common p) 1)
    where
      go : (b : Bool) (s : Sign) (c : Bool) → in_range p ≡ b → Lead p s → (T c → common p ≡ 1) → (common p ≡ 1 → T c) → faults b s c ≡ some f → Blamed p f
      go false s c h l j k e = named e (far (out_of p h))
      go true nought c h (level b) j k e = named e b
      go true minus false h l j k e = named e (divided k)
      go true minus true h (trails t) j k e = named e (turned (j tt) t)
      go true plus false h l j k e = named e (divided k)
      go true plus true h l j k e = differ (cc)

  -- the same of a half-space
  pub half_blamed : half_fault p ≡ some f → Blamed p f
  unfolding half_fault
  half_blamed = go (in_range p) (lead p) refl (lead_is p)
    where
      go : (b : Bool) (s : Sign) → in_range p ≡ b → Lead p s → half_faults b s ≡ some f → Blamed p f
      go false s h l e = named e (far (out_of p h))
      go true nought h (level b) e = named e b
      go true minus h l e = differ (cc)
      go true plus h l e = differ (cc)

-- ---- half-spaces of a section

-- range and nonzero normal suffice
pub record LawfulHalf (p : Plane) : Type 0 where
  pub range : T (in_range p)
  pub normal : lead p ≢ nought

-- such a half-space has no fault
pub half_none : (p : Plane) → LawfulHalf p → half_fault p ≡ none
unfolding half_fault
half_none p l = rw (is_true (in_range p) l.range) (go (lead p) l.normal)
  where
    go : (s : Sign) → s ≢ nought → half_faults true s ≡ none
    go plus h = refl
    go nought h = absurd (h refl)
    go minus h = refl

-- and a half-space with no fault is such
pub half_lawful_of : (p : Plane) → half_fault p ≡ none → LawfulHalf p
unfolding half_fault
half_lawful_of p = go (in_range p) (lead p) refl refl
  where
    go : (b : Bool) (s : Sign) → in_range p ≡ b → lead p ≡ s → half_faults b s ≡ none → LawfulHalf p
    go false s h k e = differ (cc)
    go true nought h k e = differ (cc)
    go true minus h k e = record { range = true_is (in_range p) h; normal = λ i. differ (cc) }
    go true plus h k e = record { range = true_is (in_range p) h; normal = λ i. differ (cc) }

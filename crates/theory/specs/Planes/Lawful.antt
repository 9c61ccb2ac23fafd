-- Lawful planes, by divisors and by cases: a common divisor is 1, and the first nonzero among a, b, c is positive.
--     Divides, Primitive, primitive   no other common divisor
--     Leading, leading                the first nonzero
--     lawful_nonzero                  a lawful plane is not nothing
use Rattle.std.specs.Prelude.{◌≡◌, refl, [], ◌∷◌, ℕ, ℤ, pos, negsuc, nat_abs, ◌*ℤ◌}
use Rattle.std.proofs.Common.{ap, ◌∙◌, arith}
use Rattle.whole.specs.Tests.{differ}
use Rattle.whole.specs.Expr.{#, ◌⊕◌, ◌⊗◌}
use Rattle.whole.specs.Solve.{nums}
use Rattle.whole.specs.Lin.{lin, ◌⊢◌, ◌≦◌, ◌≺◌}
use Rattle.whole.specs.Bounds.{abs_mul}
use Rattle.whole.specs.Order.{◌⋖◌, mul_pos, sq_nonneg}
use Rattle.whole.specs.Sign.{Sign, minus, nought, plus, sgn, above_of, nought_of}
use Rattle.whole.specs.Gcd.{gcd, Div, div_one, gcd_greatest}
use Rattle.scope.specs.Planes.{Plane, at, then, lead, common, Lawful}
use Rattle.theory.specs.Planes.General.{Nonzero}

-- ---- what is lawful, by divisors and by cases

pub record Divides (d z : ℤ) : Type 0 where
  pub times : ℤ
  pub exact : z ≡ times *ℤ d

pub record Primitive (p : Plane) : Type 0 where
  pub only : (d : ℤ) → pos 0 ⋖ d → Divides d p.x → Divides d p.y → Divides d p.z → Divides d p.w → d ≡ pos 1

to_nat : {d z : ℤ} → Divides d z → Div (nat_abs d) (nat_abs z)
to_nat {d} {z} h = record { times = nat_abs h.times; exact = ap nat_abs h.exact ∙ abs_mul h.times d }

common_greatest : (p : Plane) (d : ℕ) → Div d (nat_abs p.x) → Div d (nat_abs p.y) → Div d (nat_abs p.z) → Div d (nat_abs p.w) → Div d (common p)
unfolding common
common_greatest p d h k l m = gcd_greatest (nat_abs p.x) (gcd (nat_abs p.y) (gcd (nat_abs p.z) (nat_abs p.w))) d h
    (gcd_greatest (nat_abs p.y) (gcd (nat_abs p.z) (nat_abs p.w)) d k (gcd_greatest (nat_abs p.z) (nat_abs p.w) d l m))

positive_one : (d : ℤ) → pos 0 ⋖ d → nat_abs d ≡ 1 → d ≡ pos 1
positive_one (pos n) h e = ap pos e
positive_one (negsuc n) h e = absurd h.lt

pub primitive : {p : Plane} → Lawful p → Primitive p
primitive {p} l = record { only = λ d h a b c w. positive_one d h (div_one (nat_abs d) (rw l.reduced at (common_greatest p (nat_abs d) (to_nat a) (to_nat b) (to_nat c) (to_nat w)))) }

-- the first nonzero among a, b, c is positive
pub data Leading (p : Plane) : Type 0 where
  lead_a : pos 0 ⋖ p.x → Leading p
  lead_b : p.x ≡ pos 0 → pos 0 ⋖ p.y → Leading p
  lead_c : p.x ≡ pos 0 → p.y ≡ pos 0 → pos 0 ⋖ p.z → Leading p

plus_lead : (p : Plane) → lead p ≡ plus → Leading p
unfolding lead
plus_lead p = go (sgn p.x) (sgn p.y) (sgn p.z) refl refl refl
  where
    go : (a b c : Sign) → sgn p.x ≡ a → sgn p.y ≡ b → sgn p.z ≡ c → then a (then b c) ≡ plus → Leading p
    go plus b c h k l e = lead_a (above_of p.x h)
    go nought plus c h k l e = lead_b (nought_of p.x h) (above_of p.y k)
    go nought nought plus h k l e = lead_c (nought_of p.x h) (nought_of p.y k) (above_of p.z l)
    go nought nought nought h k l e = differ (cc)
    go nought nought minus h k l e = differ (cc)
    go nought minus c h k l e = differ (cc)
    go minus b c h k l e = differ (cc)

pub leading : {p : Plane} → Lawful p → Leading p
leading {p} l = plus_lead p l.normal

-- ---- as a row of four numbers

leading_nonzero : {p : Plane} → Leading p → Nonzero p
unfolding at
leading_nonzero {p} (lead_a h) = lin (nums 4) (λ x y z w. (# 0 ≺ x ⊗ x) ∷ (# 0 ≦ y ⊗ y) ∷ (# 0 ≦ z ⊗ z) ∷ (# 0 ≦ w ⊗ w) ∷ [] ⊢ # 0 ≺ x ⊗ x ⊕ y ⊗ y ⊕ z ⊗ z ⊕ w ⊗ w) (omega arith) p.x p.y p.z p.w
    (mul_pos h h) (sq_nonneg p.y) (sq_nonneg p.z) (sq_nonneg p.w)
leading_nonzero {p} (lead_b e h) = lin (nums 4) (λ x y z w. (# 0 ≦ x ⊗ x) ∷ (# 0 ≺ y ⊗ y) ∷ (# 0 ≦ z ⊗ z) ∷ (# 0 ≦ w ⊗ w) ∷ [] ⊢ # 0 ≺ x ⊗ x ⊕ y ⊗ y ⊕ z ⊗ z ⊕ w ⊗ w) (omega arith) p.x p.y p.z p.w
    (sq_nonneg p.x) (mul_pos h h) (sq_nonneg p.z) (sq_nonneg p.w)
leading_nonzero {p} (lead_c e d h) = lin (nums 4) (λ x y z w. (# 0 ≦ x ⊗ x) ∷ (# 0 ≦ y ⊗ y) ∷ (# 0 ≺ z ⊗ z) ∷ (# 0 ≦ w ⊗ w) ∷ [] ⊢ # 0 ≺ x ⊗ x ⊕ y ⊗ y ⊕ z ⊗ z ⊕ w ⊗ w) (omega arith) p.x p.y p.z p.w
    (sq_nonneg p.x) (sq_nonneg p.y) (mul_pos h h) (sq_nonneg p.w)

pub lawful_nonzero : {p : Plane} → Lawful p → Nonzero p
lawful_nonzero l = leading_nonzero (leading l)

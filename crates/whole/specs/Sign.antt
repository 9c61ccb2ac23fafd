-- The sign of a whole number, and of a product.
use Rattle.std.specs.Prelude.{◌≡◌, refl, [], ◌∷◌, zero, suc, ℤ, pos, negsuc, ◌*ℤ◌}
use Rattle.std.proofs.Common.{ap, ◌∙◌, arith}
use Rattle.whole.specs.Difference.{lt_parts}
use Rattle.whole.specs.Expr.{#, ◌⊗◌, neg}
use Rattle.whole.specs.Solve.{solve, ◌≐◌, nums}
use Rattle.whole.specs.Lin.{lin, ◌⊢◌, ◌≺◌}
use Rattle.whole.specs.Tests.{differ}
use Rattle.whole.specs.Order.{◌⋖◌, Lies, below, on, above, lies, mul_pos, neg_pos}

pub data Sign : Type 0 where
  minus : Sign
  nought : Sign
  plus : Sign

abbrev pub sgn : ℤ → Sign
sgn (pos zero) = nought
sgn (pos (suc n)) = plus
sgn (negsuc n) = minus

infixl 7 ◌·◌
abbrev pub ◌·◌ : Sign → Sign → Sign
plus · s = s
nought · s = nought
minus · plus = minus
minus · nought = nought
minus · minus = plus

pub sgn_above : {a : ℤ} → pos 0 ⋖ a → sgn a ≡ plus
sgn_above {a = pos zero} h = absurd h.lt
sgn_above {a = pos (suc n)} h = refl
sgn_above {a = negsuc n} h = absurd h.lt

pub sgn_below : {a : ℤ} → a ⋖ pos 0 → sgn a ≡ minus
sgn_below {a = pos n} h = absurd (omega (arith, lt_parts (pos n) (pos 0) h))
sgn_below {a = negsuc n} h = refl

pub above_of : (a : ℤ) → sgn a ≡ plus → pos 0 ⋖ a
above_of a e = go (lies a)
  where
    go : Lies a → pos 0 ⋖ a
    go (below h) = differ (cc (sgn_below h))
    go (on h) = differ (cc (ap sgn h))
    go (above h) = h

pub below_of : (a : ℤ) → sgn a ≡ minus → a ⋖ pos 0
below_of (pos zero) e = differ (cc)
below_of (pos (suc n)) e = differ (cc)
below_of (negsuc n) e = record { lt = tt }

pub nought_of : (a : ℤ) → sgn a ≡ nought → a ≡ pos 0
nought_of (pos zero) e = refl
nought_of (pos (suc n)) e = differ (cc)
nought_of (negsuc n) e = differ (cc)

pub sgn_mul : (a b : ℤ) → sgn (a *ℤ b) ≡ sgn a · sgn b
sgn_mul a b = go (lies a) (lies b)
  where
    zero_l : (y : ℤ) → pos 0 *ℤ y ≡ pos 0
    zero_l = solve (nums 1) (λ y. # 0 ⊗ y ≐ # 0) tt

    zero_r : (y : ℤ) → y *ℤ pos 0 ≡ pos 0
    zero_r = solve (nums 1) (λ y. y ⊗ # 0 ≐ # 0) tt

    go : Lies a → Lies b → sgn (a *ℤ b) ≡ sgn a · sgn b
    go (below h) (below k) = cc (sgn_above (lin (nums 2) (λ a b. (# 0 ≺ neg a ⊗ neg b) ∷ [] ⊢ # 0 ≺ a ⊗ b) (omega arith) a b (mul_pos (neg_pos h) (neg_pos k))), sgn_below h, sgn_below k)
    go (below h) (on k) = cc (ap sgn (ap (λ t. a *ℤ t) k ∙ zero_r a), sgn_below h, ap sgn k)
    go (below h) (above k) = cc (sgn_below (lin (nums 2) (λ a b. (# 0 ≺ neg a ⊗ b) ∷ [] ⊢ a ⊗ b ≺ # 0) (omega arith) a b (mul_pos (neg_pos h) k)), sgn_below h, sgn_above k)
    go (on h) k = cc (ap sgn (ap (λ t. t *ℤ b) h ∙ zero_l b), ap sgn h)
    go (above h) (below k) = cc (sgn_below (lin (nums 2) (λ a b. (# 0 ≺ a ⊗ neg b) ∷ [] ⊢ a ⊗ b ≺ # 0) (omega arith) a b (mul_pos h (neg_pos k))), sgn_above h, sgn_below k)
    go (above h) (on k) = cc (ap sgn (ap (λ t. a *ℤ t) k ∙ zero_r a), sgn_above h, ap sgn k)
    go (above h) (above k) = cc (sgn_above (mul_pos h k), sgn_above h, sgn_above k)

-- How the kit is used: examples of `lin`, `search signs` and `solve` together.
use mathlib.Core.Path.{◌≡◌}
use mathlib.Core.List.{[], ◌∷◌}
use mathlib.Core.Logic.{◌≢◌}
use native.Mathlib.Omega.{arith}
use lib.IntN.{ℤ, pos, ◌+ℤ◌, ◌-ℤ◌, ◌*ℤ◌}
use Rattle.whole.specs.Expr.{#, ◌⊕◌, ◌⊖◌, ◌⊗◌, neg}
use Rattle.whole.specs.Vec.{V3, dot3, det3, dot3ᴱ, cross3ᴱ}
use Rattle.whole.specs.Solve.{nums, vec3s}
use Rattle.whole.specs.Identities.{cramer_at}
use Rattle.whole.specs.Lin.{lin, ◌⊢◌, ◌≦◌, ◌≺◌, ◌≋◌, ◌≭◌}
use Rattle.whole.specs.Combo.{combo, ◌⊩◌, ◌⊠◌, ◌≗◌}
use Rattle.whole.specs.Order.{◌⩽◌, ◌⋖◌, signs, mul_nonneg, mul_cancel_le, sq_nonneg}

chain : (a b c : ℤ) → a ⩽ b → b ⋖ c → pos 2 *ℤ a +ℤ pos 1 ⋖ pos 2 *ℤ c
chain = lin (nums 3) (λ a b c. (a ≦ b) ∷ (b ≺ c) ∷ [] ⊢ # 2 ⊗ a ⊕ # 1 ≺ # 2 ⊗ c) (omega arith)

apart : (a b : ℤ) → a ≢ b → a ⩽ b → a +ℤ pos 1 ⩽ b
apart = lin (nums 2) (λ a b. (a ≭ b) ∷ (a ≦ b) ∷ [] ⊢ a ⊕ # 1 ≦ b) (omega arith)

-- a fact about a product is one more premise
mean : (a b : ℤ) → pos 2 *ℤ (a *ℤ b) ⩽ a *ℤ a +ℤ b *ℤ b
mean a b = lin (nums 2) (λ a b. (# 0 ≦ (a ⊖ b) ⊗ (a ⊖ b)) ∷ [] ⊢ # 2 ⊗ (a ⊗ b) ≦ a ⊗ a ⊕ b ⊗ b) (omega arith) a b (sq_nonneg (a -ℤ b))

positive : (a b c d : ℤ) → pos 0 ⋖ a → pos 0 ⩽ b → pos 0 ⋖ c → pos 0 ⋖ a *ℤ c +ℤ b *ℤ c +ℤ d *ℤ d
positive a b c d h k l = search signs

-- f is a combination of p, q and e with factors that are not negative: what is on the right side of those is on the right side of f
within : (p q e f u : V3 ℤ) → pos 0 ⋖ det3 p q e → pos 0 ⩽ det3 f q e → pos 0 ⩽ det3 p f e → pos 0 ⩽ det3 p q f
    → pos 0 ⩽ dot3 p u → pos 0 ⩽ dot3 q u → pos 0 ⩽ dot3 e u → pos 0 ⩽ dot3 f u
within p q e f u d a b c x y z = mul_cancel_le (lin (nums 5)
    (λ k v r s t. (k ⊗ v ≋ r ⊕ s ⊕ t) ∷ (# 0 ≦ r) ∷ (# 0 ≦ s) ∷ (# 0 ≦ t) ∷ [] ⊢ # 0 ⊗ k ≦ v ⊗ k) (omega arith)
    (det3 p q e) (dot3 f u) _ _ _ (cramer_at p q e f u) (mul_nonneg a x) (mul_nonneg b y) (mul_nonneg c z)) d

-- |p|² |q|² − (p·q)² is a sum of squares
cauchy : (p q : V3 ℤ) → dot3 p q *ℤ dot3 p q ⩽ dot3 p p *ℤ dot3 q q
cauchy p q = lin (vec3s 2)
    (λ p q. (# 0 ≦ dot3ᴱ (cross3ᴱ p q) (cross3ᴱ p q)) ∷ [] ⊢ dot3ᴱ p q ⊗ dot3ᴱ p q ≦ dot3ᴱ p p ⊗ dot3ᴱ q q) (omega arith) p q (search signs)

-- an equation from three, each with its factor: two vectors of four that are multiples of one another, and the form (a, b, c, d) at each
same_line : (x y z w x' y' z' w' : ℤ) (a b c d : ℤ) → x' *ℤ w ≡ x *ℤ w' → y' *ℤ w ≡ y *ℤ w' → z' *ℤ w ≡ z *ℤ w'
    → (a *ℤ x +ℤ b *ℤ y +ℤ c *ℤ z +ℤ d *ℤ w) *ℤ w' ≡ (a *ℤ x' +ℤ b *ℤ y' +ℤ c *ℤ z' +ℤ d *ℤ w') *ℤ w
same_line = combo (nums 12)
    (λ x y z w x' y' z' w' a b c d. (neg a ⊠ (x' ⊗ w ≗ x ⊗ w')) ∷ (neg b ⊠ (y' ⊗ w ≗ y ⊗ w')) ∷ (neg c ⊠ (z' ⊗ w ≗ z ⊗ w')) ∷ []
    ⊩ (a ⊗ x ⊕ b ⊗ y ⊕ c ⊗ z ⊕ d ⊗ w) ⊗ w' ≗ (a ⊗ x' ⊕ b ⊗ y' ⊕ c ⊗ z' ⊕ d ⊗ w') ⊗ w) tt

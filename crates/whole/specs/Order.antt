-- The order of ℤ. What is linear is `lin`'s; here are the laws of products, from which `lin` goes on, and the few linear facts that proofs cite most.
-- `◌≤ℤ◌` and `◌<ℤ◌` of `lib.Signed` bind tighter than `◌+ℤ◌`: `◌⩽◌` and `◌⋖◌` are the same two, and bind looser.
use Rattle.std.specs.Prelude.{◌≡◌, refl, [], ◌∷◌, zero, suc, ◌*◌, ℤ, pos, negsuc, neg_ℤ, ◌+ℤ◌, ◌-ℤ◌, ◌*ℤ◌, ◌≤ℤ◌, ◌<ℤ◌}
use Rattle.std.proofs.Common.{sym, ap, arith}
use Rattle.whole.specs.Difference.{parts_lt, parts_le}
use Rattle.whole.specs.Expr.{#, ◌⊕◌, ◌⊖◌, ◌⊗◌, neg}
use Rattle.whole.specs.Solve.{nums}
use Rattle.whole.specs.Lin.{lin, ◌⊢◌, ◌≦◌, ◌≺◌, ◌≋◌}

infix 5 ◌⩽◌ ◌⋖◌
abbrev pub ◌⩽◌ : ℤ → ℤ → Type 0
a ⩽ b = a ≤ℤ b

abbrev pub ◌⋖◌ : ℤ → ℤ → Type 0
a ⋖ b = a <ℤ b

-- ---- where a number lies: below 0, on it or above it

pub data Lies (a : ℤ) : Type 0 where
  below : a ⋖ pos 0 → Lies a
  on : a ≡ pos 0 → Lies a
  above : pos 0 ⋖ a → Lies a

pub lies : (a : ℤ) → Lies a
lies (pos zero) = on refl
lies (pos (suc n)) = above (parts_lt (pos 0) (pos (suc n)) (omega arith))
lies (negsuc n) = below (record { lt = tt })

-- ---- products

pub mul_pos : {a b : ℤ} → pos 0 ⋖ a → pos 0 ⋖ b → pos 0 ⋖ a *ℤ b
mul_pos {a = pos zero} {b} h k = absurd h.lt
mul_pos {a = pos (suc m)} {b = pos zero} h k = absurd k.lt
mul_pos {a = pos (suc m)} {b = pos (suc n)} h k = parts_lt (pos 0) (pos (suc m * suc n)) (omega arith)
mul_pos {a = pos (suc m)} {b = negsuc n} h k = absurd k.lt
mul_pos {a = negsuc m} {b} h k = absurd h.lt

pub mul_nonneg : {a b : ℤ} → pos 0 ⩽ a → pos 0 ⩽ b → pos 0 ⩽ a *ℤ b
mul_nonneg {a = pos m} {b = pos n} h k = parts_le (pos 0) (pos (m * n)) (omega arith)
mul_nonneg {a = pos m} {b = negsuc n} h k = absurd k.le
mul_nonneg {a = negsuc m} {b} h k = absurd h.le

pub sq_nonneg : (a : ℤ) → pos 0 ⩽ a *ℤ a
sq_nonneg (pos m) = parts_le (pos 0) (pos (m * m)) (omega arith)
sq_nonneg (negsuc m) = parts_le (pos 0) (pos (suc m * suc m)) (omega arith)

-- monotone
module _ {a b c : ℤ} where
  pub mul_mono : a ⩽ b → pos 0 ⩽ c → a *ℤ c ⩽ b *ℤ c
  mul_mono h k = lin (nums 3) (λ a b c. (# 0 ≦ (b ⊖ a) ⊗ c) ∷ [] ⊢ a ⊗ c ≦ b ⊗ c) (omega arith) a b c
      (mul_nonneg (lin (nums 2) (λ a b. (a ≦ b) ∷ [] ⊢ # 0 ≦ b ⊖ a) (omega arith) a b h) k)

  pub mul_mono_lt : a ⋖ b → pos 0 ⋖ c → a *ℤ c ⋖ b *ℤ c
  mul_mono_lt h k = lin (nums 3) (λ a b c. (# 0 ≺ (b ⊖ a) ⊗ c) ∷ [] ⊢ a ⊗ c ≺ b ⊗ c) (omega arith) a b c
      (mul_pos (lin (nums 2) (λ a b. (a ≺ b) ∷ [] ⊢ # 0 ≺ b ⊖ a) (omega arith) a b h) k)

  -- and back
  pub mul_cancel_lt : a *ℤ c ⋖ b *ℤ c → pos 0 ⋖ c → a ⋖ b
  mul_cancel_lt h k = go (lies (b -ℤ a))
    where
      go : Lies (b -ℤ a) → a ⋖ b
      go (below t) = lin (nums 3) (λ a b c. (a ⊗ c ≺ b ⊗ c) ∷ (# 0 ≺ (a ⊖ b) ⊗ c) ∷ [] ⊢ a ≺ b) (omega arith) a b c h
          (mul_pos (lin (nums 2) (λ a b. (b ⊖ a ≺ # 0) ∷ [] ⊢ # 0 ≺ a ⊖ b) (omega arith) a b t) k)
      go (on t) = lin (nums 3) (λ a b c. (a ⊗ c ≺ b ⊗ c) ∷ (a ⊗ c ≋ b ⊗ c) ∷ [] ⊢ a ≺ b) (omega arith) a b c h
          (ap (λ t. t *ℤ c) (lin (nums 2) (λ a b. (b ⊖ a ≋ # 0) ∷ [] ⊢ a ≋ b) (omega arith) a b t))
      go (above t) = lin (nums 2) (λ a b. (# 0 ≺ b ⊖ a) ∷ [] ⊢ a ≺ b) (omega arith) a b t

pub mul_pos_cancel : {a b : ℤ} → pos 0 ⋖ a *ℤ b → pos 0 ⋖ b → pos 0 ⋖ a
mul_pos_cancel {a} {b} h k = mul_cancel_lt (lin (nums 2) (λ a b. (# 0 ≺ a ⊗ b) ∷ [] ⊢ # 0 ⊗ b ≺ a ⊗ b) (omega arith) a b h) k

pub mul_cancel_le : {a b c : ℤ} → a *ℤ c ⩽ b *ℤ c → pos 0 ⋖ c → a ⩽ b
mul_cancel_le {a} {b} {c} h k = go (lies (a -ℤ b))
  where
    go : Lies (a -ℤ b) → a ⩽ b
    go (below t) = lin (nums 2) (λ a b. (a ⊖ b ≺ # 0) ∷ [] ⊢ a ≦ b) (omega arith) a b t
    go (on t) = lin (nums 2) (λ a b. (a ⊖ b ≋ # 0) ∷ [] ⊢ a ≦ b) (omega arith) a b t
    go (above t) = lin (nums 3) (λ a b c. (a ⊗ c ≦ b ⊗ c) ∷ (# 0 ≺ (a ⊖ b) ⊗ c) ∷ [] ⊢ a ≦ b) (omega arith) a b c h (mul_pos t k)

-- ---- sums, and rules for `search`: `search signs` proves `pos 0 ⩽ a *ℤ b +ℤ c *ℤ c` from `pos 0 ⩽ a` and `pos 0 ⋖ b`

pub lt_le : {a b : ℤ} → a ⋖ b → a ⩽ b
lt_le {a} {b} = lin (nums 2) (λ a b. (a ≺ b) ∷ [] ⊢ a ≦ b) (omega arith) a b

pub eq_le : {a b : ℤ} → a ≡ b → a ⩽ b
eq_le {a} {b} = lin (nums 2) (λ a b. (a ≋ b) ∷ [] ⊢ a ≦ b) (omega arith) a b

pub le_antisym : {a b : ℤ} → a ⩽ b → b ⩽ a → a ≡ b
le_antisym {a} {b} = lin (nums 2) (λ a b. (a ≦ b) ∷ (b ≦ a) ∷ [] ⊢ a ≋ b) (omega arith) a b

pub add_nonneg : {a b : ℤ} → pos 0 ⩽ a → pos 0 ⩽ b → pos 0 ⩽ a +ℤ b
add_nonneg {a} {b} = lin (nums 2) (λ a b. (# 0 ≦ a) ∷ (# 0 ≦ b) ∷ [] ⊢ # 0 ≦ a ⊕ b) (omega arith) a b

pub add_pos : {a b : ℤ} → pos 0 ⋖ a → pos 0 ⩽ b → pos 0 ⋖ a +ℤ b
add_pos {a} {b} = lin (nums 2) (λ a b. (# 0 ≺ a) ∷ (# 0 ≦ b) ∷ [] ⊢ # 0 ≺ a ⊕ b) (omega arith) a b

pub add_pos' : {a b : ℤ} → pos 0 ⩽ a → pos 0 ⋖ b → pos 0 ⋖ a +ℤ b
add_pos' {a} {b} = lin (nums 2) (λ a b. (# 0 ≦ a) ∷ (# 0 ≺ b) ∷ [] ⊢ # 0 ≺ a ⊕ b) (omega arith) a b

pub ruleset signs = (lt_le, mul_pos, mul_nonneg, sq_nonneg, add_nonneg, add_pos, add_pos')

pub mul_cancel : {a b c : ℤ} → a *ℤ c ≡ b *ℤ c → pos 0 ⋖ c → a ≡ b
mul_cancel h k = le_antisym (mul_cancel_le (eq_le h) k) (mul_cancel_le (eq_le (sym h)) k)

-- ---- a positive factor is taken away, from the left

pub pos_cancel : {a b : ℤ} → pos 0 ⋖ a *ℤ b → pos 0 ⋖ a → pos 0 ⋖ b
pos_cancel {a} {b} h k = mul_pos_cancel (lin (nums 2) (λ a b. (# 0 ≺ a ⊗ b) ∷ [] ⊢ # 0 ≺ b ⊗ a) (omega arith) a b h) k

pub nonneg_cancel : {a b : ℤ} → pos 0 ⩽ a *ℤ b → pos 0 ⋖ a → pos 0 ⩽ b
nonneg_cancel {a} {b} h k = mul_cancel_le (lin (nums 2) (λ a b. (# 0 ≦ a ⊗ b) ∷ [] ⊢ # 0 ⊗ a ≦ b ⊗ a) (omega arith) a b h) k

-- ---- negation, and what cannot be

pub neg_pos : {a : ℤ} → a ⋖ pos 0 → pos 0 ⋖ neg_ℤ a
neg_pos {a} = lin (nums 1) (λ a. (a ≺ # 0) ∷ [] ⊢ # 0 ≺ neg a) (omega arith) a

pub neg_nonneg : {a : ℤ} → a ⩽ pos 0 → pos 0 ⩽ neg_ℤ a
neg_nonneg {a} = lin (nums 1) (λ a. (a ≦ # 0) ∷ [] ⊢ # 0 ≦ neg a) (omega arith) a

pub pos_neg : {a : ℤ} → pos 0 ⋖ a → neg_ℤ a ⋖ pos 0
pos_neg {a} = lin (nums 1) (λ a. (# 0 ≺ a) ∷ [] ⊢ neg a ≺ # 0) (omega arith) a

pub lt_not_le : {a b : ℤ} → a ⋖ b → b ⩽ a → ⊥
lt_not_le {a} {b} h k = let t : pos 0 ⋖ pos 0 = lin (nums 2) (λ a b. (a ≺ b) ∷ (b ≦ a) ∷ [] ⊢ # 0 ≺ # 0) (omega arith) a b h k in absurd t.lt

pub lt_not_lt : {a b : ℤ} → a ⋖ b → b ⋖ a → ⊥
lt_not_lt h k = lt_not_le h (lt_le k)

pub pos_not_zero : {a : ℤ} → pos 0 ⋖ a → a ≡ pos 0 → ⊥
pos_not_zero h k = lt_not_le h (eq_le k)

pub neg_not_zero : {a : ℤ} → a ⋖ pos 0 → a ≡ pos 0 → ⊥
neg_not_zero h k = lt_not_le h (eq_le (sym k))

-- ---- one number against another

pub lt_lt : {a b c : ℤ} → a ⋖ b → b ⋖ c → a ⋖ c
lt_lt {a} {b} {c} = lin (nums 3) (λ a b c. (a ≺ b) ∷ (b ≺ c) ∷ [] ⊢ a ≺ c) (omega arith) a b c

pub lt_eq : {a b c : ℤ} → a ⋖ b → b ≡ c → a ⋖ c
lt_eq {a} {b} {c} = lin (nums 3) (λ a b c. (a ≺ b) ∷ (b ≋ c) ∷ [] ⊢ a ≺ c) (omega arith) a b c

pub eq_lt : {a b c : ℤ} → a ≡ b → b ⋖ c → a ⋖ c
eq_lt {a} {b} {c} = lin (nums 3) (λ a b c. (a ≋ b) ∷ (b ≺ c) ∷ [] ⊢ a ≺ c) (omega arith) a b c

pub data Compared (a b : ℤ) : Type 0 where
  less : a ⋖ b → Compared a b
  same : a ≡ b → Compared a b
  more : b ⋖ a → Compared a b

pub compared : (a b : ℤ) → Compared a b
compared a b = go (lies (a -ℤ b))
  where
    go : Lies (a -ℤ b) → Compared a b
    go (below t) = less (lin (nums 2) (λ u v. (u ⊖ v ≺ # 0) ∷ [] ⊢ u ≺ v) (omega arith) a b t)
    go (on t) = same (lin (nums 2) (λ u v. (u ⊖ v ≋ # 0) ∷ [] ⊢ u ≋ v) (omega arith) a b t)
    go (above t) = more (lin (nums 2) (λ u v. (# 0 ≺ u ⊖ v) ∷ [] ⊢ v ≺ u) (omega arith) a b t)

-- ---- squares

pub square_0 : (m : ℤ) → m *ℤ m ≡ pos 0 → m ≡ pos 0
square_0 m e = go (lies m)
  where
    go : Lies m → m ≡ pos 0
    go (below h) = absurd (pos_not_zero (mul_pos (neg_pos h) (neg_pos h)) (lin (nums 1) (λ m. (m ⊗ m ≋ # 0) ∷ [] ⊢ neg m ⊗ neg m ≋ # 0) (omega arith) m e))
    go (on h) = h
    go (above h) = absurd (pos_not_zero (mul_pos h h) e)

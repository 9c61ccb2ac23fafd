-- Expressions of the ring ℤ, their value at a list of numbers, and the same value as a difference of two naturals that `omega` reads.
use Rattle.std.specs.Prelude.{◌≡◌, List, [], ◌∷◌, ℕ, zero, suc, ◌+◌, ◌*◌, ℤ, pos, neg_ℤ, ◌+ℤ◌, ◌-ℤ◌, ◌*ℤ◌}
use Rattle.std.proofs.Common.{arith}
use Rattle.whole.specs.Difference.{P, N, Rep, rep_self, rep_eq, rep_add, rep_mul, rep_neg, rep_minus}

infixl 6 ◌⊕◌ ◌⊖◌
infixl 7 ◌⊗◌
pub data Expr : Type 0 where
  con : ℤ → Expr
  v : ℕ → Expr
  ◌⊕◌ : Expr → Expr → Expr
  ◌⊖◌ : Expr → Expr → Expr
  ◌⊗◌ : Expr → Expr → Expr
  neg : Expr → Expr

-- a natural number, as an expression
abbrev pub # : ℕ → Expr
# n = con (pos n)

abbrev pub at : List ℤ → ℕ → ℤ
at [] i = pos 0
at (x ∷ ρ) zero = x
at (x ∷ ρ) (suc i) = at ρ i

abbrev pub eval : List ℤ → Expr → ℤ
eval ρ (con c) = c
eval ρ (v i) = at ρ i
eval ρ (a ⊕ b) = eval ρ a +ℤ eval ρ b
eval ρ (a ⊖ b) = eval ρ a -ℤ eval ρ b
eval ρ (a ⊗ b) = eval ρ a *ℤ eval ρ b
eval ρ (neg a) = neg_ℤ (eval ρ a)

-- the value is `ev_p ρ e − ev_n ρ e`
abbrev mutual
  pub ev_p : List ℤ → Expr → ℕ
  ev_p ρ (con c) = P c
  ev_p ρ (v i) = P (at ρ i)
  ev_p ρ (a ⊕ b) = ev_p ρ a + ev_p ρ b
  ev_p ρ (a ⊖ b) = ev_p ρ a + ev_n ρ b
  ev_p ρ (a ⊗ b) = ev_p ρ a * ev_p ρ b + ev_n ρ a * ev_n ρ b
  ev_p ρ (neg a) = ev_n ρ a

  pub ev_n : List ℤ → Expr → ℕ
  ev_n ρ (con c) = N c
  ev_n ρ (v i) = N (at ρ i)
  ev_n ρ (a ⊕ b) = ev_n ρ a + ev_n ρ b
  ev_n ρ (a ⊖ b) = ev_n ρ a + ev_p ρ b
  ev_n ρ (a ⊗ b) = ev_p ρ a * ev_n ρ b + ev_n ρ a * ev_p ρ b
  ev_n ρ (neg a) = ev_p ρ a

pub rep_of : (ρ : List ℤ) (e : Expr) → Rep (eval ρ e) (ev_p ρ e) (ev_n ρ e)
rep_of ρ (con c) = rep_self c
rep_of ρ (v i) = rep_self (at ρ i)
rep_of ρ (a ⊕ b) = rep_add (rep_of ρ a) (rep_of ρ b)
rep_of ρ (a ⊖ b) = rep_minus (rep_of ρ a) (rep_of ρ b)
rep_of ρ (a ⊗ b) = rep_mul (rep_of ρ a) (rep_of ρ b)
rep_of ρ (neg a) = rep_neg (rep_of ρ a)

-- two expressions are equal if their naturals say so: `byℕ ρ e₁ e₂ (omega arith)` proves a small identity, and follows hypotheses that are such equations
pub byℕ : (ρ : List ℤ) (e₁ e₂ : Expr) → ev_p ρ e₁ + ev_n ρ e₂ ≡ ev_p ρ e₂ + ev_n ρ e₁ → eval ρ e₁ ≡ eval ρ e₂
byℕ ρ e₁ e₂ h = rep_eq (rep_of ρ e₁) (rep_of ρ e₂) h

pub *ℤ-assoc : (a b c : ℤ) → (a *ℤ b) *ℤ c ≡ a *ℤ (b *ℤ c)
*ℤ-assoc a b c = byℕ (a ∷ b ∷ c ∷ []) ((v 0 ⊗ v 1) ⊗ v 2) (v 0 ⊗ (v 1 ⊗ v 2)) (omega arith)

pub *ℤ-distl : (a b c : ℤ) → a *ℤ (b +ℤ c) ≡ a *ℤ b +ℤ a *ℤ c
*ℤ-distl a b c = byℕ (a ∷ b ∷ c ∷ []) (v 0 ⊗ (v 1 ⊕ v 2)) (v 0 ⊗ v 1 ⊕ v 0 ⊗ v 2) (omega arith)

pub *ℤ-distr : (a b c : ℤ) → (a +ℤ b) *ℤ c ≡ a *ℤ c +ℤ b *ℤ c
*ℤ-distr a b c = byℕ (a ∷ b ∷ c ∷ []) ((v 0 ⊕ v 1) ⊗ v 2) (v 0 ⊗ v 2 ⊕ v 1 ⊗ v 2) (omega arith)

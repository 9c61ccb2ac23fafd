-- `combo`: an equation from others, each times a factor that the author gives. The check is one normal form, of any size.
--     combo (nums 3) (λ a b c. (c ⊠ (a ≗ b)) ∷ [] ⊩ a ⊗ c ≗ b ⊗ c) tt : (a b c : ℤ) → a ≡ b → a *ℤ c ≡ b *ℤ c
use Rattle.std.specs.Prelude.{◌≡◌, refl, Bool, T, List, [], ◌∷◌, ℤ, pos, ◌+ℤ◌, ◌*ℤ◌}
use Rattle.std.proofs.Common.{sym, ap, ◌∙◌, arith}
use Rattle.std.proofs.Math.IntN.{+ℤ_assoc}
use Rattle.whole.specs.Expr.{Expr, #, ◌⊕◌, ◌⊖◌, ◌⊗◌, eval}
use Rattle.whole.specs.Ring.{vanishes, ring}
use Rattle.whole.specs.Solve.{Shape, Of, pushed, quoted, sizes, solve, ◌≐◌, nums}
use Rattle.whole.specs.Lin.{lin, ◌⊢◌, ◌≋◌}

infix 5 ◌≗◌ ◌⊠◌
pub data Goal : Type 0 where
  ◌≗◌ : Expr → Expr → Goal

pub data Lem : Type 0 where
  ◌⊠◌ : Expr → Goal → Lem

infix 4 ◌⊩◌
pub data Claim : Type 0 where
  ◌⊩◌ : List Lem → Goal → Claim

abbrev pub Means : List ℤ → Goal → Type 0
Means ρ (l ≗ r) = eval ρ l ≡ eval ρ r

abbrev gap : Goal → Expr
gap (l ≗ r) = l ⊖ r

abbrev total : List Lem → Expr
total [] = # 0
total ((k ⊠ g) ∷ hs) = k ⊗ gap g ⊕ total hs

abbrev pub checks : Claim → Bool
checks (hs ⊩ g) = vanishes (gap g ⊖ total hs)

abbrev pub Follows : List ℤ → List Lem → Goal → Type 0
Follows ρ [] g = Means ρ g
Follows ρ ((k ⊠ h) ∷ hs) g = Means ρ h → Follows ρ hs g

gap_0 : (ρ : List ℤ) (g : Goal) → Means ρ g → eval ρ (gap g) ≡ pos 0
gap_0 ρ (l ≗ r) = lin (nums 2) (λ a b. (a ≋ b) ∷ [] ⊢ a ⊖ b ≋ # 0) (omega arith) (eval ρ l) (eval ρ r)

0-gap : (ρ : List ℤ) (g : Goal) → eval ρ (gap g) ≡ pos 0 → Means ρ g
0-gap ρ (l ≗ r) = lin (nums 2) (λ a b. (a ⊖ b ≋ # 0) ∷ [] ⊢ a ≋ b) (omega arith) (eval ρ l) (eval ρ r)

-- t is what the premises passed come to
follows : (ρ : List ℤ) (hs : List Lem) (g : Goal) (t : ℤ) → t ≡ pos 0 → eval ρ (gap g) ≡ t +ℤ eval ρ (total hs) → Follows ρ hs g
follows ρ [] g t z e = 0-gap ρ g (e ∙ ap (λ z. z +ℤ pos 0) z)
follows ρ ((k ⊠ h) ∷ hs) g t z e = λ m. follows ρ hs g (t +ℤ eval ρ k *ℤ eval ρ (gap h))
    (ap (λ x. t +ℤ eval ρ k *ℤ x) (gap_0 ρ h m) ∙ ap (λ x. x +ℤ eval ρ k *ℤ pos 0) z ∙ solve (nums 1) (λ k. # 0 ⊕ k ⊗ # 0 ≐ # 0) tt (eval ρ k))
    (e ∙ sym (+ℤ_assoc t (eval ρ k *ℤ eval ρ (gap h)) (eval ρ (total hs))))

-- ---- the statement as a function of its variables

abbrev pub FunC : List Shape → Type 0
FunC [] = Claim
FunC (s ∷ ss) = Of Expr s → FunC ss

abbrev pub applied_c : (ss : List Shape) → FunC ss → Claim
applied_c [] f = f
applied_c (s ∷ ss) f = applied_c ss (f (quoted s (sizes ss)))

abbrev pub AllC : List Shape → List ℤ → Claim → Type 0
AllC [] ρ (hs ⊩ g) = Follows ρ hs g
AllC (s ∷ ss) ρ q = (a : Of ℤ s) → AllC ss (pushed s a ρ) q

all_c : (ss : List Shape) (ρ : List ℤ) (q : Claim) → T (checks q) → AllC ss ρ q
all_c [] ρ (hs ⊩ g) p = follows ρ hs g (pos 0) refl (ring ρ (gap g) (total hs) p ∙ solve (nums 1) (λ t. t ≐ # 0 ⊕ t) tt (eval ρ (total hs)))
all_c (s ∷ ss) ρ q p = λ a. all_c ss (pushed s a ρ) q p

pub combo : (ss : List Shape) (f : FunC ss) → T (checks (applied_c ss f)) → AllC ss [] (applied_c ss f)
combo ss f p = all_c ss [] (applied_c ss f) p

-- `lin`: linear arithmetic over ℤ, by `omega`. Each side is brought to the normal form of `Ring.antt`, and each monomial is an unknown, so facts about products combine.
--     lin (nums 3) (λ a b c. (a ≦ b) ∷ (b ≺ c) ∷ [] ⊢ a ≺ c) (λ ρ. omega arith) : (a b c : ℤ) → a ≤ℤ b → b <ℤ c → a <ℤ c
use Rattle.std.specs.Prelude.{◌≡◌, ◌≢◌, List, [], ◌∷◌, ℕ, suc, ◌+◌, ◌*◌, ◌≤◌, ◌<◌, ℤ, pos, negsuc, ◌≤ℤ◌, ◌<ℤ◌}
use Rattle.std.proofs.Common.{arith}
use Rattle.whole.specs.Difference.{P, N, Rep, rep_self, rep_pos, rep_add, rep_mul, diff_le, le_diff, diff_lt, lt_diff, diff_eq, eq_diff}
use Rattle.whole.specs.Expr.{Expr, ◌⊖◌, eval}
use Rattle.whole.specs.Ring.{Poly, nil, term, norm, ev_m, ev_poly, norm_ok}
use Rattle.whole.specs.Solve.{Shape, Of, pushed, quoted, sizes}

-- a monomial's two parts, as numbers that nothing opens; of the empty one they are 1 and 0
pub part_p : List ℤ → ℕ → List ℕ → ℕ
part_p ρ i m = P (ev_m ρ (i ∷ m))

pub part_n : List ℤ → ℕ → List ℕ → ℕ
part_n ρ i m = N (ev_m ρ (i ∷ m))

abbrev Pm : List ℤ → List ℕ → ℕ
Pm ρ [] = 1
Pm ρ (i ∷ m) = part_p ρ i m

abbrev Nm : List ℤ → List ℕ → ℕ
Nm ρ [] = 0
Nm ρ (i ∷ m) = part_n ρ i m

rep_m : (ρ : List ℤ) (m : List ℕ) → Rep (ev_m ρ m) (Pm ρ m) (Nm ρ m)
unfolding part_p part_n
rep_m ρ [] = rep_pos 1
rep_m ρ (i ∷ m) = rep_self (ev_m ρ (i ∷ m))

-- a polynomial is `pp − np`
abbrev mutual
  pp : List ℤ → Poly → ℕ
  pp ρ nil = 0
  pp ρ (term m (pos c) p) = c * Pm ρ m + pp ρ p
  pp ρ (term m (negsuc c) p) = suc c * Nm ρ m + pp ρ p

  np : List ℤ → Poly → ℕ
  np ρ nil = 0
  np ρ (term m (pos c) p) = c * Nm ρ m + np ρ p
  np ρ (term m (negsuc c) p) = suc c * Pm ρ m + np ρ p

rep_cast : {z : ℤ} {p n q m : ℕ} → Rep z p n → p + m ≡ q + n → Rep z q m
rep_cast r e = record { rep = omega arith }

rep_p : (ρ : List ℤ) (p : Poly) → Rep (ev_poly ρ p) (pp ρ p) (np ρ p)
rep_p ρ nil = rep_pos 0
rep_p ρ (term m (pos c) p) = rep_cast (rep_add (rep_mul (rep_pos c) (rep_m ρ m)) (rep_p ρ p)) (omega arith)
rep_p ρ (term m (negsuc c) p) = rep_cast (rep_add (rep_mul (rep_self (negsuc c)) (rep_m ρ m)) (rep_p ρ p)) (omega arith)

rep_e : (ρ : List ℤ) (e : Expr) → Rep (eval ρ e) (pp ρ (norm e)) (np ρ (norm e))
rep_e ρ e = rw (norm_ok ρ e) at (rep_p ρ (norm e))

-- ---- facts

infix 5 ◌≦◌ ◌≺◌ ◌≋◌ ◌≭◌
pub data Fact : Type 0 where
  ◌≦◌ : Expr → Expr → Fact
  ◌≺◌ : Expr → Expr → Fact
  ◌≋◌ : Expr → Expr → Fact
  ◌≭◌ : Expr → Expr → Fact

abbrev pub Means : List ℤ → Fact → Type 0
Means ρ (a ≦ b) = eval ρ a ≤ℤ eval ρ b
Means ρ (a ≺ b) = eval ρ a <ℤ eval ρ b
Means ρ (a ≋ b) = eval ρ a ≡ eval ρ b
Means ρ (a ≭ b) = eval ρ a ≢ eval ρ b

abbrev pub Nat : List ℤ → Fact → Type 0
Nat ρ (a ≦ b) = np ρ (norm (b ⊖ a)) ≤ pp ρ (norm (b ⊖ a))
Nat ρ (a ≺ b) = np ρ (norm (b ⊖ a)) < pp ρ (norm (b ⊖ a))
Nat ρ (a ≋ b) = np ρ (norm (b ⊖ a)) ≡ pp ρ (norm (b ⊖ a))
Nat ρ (a ≭ b) = np ρ (norm (b ⊖ a)) ≢ pp ρ (norm (b ⊖ a))

to_nat : (ρ : List ℤ) (f : Fact) → Means ρ f → Nat ρ f
to_nat ρ (a ≦ b) h = le_diff _ _ _ _ (rep_e ρ (b ⊖ a)) h
to_nat ρ (a ≺ b) h = lt_diff _ _ _ _ (rep_e ρ (b ⊖ a)) h
to_nat ρ (a ≋ b) h = eq_diff _ _ _ _ (rep_e ρ (b ⊖ a)) h
to_nat ρ (a ≭ b) h = λ e. h (diff_eq _ _ _ _ (rep_e ρ (b ⊖ a)) e)

of_nat : (ρ : List ℤ) (f : Fact) → Nat ρ f → Means ρ f
of_nat ρ (a ≦ b) h = diff_le _ _ _ _ (rep_e ρ (b ⊖ a)) h
of_nat ρ (a ≺ b) h = diff_lt _ _ _ _ (rep_e ρ (b ⊖ a)) h
of_nat ρ (a ≋ b) h = diff_eq _ _ _ _ (rep_e ρ (b ⊖ a)) h
of_nat ρ (a ≭ b) h = λ e. h (eq_diff _ _ _ _ (rep_e ρ (b ⊖ a)) e)

infix 4 ◌⊢◌
pub data Seq : Type 0 where
  ◌⊢◌ : List Fact → Fact → Seq

abbrev pub NatSeq : List ℤ → List Fact → Fact → Type 0
NatSeq ρ [] g = Nat ρ g
NatSeq ρ (h ∷ hs) g = Nat ρ h → NatSeq ρ hs g

abbrev pub MeansSeq : List ℤ → List Fact → Fact → Type 0
MeansSeq ρ [] g = Means ρ g
MeansSeq ρ (h ∷ hs) g = Means ρ h → MeansSeq ρ hs g

seq : (ρ : List ℤ) (hs : List Fact) (g : Fact) → NatSeq ρ hs g → MeansSeq ρ hs g
seq ρ [] g p = of_nat ρ g p
seq ρ (h ∷ hs) g p = λ x. seq ρ hs g (p (to_nat ρ h x))

-- ---- the statement as a function of its variables

abbrev pub FunL : List Shape → Type 0
FunL [] = Seq
FunL (s ∷ ss) = Of Expr s → FunL ss

abbrev pub applied_l : (ss : List Shape) → FunL ss → Seq
applied_l [] f = f
applied_l (s ∷ ss) f = applied_l ss (f (quoted s (sizes ss)))

abbrev pub NatL : List ℤ → Seq → Type 0
NatL ρ (hs ⊢ g) = NatSeq ρ hs g

abbrev pub AllL : List Shape → List ℤ → Seq → Type 0
AllL [] ρ (hs ⊢ g) = MeansSeq ρ hs g
AllL (s ∷ ss) ρ q = (a : Of ℤ s) → AllL ss (pushed s a ρ) q

all_l : (ss : List Shape) (ρ : List ℤ) (q : Seq) → ((ρ : List ℤ) → NatL ρ q) → AllL ss ρ q
all_l [] ρ (hs ⊢ g) p = seq ρ hs g (p ρ)
all_l (s ∷ ss) ρ q p = λ a. all_l ss (pushed s a ρ) q p

pub lin : (ss : List Shape) (f : FunL ss) → ((ρ : List ℤ) → NatL ρ (applied_l ss f)) → AllL ss [] (applied_l ss f)
lin ss f p = all_l ss [] (applied_l ss f) p

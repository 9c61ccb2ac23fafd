-- What straight-line code over `i64` computes, and that no step of it overflows, from bounds of the values that it starts from.
-- A value is kept as its bits, so in a need `to_z w64 (of_z w64 ..)` stands around each step, and around each parameter.
--     code_fits E e tt     answers the need of the step whose expression is e
--     code_is E e tt       says that the result is the expression's value
--     code_within E e tt   bounds the result
-- E lists the values that the variables of e stand for, each with its bound: `arg h` a parameter, a callee's result or an element, `local h` a variable that a loop or a branch has changed,
-- with `h : Within z B`. `tt` is a test that antt computes: the bound of e and of each of its parts is below 2 ^ 63. A literal is `# n` or `con z`, and `-x` is `neg`, which the code makes as 0 − x.
use Rattle.std.specs.Prelude.{◌≡◌, refl, Bool, true, false, not, ◌&&◌, ◌≢◌, List, [], ◌∷◌, ℕ, zero, suc, ◌+◌, ◌*◌, ◌<◌, T, ltb, ℤ, pos, negsuc, neg_ℤ, nat_abs, ◌+ℤ◌, ◌-ℤ◌, ◌*ℤ◌, ◌≤ℤ◌, ◌<ℤ◌}
use Rattle.std.proofs.Common.{sym, ap, ◌∙◌, subst, lt→ltb, leb-false, SFits, to_z, of_z, to_z-of_z}
use Rattle.std.proofs.Math.IntN.{+ℤ_idl}
use Rattle.std.specs.Int.Signed.{mag, lt_z, le_z, lt_z_yes, lt_z_no, le_z_yes}
use Rattle.std.specs.Int.{w64}
use Rattle.std.proofs.Math.Facts.{sfits_lit}
use Rattle.whole.specs.Tests.{and3}
use Rattle.whole.specs.Expr.{Expr, con, v, ◌⊕◌, ◌⊖◌, ◌⊗◌, neg}
use Rattle.whole.specs.Bounds.{Within, w_self, w_neg, w_add, w_sub, w_mul, fits64}

abbrev pub small : ℕ → Bool
small n = ltb n 9223372036854775808

-- a value with a bound, handed on
pub in64 : {z : ℤ} {B : ℕ} → Within z B → T (small B) → to_z w64 (of_z w64 z) ≡ z
in64 h t = to_z-of_z (fits64 h t)

-- what a call returns, handed on: `c.f.ok` is its second argument
pub back64 : (z : ℤ) → mag z < 9223372036854775808 → to_z w64 (of_z w64 z) ≡ z
back64 z h = to_z-of_z {w = w64} {z = z} (record { sfits = h })

-- ---- the values that code starts from

pub record Entry : Type 0 where
  pub held : ℤ
  pub val : ℤ
  pub bnd : ℕ
  pub same : T (small bnd) → held ≡ val
  pub within : Within val bnd

abbrev pub arg : {z : ℤ} {B : ℕ} → Within z B → Entry
arg {z} {B} h = record { held = to_z w64 (of_z w64 z); val = z; bnd = B; same = in64 h; within = h }

abbrev pub local : {z : ℤ} {B : ℕ} → Within z B → Entry
local {z} {B} h = record { held = z; val = z; bnd = B; same = λ t. refl; within = h }

abbrev pub nth : List Entry → ℕ → Entry
nth [] i = local (w_self (pos 0))
nth (x ∷ E) zero = x
nth (x ∷ E) (suc i) = nth E i

-- ---- what the code holds, and what it stands for

abbrev pub run : List Entry → Expr → ℤ
run E (con c) = c
run E (v i) = (nth E i).held
run E (a ⊕ b) = to_z w64 (of_z w64 (run E a +ℤ run E b))
run E (a ⊖ b) = to_z w64 (of_z w64 (run E a -ℤ run E b))
run E (a ⊗ b) = to_z w64 (of_z w64 (run E a *ℤ run E b))
run E (neg a) = to_z w64 (of_z w64 (pos 0 -ℤ run E a))

-- before the last step is kept
abbrev pub raw : List Entry → Expr → ℤ
raw E (con c) = c
raw E (v i) = (nth E i).held
raw E (a ⊕ b) = run E a +ℤ run E b
raw E (a ⊖ b) = run E a -ℤ run E b
raw E (a ⊗ b) = run E a *ℤ run E b
raw E (neg a) = pos 0 -ℤ run E a

abbrev pub value : List Entry → Expr → ℤ
value E (con c) = c
value E (v i) = (nth E i).val
value E (a ⊕ b) = value E a +ℤ value E b
value E (a ⊖ b) = value E a -ℤ value E b
value E (a ⊗ b) = value E a *ℤ value E b
value E (neg a) = neg_ℤ (value E a)

abbrev pub bound : List Entry → Expr → ℕ
bound E (con c) = nat_abs c
bound E (v i) = (nth E i).bnd
bound E (a ⊕ b) = bound E a + bound E b
bound E (a ⊖ b) = bound E a + bound E b
bound E (a ⊗ b) = bound E a * bound E b
bound E (neg a) = bound E a

pub value_within : (E : List Entry) (e : Expr) → Within (value E e) (bound E e)
value_within E (con c) = w_self c
value_within E (v i) = (nth E i).within
value_within E (a ⊕ b) = w_add (value_within E a) (value_within E b)
value_within E (a ⊖ b) = w_sub (value_within E a) (value_within E b)
value_within E (a ⊗ b) = w_mul (value_within E a) (value_within E b)
value_within E (neg a) = w_neg (value_within E a)

-- the bound of e, and of each part, is small
abbrev pub ok : List Entry → Expr → Bool
ok E (con c) = small (nat_abs c)
ok E (v i) = small (nth E i).bnd
ok E (a ⊕ b) = small (bound E a + bound E b) && (ok E a && ok E b)
ok E (a ⊖ b) = small (bound E a + bound E b) && (ok E a && ok E b)
ok E (a ⊗ b) = small (bound E a * bound E b) && (ok E a && ok E b)
ok E (neg a) = ok E a

module _ (E : List Entry) where
  node : (n : ℕ) (a b : Expr) → T (small n && (ok E a && ok E b)) → T (small n) × T (ok E a) × T (ok E b)
  node n a b t = and3 (small n) (ok E a) (ok E b) t

  top : (e : Expr) → T (ok E e) → T (small (bound E e))
  top (con c) t = t
  top (v i) t = t
  top (a ⊕ b) t = (node (bound E a + bound E b) a b t).0
  top (a ⊖ b) t = (node (bound E a + bound E b) a b t).0
  top (a ⊗ b) t = (node (bound E a * bound E b) a b t).0
  top (neg a) t = top a t

  -- a number that is e's value is kept by its bits
  keep : (e : Expr) (r : ℤ) → T (small (bound E e)) → r ≡ value E e → to_z w64 (of_z w64 r) ≡ value E e
  keep e r t q = ap (λ z. to_z w64 (of_z w64 z)) q ∙ in64 (value_within E e) t

  minus : (a : Expr) → run E a ≡ value E a → pos 0 -ℤ run E a ≡ neg_ℤ (value E a)
  minus a p = ap (λ z. pos 0 -ℤ z) p ∙ +ℤ_idl (neg_ℤ (value E a))

  run_is : (e : Expr) → T (ok E e) → run E e ≡ value E e
  run_is (con c) t = refl
  run_is (v i) t = (nth E i).same t
  run_is (a ⊕ b) t = let s = node (bound E a + bound E b) a b t in keep (a ⊕ b) (run E a +ℤ run E b) s.0 (cc (run_is a s.1, run_is b s.2))
  run_is (a ⊖ b) t = let s = node (bound E a + bound E b) a b t in keep (a ⊖ b) (run E a -ℤ run E b) s.0 (cc (run_is a s.1, run_is b s.2))
  run_is (a ⊗ b) t = let s = node (bound E a * bound E b) a b t in keep (a ⊗ b) (run E a *ℤ run E b) s.0 (cc (run_is a s.1, run_is b s.2))
  run_is (neg a) t = keep (neg a) (pos 0 -ℤ run E a) (top a t) (minus a (run_is a t))

  raw_is : (e : Expr) → T (ok E e) → raw E e ≡ value E e
  raw_is (con c) t = refl
  raw_is (v i) t = (nth E i).same t
  raw_is (a ⊕ b) t = let s = node (bound E a + bound E b) a b t in cc (run_is a s.1, run_is b s.2)
  raw_is (a ⊖ b) t = let s = node (bound E a + bound E b) a b t in cc (run_is a s.1, run_is b s.2)
  raw_is (a ⊗ b) t = let s = node (bound E a * bound E b) a b t in cc (run_is a s.1, run_is b s.2)
  raw_is (neg a) t = minus a (run_is a t)

  pub code_fits : (e : Expr) → T (ok E e) → SFits w64 (raw E e)
  code_fits e t = rw (raw_is e t) (fits64 (value_within E e) (top e t))

  pub code_is : (e : Expr) → T (ok E e) → run E e ≡ value E e
  code_is e t = run_is e t

  pub code_within : (e : Expr) → T (ok E e) → Within (run E e) (bound E e)
  code_within e t = rw (run_is e t) (value_within E e)

-- ---- tests
-- `a < b` at an `i64` leaves an equation of a flag, and `a == b` an equation of bits. Given that both fit, they say what they should. A literal fits by `lit64 tt`.

pub lit64 : {z : ℤ} → T (ltb (mag z) 9223372036854775808) → SFits w64 z
lit64 t = sfits_lit t

not_le : (a b : ℤ) → le_z a b ≡ false → T (lt_z b a)
not_le (pos a) (pos b) e = lt→ltb b a (leb-false a b e)
not_le (pos a) (negsuc b) e = tt
not_le (negsuc a) (pos b) e = absurd (clash e)
  where
    clash : true ≡ false → ⊥
    clash p = subst T p tt
not_le (negsuc a) (negsuc b) e = lt→ltb a b (leb-false b a e)

module _ (a b : ℤ) (f : SFits w64 a) (g : SFits w64 b) where
  pub lt_yes : lt_z (to_z w64 (of_z w64 a)) (to_z w64 (of_z w64 b)) ≡ true → a <ℤ b
  lt_yes e = let q : lt_z a b ≡ true = cc (to_z-of_z f, to_z-of_z g) in lt_z_yes (subst T (sym q) tt)

  pub lt_no : lt_z (to_z w64 (of_z w64 a)) (to_z w64 (of_z w64 b)) ≡ false → b ≤ℤ a
  lt_no e = let q : lt_z a b ≡ false = cc (to_z-of_z f, to_z-of_z g) in lt_z_no (subst (λ (t : Bool). T (not t)) (sym q) tt)

  pub le_yes : le_z (to_z w64 (of_z w64 a)) (to_z w64 (of_z w64 b)) ≡ true → a ≤ℤ b
  le_yes e = let q : le_z a b ≡ true = cc (to_z-of_z f, to_z-of_z g) in le_z_yes (subst T (sym q) tt)

  pub le_no : le_z (to_z w64 (of_z w64 a)) (to_z w64 (of_z w64 b)) ≡ false → b <ℤ a
  le_no e = let q : le_z a b ≡ false = cc (to_z-of_z f, to_z-of_z g) in lt_z_yes (not_le a b q)

  pub eq_yes : of_z w64 a ≡ of_z w64 b → a ≡ b
  eq_yes e = sym (to_z-of_z f) ∙ ap (to_z w64) e ∙ to_z-of_z g

  pub eq_no : (of_z w64 a ≡ of_z w64 b → ⊥) → a ≢ b
  eq_no n e = n (ap (of_z w64) e)

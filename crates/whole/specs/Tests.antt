-- Tests, and what they say. `_and_` and `_or_` are the library's `◌&&◌` and `◌||◌`, nested to the right.
use Rattle.std.specs.Prelude.{◌≡◌, refl, Bool, true, false, ◌&&◌, ◌||◌, ℕ, ◌≤◌, ◌<◌, T, ltb, leb, eqb, ℤ, pos, negsuc}
use Rattle.std.proofs.Common.{ap, subst, arith, ltb→lt, lt→ltb, le→leb, eqb→eq}
use Rattle.std.proofs.Math.Dec.{eqb_refl}

infixr 6 ◌and◌ ◌or◌
abbrev pub ◌and◌ : Bool → Bool → Bool
a and b = a && b

abbrev pub ◌or◌ : Bool → Bool → Bool
a or b = a || b

-- what follows from two different constructors that are equal: `differ (cc)`
pub differ : {A : Type 0} → ◌≡◌ {A = ℕ} 0 1 → A
differ e = absurd (let z : ⊥ = omega arith in z)

pub is_true : (b : Bool) → T b → b ≡ true
is_true true t = refl
is_true false t = absurd t

pub is_false : (b : Bool) → (T b → ⊥) → b ≡ false
is_false true t = absurd (t tt)
is_false false t = refl

pub true_is : (b : Bool) → b ≡ true → T b
true_is true e = tt
true_is false e = differ (cc)

-- ---- of natural numbers

pub lt_true : (m n : ℕ) → m < n → ltb m n ≡ true
lt_true m n h = is_true (ltb m n) (lt→ltb m n h)

pub lt_false : (m n : ℕ) → n ≤ m → ltb m n ≡ false
lt_false m n h = is_false (ltb m n) (λ t. omega (arith, ltb→lt m n t))

pub le_true : (m n : ℕ) → m ≤ n → leb m n ≡ true
le_true m n h = is_true (leb m n) (le→leb m n h)

pub eq_true : (n : ℕ) → eqb n n ≡ true
eq_true n = is_true (eqb n n) (eqb_refl n)

pub eq_test : (m n : ℕ) → m ≡ n → T (eqb m n)
eq_test m n e = subst (λ i. T (eqb m i)) e (eqb_refl m)

pub eq_false : (m n : ℕ) → (m ≡ n → ⊥) → eqb m n ≡ false
eq_false m n h = is_false (eqb m n) (λ t. h (eqb→eq m n t))

-- ---- and, or

pub and_split : (a b : Bool) → T (a and b) → T a × T b
and_split true b t = (tt, t)
and_split false b t = absurd t

pub and3 : (a b c : Bool) → T (a && (b && c)) → T a × T b × T c
and3 true true c t = (tt, tt, t)
and3 true false c t = absurd t
and3 false b c t = absurd t

pub and_make : (a b : Bool) → T a → T b → T (a and b)
and_make true b s t = t
and_make false b s t = absurd s

pub and_true : (a b : Bool) → a and b ≡ true → (a ≡ true) × (b ≡ true)
and_true true b e = (refl, e)
and_true false b e = differ (cc)

pub or_left : (a b : Bool) → T a → T (a or b)
or_left true b t = tt
or_left false b t = absurd t

pub or_right : (a b : Bool) → T b → T (a or b)
or_right true b t = tt
or_right false b t = t

pub or_split : {C : Type 0} (a b : Bool) → T (a or b) → (T a → C) → (T b → C) → C
or_split true b t f g = f tt
or_split false b t f g = g t

-- ---- of whole numbers

abbrev pub eq_z : ℤ → ℤ → Bool
eq_z (pos m) (pos n) = eqb m n
eq_z (pos m) (negsuc n) = false
eq_z (negsuc m) (pos n) = false
eq_z (negsuc m) (negsuc n) = eqb m n

pub eq_z_of : (a b : ℤ) → T (eq_z a b) → a ≡ b
eq_z_of (pos m) (pos n) t = ap pos (eqb→eq m n t)
eq_z_of (pos m) (negsuc n) t = absurd t
eq_z_of (negsuc m) (pos n) t = absurd t
eq_z_of (negsuc m) (negsuc n) t = ap negsuc (eqb→eq m n t)

pub eq_z_self : (a : ℤ) → T (eq_z a a)
eq_z_self (pos m) = eqb_refl m
eq_z_self (negsuc m) = eqb_refl m

pub eq_z_true : {a b : ℤ} → a ≡ b → T (eq_z a b)
eq_z_true {a} {b} e = subst (λ t. T (eq_z a t)) e (eq_z_self a)

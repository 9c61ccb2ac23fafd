-- The greatest common divisor, computed by Euclid's rule, and its laws: it divides both numbers, whatever divides both divides it, and the loop's step keeps it.
use Rattle.std.specs.Prelude.{◌≡◌, refl, ℕ, zero, suc, ◌+◌, ◌-◌, ◌*◌, ◌/◌, ◌%◌, ◌≤◌, ◌<◌}
use Rattle.std.proofs.Common.{sym, ap, ◌∙◌, arith, mod-lt, div-add-mod', mul_assoc, mul_comm, add-mul}
use Rattle.std.proofs.Math.Nat.{mod-eq-sub-mul-div, mul-sub}

-- the second number falls at each step, so as many steps as it says are enough
unfoldable pub euclid : ℕ → ℕ → ℕ → ℕ
euclid zero a b = a
euclid (suc k) a zero = a
euclid (suc k) a (suc b) = euclid k (suc b) (a % suc b)

unfoldable pub gcd : ℕ → ℕ → ℕ
gcd a b = euclid b a b

-- ---- divisors

pub record Div (d n : ℕ) : Type 0 where
  pub times : ℕ
  pub exact : n ≡ times * d

div_self : (n : ℕ) → Div n n
div_self n = record { times = 1; exact = omega arith }

div_zero : (n : ℕ) → Div n 0
div_zero n = record { times = 0; exact = omega arith }

pub div_trans : {a b c : ℕ} → Div a b → Div b c → Div a c
div_trans {a} {b} {c} h k = record { times = k.times * h.times; exact = k.exact ∙ ap (λ t. k.times * t) h.exact ∙ sym (mul_assoc k.times h.times a) }

pub div_one : (d : ℕ) → Div d 1 → d ≡ 1
div_one d h = go h.times d h.exact
  where
    go : (q e : ℕ) → 1 ≡ q * e → e ≡ 1
    go zero e h = absurd (omega arith)
    go (suc q) zero h = absurd (omega arith)
    go (suc q) (suc zero) h = refl
    go (suc q) (suc (suc e)) h = absurd (omega arith)

-- ---- it divides both

euclid_divides : (k a b : ℕ) → b ≤ k → Div (euclid k a b) a × Div (euclid k a b) b
unfolding euclid
euclid_divides zero a b h = let e : b ≡ 0 = omega arith in (div_self a, rw e (div_zero a))
euclid_divides (suc k) a zero h = (div_self a, div_zero a)
euclid_divides (suc k) a (suc b) h =
    let r = euclid_divides k (suc b) (a % suc b) (omega (arith, mod-lt a {m = suc b} (omega arith))) in
    (whole (euclid k (suc b) (a % suc b)) r.0 r.1, r.0)
  where
    whole : (g : ℕ) → Div g (suc b) → Div g (a % suc b) → Div g a
    whole g u v = record {
      times = a / suc b * u.times + v.times;
      exact = sym (div-add-mod' a (suc b)) ∙ (λ i. a / suc b * u.exact i + v.exact i) ∙ ap (λ t. t + v.times * g) (sym (mul_assoc (a / suc b) u.times g)) ∙ sym (add-mul (a / suc b * u.times) v.times g);
    }

pub gcd_divides : (a b : ℕ) → Div (gcd a b) a × Div (gcd a b) b
unfolding gcd
gcd_divides a b = euclid_divides b a b (omega arith)

-- ---- what divides both divides it

rest_divides : (a b d : ℕ) → Div d a → Div d b → Div d (a % b)
rest_divides a b d u v = record { times = u.times - v.times * (a / b); exact = mod-eq-sub-mul-div a b ∙ (λ i. u.exact i - v.exact i * (a / b)) ∙ into }
  where
    turn : v.times * d * (a / b) ≡ d * (v.times * (a / b))
    turn = ap (λ t. t * (a / b)) (mul_comm v.times d) ∙ mul_assoc d v.times (a / b)

    into : u.times * d - v.times * d * (a / b) ≡ (u.times - v.times * (a / b)) * d
    into = (λ i. mul_comm u.times d i - turn i) ∙ sym (mul-sub d u.times (v.times * (a / b))) ∙ mul_comm d (u.times - v.times * (a / b))

euclid_greatest : (k a b d : ℕ) → b ≤ k → Div d a → Div d b → Div d (euclid k a b)
unfolding euclid
euclid_greatest zero a b d h u v = u
euclid_greatest (suc k) a zero d h u v = u
euclid_greatest (suc k) a (suc b) d h u v = euclid_greatest k (suc b) (a % suc b) d (omega (arith, mod-lt a {m = suc b} (omega arith))) v (rest_divides a (suc b) d u v)

pub gcd_greatest : (a b d : ℕ) → Div d a → Div d b → Div d (gcd a b)
unfolding gcd
gcd_greatest a b d = euclid_greatest b a b d (omega arith)

-- ---- the loop: more steps than the second number change nothing

euclid_enough : (j k a b : ℕ) → b ≤ j → b ≤ k → euclid j a b ≡ euclid k a b
unfolding euclid
euclid_enough zero zero a b h i = refl
euclid_enough zero (suc k) a zero h i = refl
euclid_enough zero (suc k) a (suc b) h i = absurd (omega arith)
euclid_enough (suc j) zero a zero h i = refl
euclid_enough (suc j) zero a (suc b) h i = absurd (omega arith)
euclid_enough (suc j) (suc k) a zero h i = refl
euclid_enough (suc j) (suc k) a (suc b) h i =
    let l : a % suc b < suc b = mod-lt a (omega arith) in
    euclid_enough j k (suc b) (a % suc b) (omega arith) (omega arith)

pub gcd_zero : (a b : ℕ) → b ≡ 0 → gcd a b ≡ a
unfolding gcd euclid
gcd_zero a zero h = refl
gcd_zero a (suc b) h = absurd (omega arith)

pub gcd_step : (a b : ℕ) → 0 < b → gcd a b ≡ gcd b (a % b)
unfolding gcd euclid
gcd_step a zero h = absurd (omega arith)
gcd_step a (suc b) h =
    let l : a % suc b < suc b = mod-lt a (omega arith) in
    euclid_enough b (a % suc b) (suc b) (a % suc b) (omega arith) (omega arith)

-- The order of planes (N.19), number by number: `before` both ways is the derived order, and two planes are equal exactly if the derived `==` says so.
use mathlib.Core.Path.{◌≡◌, sym, ap, ◌∙◌}
use mathlib.Core.Bool.{Bool, true, false, ◌&&◌}
use lib.IntN.{ℤ}
use lib.Signed.{lt_z}
use Rattle.std.specs.Ordering.{ordering_then, int_cmp, int_eq}
use Rattle.whole.specs.Tests.{◌and◌, ◌or◌, is_true, is_false, eq_z, eq_z_of, eq_z_self}
use Rattle.whole.specs.Order.{◌⋖◌, Compared, less, same, more, compared, lt_not_lt, eq_le, lt_not_le}
use Rattle.scope.specs.Planes.{before, equal}
use Rattle.planes.specs.Values.{plane, order_by}
use Rattle.planes.specs.declared.Plane.{Plane}

lt_is : {a b : ℤ} → a ⋖ b → lt_z a b ≡ true
lt_is {a} {b} h = is_true (lt_z a b) h.lt

lt_not : {a b : ℤ} → a ⋖ b → lt_z b a ≡ false
lt_not {a} {b} h = is_false (lt_z b a) (λ t. lt_not_lt h (record { lt = t }))

eq_not : {a b : ℤ} → a ⋖ b → eq_z b a ≡ false
eq_not {a} {b} h = is_false (eq_z b a) (λ t. lt_not_le h (eq_le (eq_z_of b a t)))

eq_not' : {a b : ℤ} → a ⋖ b → eq_z a b ≡ false
eq_not' {a} {b} h = is_false (eq_z a b) (λ t. lt_not_le h (eq_le (sym (eq_z_of a b t))))

self_not : (a : ℤ) → lt_z a a ≡ false
self_not a = is_false (lt_z a a) (λ t. let h : a ⋖ a = record { lt = t } in lt_not_lt h h)

-- one number more
step : (a b : ℤ) (r s : Bool) → order_by (lt_z a b or (eq_z a b and r)) (lt_z b a or (eq_z b a and s)) ≡ ordering_then (int_cmp a b) (order_by r s)
step a b r s = go (compared a b)
  where
    go : Compared a b → order_by (lt_z a b or (eq_z a b and r)) (lt_z b a or (eq_z b a and s)) ≡ ordering_then (int_cmp a b) (order_by r s)
    go (less h) = rw (lt_is h)
    go (same h) = rw (h, self_not b, is_true (eq_z b b) (eq_z_self b))
    go (more h) = rw (lt_not h, eq_not h, lt_is h)

equal_step : (a b : ℤ) (t : Bool) → (int_eq a b && t) ≡ (eq_z a b and t)
equal_step a b t = go (compared a b)
  where
    go : Compared a b → (int_eq a b && t) ≡ (eq_z a b and t)
    go (less h) = rw (lt_is h, eq_not' h)
    go (same h) = rw (h, self_not b, is_true (eq_z b b) (eq_z_self b))
    go (more h) = rw (lt_not h, lt_is h, eq_not h)

equal_last : (a b : ℤ) → int_eq a b ≡ eq_z a b
equal_last a b = go (compared a b)
  where
    go : Compared a b → int_eq a b ≡ eq_z a b
    go (less h) = rw (lt_is h, eq_not' h)
    go (same h) = rw (h, self_not b, is_true (eq_z b b) (eq_z_self b))
    go (more h) = rw (lt_not h, lt_is h, eq_not h)

module _ (p q : Plane) where
  pub order_is : ordering_then (int_cmp p.a q.a) (ordering_then (int_cmp p.b q.b) (ordering_then (int_cmp p.c q.c) (int_cmp p.d q.d))) ≡ order_by (before (plane p) (plane q)) (before (plane q) (plane p))
  unfolding before
  order_is = sym (step p.a q.a _ _ ∙ ap (ordering_then (int_cmp p.a q.a)) (step p.b q.b _ _ ∙ ap (ordering_then (int_cmp p.b q.b)) (step p.c q.c (lt_z p.d q.d) (lt_z q.d p.d))))

  pub same_is : (int_eq p.a q.a && (int_eq p.b q.b && (int_eq p.c q.c && int_eq p.d q.d))) ≡ equal (plane p) (plane q)
  unfolding equal
  same_is = equal_step p.a q.a _ ∙ ap (λ t. eq_z p.a q.a and t) (equal_step p.b q.b _ ∙ ap (λ t. eq_z p.b q.b and t) (equal_step p.c q.c _ ∙ ap (λ t. eq_z p.c q.c and t) (equal_last p.d q.d)))

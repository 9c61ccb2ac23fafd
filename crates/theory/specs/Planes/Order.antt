-- The order of planes is a strict order of all planes, and its test is the order by a, then b, c, d.
--     Before, before_trans, before_irrefl, before_asym   the order
--     Ordered, ordered                                   of two planes one stands before the other, or they are equal
--     equal_of, equal_self, same?                        the test of equality
use Rattle.std.specs.Prelude.{◌≡◌, refl, Bool, T, ℤ}
use Rattle.std.proofs.Common.{sym, subst, ◌∙◌}
use Rattle.std.specs.Int.Signed.{lt_z}
use Rattle.whole.specs.Tests.{◌and◌, ◌or◌, eq_z, eq_z_of, eq_z_self, eq_z_true, and_split, and_make, or_left, or_right, or_split}
use Rattle.whole.specs.Order.{◌⋖◌, lt_lt, lt_eq, eq_lt, lt_not_lt, Compared, less, same, more, compared}
use Rattle.scope.specs.Planes.{Plane, before, equal}

pub record Before (p q : Plane) : Type 0 where
  pub is : T (before p q)

-- ---- by cases

pub data By (p q : Plane) : Type 0 where
  by_a : p.x ⋖ q.x → By p q
  by_b : p.x ≡ q.x → p.y ⋖ q.y → By p q
  by_c : p.x ≡ q.x → p.y ≡ q.y → p.z ⋖ q.z → By p q
  by_d : p.x ≡ q.x → p.y ≡ q.y → p.z ≡ q.z → p.w ⋖ q.w → By p q

-- one step of the test: less, or equal and the rest
module _ (u v : ℤ) (r : Bool) where
  step_split : {C : Type 0} → T (lt_z u v or (eq_z u v and r)) → (u ⋖ v → C) → (u ≡ v → T r → C) → C
  step_split t f g = or_split (lt_z u v) (eq_z u v and r) t (λ h. f (record { lt = h })) (λ h. let k = and_split (eq_z u v) r h in g (eq_z_of u v k.0) k.1)

  step_less : u ⋖ v → T (lt_z u v or (eq_z u v and r))
  step_less h = or_left (lt_z u v) (eq_z u v and r) h.lt

  step_same : u ≡ v → T r → T (lt_z u v or (eq_z u v and r))
  step_same e t = or_right (lt_z u v) (eq_z u v and r) (and_make (eq_z u v) r (eq_z_true e) t)

module _ (p q : Plane) where
  abbrev at_c : Bool
  at_c = lt_z p.z q.z or (eq_z p.z q.z and lt_z p.w q.w)

  abbrev at_b : Bool
  at_b = lt_z p.y q.y or (eq_z p.y q.y and at_c)

  before_by : T (before p q) → By p q
  unfolding before
  before_by t = step_split p.x q.x at_b t by_a (λ a t. step_split p.y q.y at_c t (by_b a) (λ b t. step_split p.z q.z (lt_z p.w q.w) t (by_c a b) (λ c t. by_d a b c (record { lt = t }))))

  by_before : By p q → T (before p q)
  unfolding before
  by_before (by_a h) = step_less p.x q.x at_b h
  by_before (by_b a h) = step_same p.x q.x at_b a (step_less p.y q.y at_c h)
  by_before (by_c a b h) = step_same p.x q.x at_b a (step_same p.y q.y at_c b (step_less p.z q.z (lt_z p.w q.w) h))
  by_before (by_d a b c h) = step_same p.x q.x at_b a (step_same p.y q.y at_c b (step_same p.z q.z (lt_z p.w q.w) c h.lt))

by : {p q : Plane} → Before p q → By p q
by {p} {q} h = before_by p q h.is

of : {p q : Plane} → By p q → Before p q
of {p} {q} h = record { is = by_before p q h }

-- ---- a strict order

by_trans : {p q r : Plane} → By p q → By q r → By p r
by_trans (by_a h) (by_a k) = by_a (lt_lt h k)
by_trans (by_a h) (by_b e k) = by_a (lt_eq h e)
by_trans (by_a h) (by_c e _ k) = by_a (lt_eq h e)
by_trans (by_a h) (by_d e _ _ k) = by_a (lt_eq h e)
by_trans (by_b e h) (by_a k) = by_a (eq_lt e k)
by_trans (by_b e h) (by_b d k) = by_b (e ∙ d) (lt_lt h k)
by_trans (by_b e h) (by_c d f k) = by_b (e ∙ d) (lt_eq h f)
by_trans (by_b e h) (by_d d f _ k) = by_b (e ∙ d) (lt_eq h f)
by_trans (by_c e f h) (by_a k) = by_a (eq_lt e k)
by_trans (by_c e f h) (by_b d k) = by_b (e ∙ d) (eq_lt f k)
by_trans (by_c e f h) (by_c d g k) = by_c (e ∙ d) (f ∙ g) (lt_lt h k)
by_trans (by_c e f h) (by_d d g i k) = by_c (e ∙ d) (f ∙ g) (lt_eq h i)
by_trans (by_d e f g h) (by_a k) = by_a (eq_lt e k)
by_trans (by_d e f g h) (by_b d k) = by_b (e ∙ d) (eq_lt f k)
by_trans (by_d e f g h) (by_c d i k) = by_c (e ∙ d) (f ∙ i) (eq_lt g k)
by_trans (by_d e f g h) (by_d d i j k) = by_d (e ∙ d) (f ∙ i) (g ∙ j) (lt_lt h k)

pub before_trans : {p q r : Plane} → Before p q → Before q r → Before p r
before_trans h k = of (by_trans (by h) (by k))

pub before_irrefl : {p q : Plane} → Before p q → p ≡ q → ⊥
before_irrefl {p} {q} b e = go (by (subst (λ t. Before p t) (sym e) b))
  where
    go : By p p → ⊥
    go (by_a h) = lt_not_lt h h
    go (by_b _ h) = lt_not_lt h h
    go (by_c _ _ h) = lt_not_lt h h
    go (by_d _ _ _ h) = lt_not_lt h h

pub before_asym : {p q : Plane} → Before p q → Before q p → ⊥
before_asym h k = before_irrefl (before_trans h k) refl

-- ---- of all planes

pub data Ordered (p q : Plane) : Type 0 where
  first : Before p q → Ordered p q
  level : p ≡ q → Ordered p q
  last : Before q p → Ordered p q

pub ordered : (p q : Plane) → Ordered p q
ordered p q = at_a (compared p.x q.x)
  where
    at_d : p.x ≡ q.x → p.y ≡ q.y → p.z ≡ q.z → Compared p.w q.w → Ordered p q
    at_d a b c (less h) = first (of (by_d a b c h))
    at_d a b c (same h) = level (λ i. record { x = a i; y = b i; z = c i; w = h i })
    at_d a b c (more h) = last (of (by_d (sym a) (sym b) (sym c) h))

    at_c : p.x ≡ q.x → p.y ≡ q.y → Compared p.z q.z → Ordered p q
    at_c a b (less h) = first (of (by_c a b h))
    at_c a b (same h) = at_d a b h (compared p.w q.w)
    at_c a b (more h) = last (of (by_c (sym a) (sym b) h))

    at_b : p.x ≡ q.x → Compared p.y q.y → Ordered p q
    at_b a (less h) = first (of (by_b a h))
    at_b a (same h) = at_c a h (compared p.z q.z)
    at_b a (more h) = last (of (by_b (sym a) h))

    at_a : Compared p.x q.x → Ordered p q
    at_a (less h) = first (of (by_a h))
    at_a (same h) = at_b h (compared p.y q.y)
    at_a (more h) = last (of (by_a h))

pub same? : (p q : Plane) → Dec (p ≡ q)
same? p q = elim (ordered p q) [ first h ↦ no (λ e. before_irrefl h e) | level e ↦ yes e | last h ↦ no (λ e. before_irrefl h (sym e)) ]

-- ---- the test of equality

pub equal_of : (p q : Plane) → T (equal p q) → p ≡ q
unfolding equal
equal_of p q t =
    let u = and_split (eq_z p.x q.x) (eq_z p.y q.y and eq_z p.z q.z and eq_z p.w q.w) t in
    let v = and_split (eq_z p.y q.y) (eq_z p.z q.z and eq_z p.w q.w) u.1 in
    let w = and_split (eq_z p.z q.z) (eq_z p.w q.w) v.1 in
    λ i. record { x = eq_z_of p.x q.x u.0 i; y = eq_z_of p.y q.y v.0 i; z = eq_z_of p.z q.z w.0 i; w = eq_z_of p.w q.w w.1 i }

pub equal_self : (p : Plane) → T (equal p p)
unfolding equal
equal_self p = and_make (eq_z p.x p.x) (eq_z p.y p.y and eq_z p.z p.z and eq_z p.w p.w) (eq_z_self p.x)
    (and_make (eq_z p.y p.y) (eq_z p.z p.z and eq_z p.w p.w) (eq_z_self p.y) (and_make (eq_z p.z p.z) (eq_z p.w p.w) (eq_z_self p.z) (eq_z_self p.w)))

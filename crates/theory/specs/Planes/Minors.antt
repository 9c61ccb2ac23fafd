-- Coincident planes: all six 2×2 minors are zero.
--     Minors, minors   what the test says
--     minorᴱ           a minor as an expression, for identities
use Rattle.std.specs.Prelude.{◌≡◌, refl, zero, suc, T, ℤ, pos, negsuc}
use Rattle.whole.specs.Tests.{◌and◌, and_split}
use Rattle.whole.specs.Expr.{Expr, ◌⊖◌, ◌⊗◌}
use Rattle.scope.specs.Planes.{Plane, minor, is_zero, coincident}

abbrev pub minorᴱ : Expr → Expr → Expr → Expr → Expr
minorᴱ a b c d = a ⊗ d ⊖ b ⊗ c

pub record Minors (p q : Plane) : Type 0 where
  pub xy : minor p.x p.y q.x q.y ≡ pos 0
  pub xz : minor p.x p.z q.x q.z ≡ pos 0
  pub xw : minor p.x p.w q.x q.w ≡ pos 0
  pub yz : minor p.y p.z q.y q.z ≡ pos 0
  pub yw : minor p.y p.w q.y q.w ≡ pos 0
  pub zw : minor p.z p.w q.z q.w ≡ pos 0

zero_of : (a : ℤ) → T (is_zero a) → a ≡ pos 0
zero_of (pos zero) t = refl
zero_of (pos (suc n)) t = absurd t
zero_of (negsuc n) t = absurd t

six : (a b c d e f : ℤ) → T (is_zero a and is_zero b and is_zero c and is_zero d and is_zero e and is_zero f)
    → (a ≡ pos 0) × (b ≡ pos 0) × (c ≡ pos 0) × (d ≡ pos 0) × (e ≡ pos 0) × (f ≡ pos 0)
six a b c d e f t =
    let u = and_split (is_zero a) (is_zero b and is_zero c and is_zero d and is_zero e and is_zero f) t in
    let v = and_split (is_zero b) (is_zero c and is_zero d and is_zero e and is_zero f) u.1 in
    let w = and_split (is_zero c) (is_zero d and is_zero e and is_zero f) v.1 in
    let x = and_split (is_zero d) (is_zero e and is_zero f) w.1 in
    let y = and_split (is_zero e) (is_zero f) x.1 in
    (zero_of a u.0, zero_of b v.0, zero_of c w.0, zero_of d x.0, zero_of e y.0, zero_of f y.1)

pub minors : (p q : Plane) → T (coincident p q) → Minors p q
unfolding coincident
minors p q t =
    let s = six _ _ _ _ _ _ t in
    record { xy = s.0; xz = s.1; xw = s.2; yz = s.3; yw = s.4; zw = s.5 }

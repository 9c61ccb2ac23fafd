-- Document 01, "Numbers": planes and points, sides, where three planes meet, lawful planes and their order.
use Rattle.std.specs.Prelude.{◌≡◌, Bool, true, false, ℕ, zero, suc, T, leb, eqb, ℤ, pos, negsuc, neg_ℤ, nat_abs, ◌-ℤ◌, ◌*ℤ◌}
use Rattle.std.proofs.Math.Option.{Option, none, some}
use Rattle.std.specs.Int.Signed.{lt_z}
use Rattle.whole.specs.Tests.{◌and◌, ◌or◌, eq_z}
use Rattle.whole.specs.Vec.{V4, xyz, dot4, det3, det4, cross4}
use Rattle.whole.specs.Sign.{Sign, minus, nought, plus, sgn, ◌·◌}
use Rattle.whole.specs.Gcd.{gcd}
use Rattle.scope.specs.Limits.{most_abc, most_d, most_xyz, most_w}

-- a plane or a half-space (a,b,c,d): a is `.x`, b `.y`, c `.z` and d `.w`
abbrev pub Plane : Type 0
Plane = V4 ℤ

-- N.10: a point (x,y,z,w), meaning x/w, y/w, z/w
abbrev pub Point : Type 0
Point = V4 ℤ

-- ax+by+cz+dw
unfoldable pub at : Plane → Point → ℤ
at p X = dot4 p X

-- N.12: plus is front, minus back, nought on
abbrev pub side : Plane → Point → Sign
side p X = sgn (at p X)

-- the half-space behind a plane: its sides exchanged
unfoldable pub flip : Plane → Plane
flip p = record { x = neg_ℤ p.x; y = neg_ℤ p.y; z = neg_ℤ p.z; w = neg_ℤ p.w }

-- ---- three planes

-- N.14: the point on three planes, if its last number, the 3×3 determinant of their normals, is not zero
unfoldable pub meet : Plane → Plane → Plane → Point
meet p q r = cross4 p q r

-- N.16: the side of h on which p, q and r meet: the signs of the two determinants are multiplied, and not the determinants
abbrev pub meet_side : Plane → Plane → Plane → Plane → Sign
meet_side p q r h = sgn (det3 (xyz p) (xyz q) (xyz r)) · sgn (det4 p q r h)

-- the same plane, facing either way: all six 2×2 minors are zero
abbrev pub minor : ℤ → ℤ → ℤ → ℤ → ℤ
minor a b c d = a *ℤ d -ℤ b *ℤ c

abbrev pub is_zero : ℤ → Bool
is_zero (pos zero) = true
is_zero (pos (suc n)) = false
is_zero (negsuc n) = false

unfoldable pub coincident : Plane → Plane → Bool
coincident p q = is_zero (minor p.x p.y q.x q.y) and is_zero (minor p.x p.z q.x q.z) and is_zero (minor p.x p.w q.x q.w)
    and is_zero (minor p.y p.z q.y q.z) and is_zero (minor p.y p.w q.y q.w) and is_zero (minor p.z p.w q.z q.w)

-- ---- lawful planes

unfoldable pub in_range : Plane → Bool
in_range p = leb (nat_abs p.x) most_abc and leb (nat_abs p.y) most_abc and leb (nat_abs p.z) most_abc and leb (nat_abs p.w) most_d

-- the sign of the first nonzero among a, b, c; nought is a normal that is zero
abbrev pub then : Sign → Sign → Sign
then plus s = plus
then nought s = s
then minus s = minus

unfoldable pub lead : Plane → Sign
lead p = then (sgn p.x) (then (sgn p.y) (sgn p.z))

-- the greatest common divisor of all four numbers
unfoldable pub common : Plane → ℕ
common p = gcd (nat_abs p.x) (gcd (nat_abs p.y) (gcd (nat_abs p.z) (nat_abs p.w)))

-- N.17: in range, a normal that is not zero with a positive first nonzero, reduced
pub record Lawful (p : Plane) : Type 0 where
  pub range : T (in_range p)
  pub normal : lead p ≡ plus
  pub reduced : common p ≡ 1

-- what may be wrong with a plane, in the order in which it is looked for; document 01 gives each the number 4 (R.4)
pub data Fault : Type 0 where
  out_of_range : Fault
  zero_normal : Fault
  not_reduced : Fault
  wrong_sign : Fault

abbrev pub fault_number : Fault → ℕ
fault_number f = 4

abbrev pub faults : Bool → Sign → Bool → Option Fault
faults false s b = some out_of_range
faults true nought b = some zero_normal
faults true minus false = some not_reduced
faults true minus true = some wrong_sign
faults true plus false = some not_reduced
faults true plus true = none

unfoldable pub fault : Plane → Option Fault
fault p = faults (in_range p) (lead p) (eqb (common p) 1)

-- S.1: for a section range and nonzero normal suffice
abbrev pub half_faults : Bool → Sign → Option Fault
half_faults false s = some out_of_range
half_faults true nought = some zero_normal
half_faults true minus = none
half_faults true plus = none

unfoldable pub half_fault : Plane → Option Fault
half_fault p = half_faults (in_range p) (lead p)

-- ---- the order

-- N.19: by a, then b, c, d, as signed numbers
unfoldable pub before : Plane → Plane → Bool
before p q = lt_z p.x q.x or (eq_z p.x q.x and (lt_z p.y q.y or (eq_z p.y q.y and (lt_z p.z q.z or (eq_z p.z q.z and lt_z p.w q.w)))))

unfoldable pub equal : Plane → Plane → Bool
equal p q = eq_z p.x q.x and eq_z p.y q.y and eq_z p.z q.z and eq_z p.w q.w

-- ---- points given to a call

-- N.9: x, y, z in range, w at least 1 and in range
unfoldable pub point_in_range : Point → Bool
point_in_range X = leb (nat_abs X.x) most_xyz and leb (nat_abs X.y) most_xyz and leb (nat_abs X.z) most_xyz and lt_z (pos 0) X.w and leb (nat_abs X.w) most_w

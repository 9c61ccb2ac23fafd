-- Planes and points: faults, sides, meetings, coincidence, order.
use mathlib.Core.Bool.{Bool, true, false, not}
use mathlib.Core.List.{List, [], ◌∷◌}
use mathlib.Core.Option.{Option, none, some}
use Prim.Native.Nat.{ℕ}
use lib.Dec.{T, eqb}
use lib.IntN.{pos}
use Rattle.whole.specs.Tests.{◌and◌}
use Rattle.whole.specs.Sign.{Sign, minus, nought, plus}
use Rattle.whole.specs.Gcd.{euclid, gcd}
use Rattle.scope.specs.Planes.{Plane, Point, at, side, meet_side, coincident, in_range, lead, common, Fault, out_of_range, zero_normal, not_reduced, wrong_sign, fault, half_fault, before, equal, point_in_range}
use Rattle.scope.proofs.Kit.{pl, m, every}

-- 0 for no fault, else the fault's place in the order of judging
abbrev kind : Option Fault → ℕ
kind none = 0
kind (some out_of_range) = 1
kind (some zero_normal) = 2
kind (some not_reduced) = 3
kind (some wrong_sign) = 4

faulty : Plane × ℕ → Bool
faulty c = eqb (kind (fault c.0)) c.1

planes : List (Plane × ℕ)
planes = (pl (pos 1000) (pos 0) (pos 0) (pos 1), 0) ∷ (pl (pos 1) (m 1000) (m 1000) (m 100000000), 0) ∷ (pl (pos 0) (pos 0) (pos 1000) (pos 99999999), 0)
    ∷ (pl (pos 1001) (pos 0) (pos 0) (pos 1), 1) ∷ (pl (pos 1) (m 1001) (pos 0) (pos 1), 1) ∷ (pl (pos 1) (pos 0) (pos 0) (pos 100000001), 1) ∷ (pl (pos 1) (pos 0) (pos 0) (m 100000001), 1)
    ∷ (pl (pos 0) (pos 0) (pos 0) (pos 1), 2) ∷ (pl (pos 0) (pos 0) (pos 0) (pos 2), 2)
    ∷ (pl (pos 2) (pos 4) (pos 6) (pos 8), 3) ∷ (pl (m 2) (pos 0) (pos 0) (pos 2), 3) ∷ (pl (pos 2) (pos 4) (pos 6) (pos 9), 0)
    ∷ (pl (m 1) (pos 0) (pos 0) (pos 5), 4) ∷ (pl (pos 0) (m 1) (pos 1) (pos 5), 4) ∷ (pl (pos 0) (pos 0) (m 3) (pos 7), 4) ∷ (pl (pos 1) (m 1) (m 1) (m 5), 0) ∷ []

the_faults : T (every faulty planes)
unfolding every faulty planes fault in_range lead common gcd euclid
the_faults = tt

-- a section takes unreduced and turned planes
half_spaces : List (Plane × ℕ)
half_spaces = (pl (m 2) (pos 4) (pos 6) (pos 8), 0) ∷ (pl (pos 0) (pos 0) (pos 0) (pos 2), 2) ∷ (pl (pos 0) (pos 0) (m 1001) (pos 2), 1) ∷ []

the_half_spaces : T (every (λ c. eqb (kind (half_fault c.0)) c.1) half_spaces)
unfolding every half_spaces half_fault in_range lead
the_half_spaces = tt

abbrev sign_number : Sign → ℕ
sign_number minus = 0
sign_number nought = 1
sign_number plus = 2

sides : List (Plane × Point × ℕ)
sides = (pl (pos 0) (pos 0) (pos 1) (m 5), pl (pos 0) (pos 0) (pos 10) (pos 2), 1) ∷ (pl (pos 0) (pos 0) (pos 1) (m 5), pl (pos 0) (pos 0) (pos 11) (pos 2), 2)
    ∷ (pl (pos 0) (pos 0) (pos 1) (m 5), pl (pos 0) (pos 0) (pos 9) (pos 2), 0) ∷ (pl (pos 1) (pos 2) (pos 3) (m 6), pl (pos 1) (pos 1) (pos 1) (pos 1), 1) ∷ []

the_sides : T (every (λ c. eqb (sign_number (side c.0 c.1)) c.2) sides)
unfolding every sides at
the_sides = tt

-- the planes x = 1, y = 2, z = 3 in two orders, with a positive and a negative determinant, against x > 0 and x < 0; parallel planes have no side
meetings : List (Plane × Plane × Plane × Plane × ℕ)
meetings = (pl (pos 1) (pos 0) (pos 0) (m 1), pl (pos 0) (pos 1) (pos 0) (m 2), pl (pos 0) (pos 0) (pos 1) (m 3), pl (pos 1) (pos 0) (pos 0) (pos 0), 2)
    ∷ (pl (pos 0) (pos 1) (pos 0) (m 2), pl (pos 1) (pos 0) (pos 0) (m 1), pl (pos 0) (pos 0) (pos 1) (m 3), pl (pos 1) (pos 0) (pos 0) (pos 0), 2)
    ∷ (pl (pos 0) (pos 1) (pos 0) (m 2), pl (pos 1) (pos 0) (pos 0) (m 1), pl (pos 0) (pos 0) (pos 1) (m 3), pl (m 1) (pos 0) (pos 0) (pos 0), 0)
    ∷ (pl (pos 0) (pos 1) (pos 0) (m 2), pl (pos 1) (pos 0) (pos 0) (m 1), pl (pos 0) (pos 0) (pos 1) (m 3), pl (pos 1) (pos 1) (pos 1) (m 6), 1) ∷ []

the_meetings : T (every (λ c. eqb (sign_number (meet_side c.0 c.1 c.2 c.3)) c.4) meetings)
unfolding every meetings
the_meetings = tt

-- unreduced and turned planes coincide; each of the six minors may be the one that tells
coincidences : List (Plane × Plane)
coincidences = (pl (pos 1) (pos 2) (pos 3) (pos 4), pl (m 2) (m 4) (m 6) (m 8)) ∷ (pl (pos 1) (pos 0) (pos 0) (pos 5), pl (pos 1) (pos 0) (pos 0) (pos 5)) ∷ []

others : List (Plane × Plane)
others = (pl (pos 1) (pos 0) (pos 0) (pos 0), pl (pos 0) (pos 1) (pos 0) (pos 0)) ∷ (pl (pos 1) (pos 0) (pos 0) (pos 0), pl (pos 0) (pos 0) (pos 1) (pos 0))
    ∷ (pl (pos 1) (pos 0) (pos 0) (pos 0), pl (pos 1) (pos 0) (pos 0) (pos 1)) ∷ (pl (pos 0) (pos 1) (pos 0) (pos 0), pl (pos 0) (pos 0) (pos 1) (pos 0))
    ∷ (pl (pos 0) (pos 1) (pos 0) (pos 0), pl (pos 0) (pos 1) (pos 0) (pos 1)) ∷ (pl (pos 0) (pos 0) (pos 1) (pos 0), pl (pos 0) (pos 0) (pos 1) (pos 1)) ∷ []

the_coincidences : T (every (λ c. coincident c.0 c.1) coincidences and every (λ c. not (coincident c.0 c.1)) others)
unfolding every coincidences others coincident
the_coincidences = tt

-- as signed numbers: -1 before 1
ordered : List (Plane × Plane)
ordered = (pl (pos 0) (pos 1) (m 1) (pos 0), pl (pos 0) (pos 1) (pos 1) (m 9)) ∷ (pl (pos 1) (m 1) (pos 9) (pos 9), pl (pos 1) (pos 0) (m 9) (m 9)) ∷ (pl (pos 1) (pos 0) (pos 0) (m 2), pl (pos 1) (pos 0) (pos 0) (m 1))
    ∷ (pl (pos 0) (pos 9) (pos 9) (pos 9), pl (pos 1) (m 9) (m 9) (m 9)) ∷ []

the_order : T (every (λ c. before c.0 c.1 and (not (before c.1 c.0) and (not (before c.0 c.0) and (equal c.0 c.0 and not (equal c.0 c.1))))) ordered)
unfolding every ordered before equal
the_order = tt

points : List (Point × Bool)
points = (pl (pos 1000000000000000) (m 1000000000000000) (pos 0) (pos 10000000000), true) ∷ (pl (pos 1000000000000001) (pos 0) (pos 0) (pos 1), false) ∷ (pl (pos 0) (pos 0) (m 1000000000000001) (pos 1), false)
    ∷ (pl (pos 0) (pos 0) (pos 0) (pos 1), true) ∷ (pl (pos 0) (pos 0) (pos 0) (pos 0), false) ∷ (pl (pos 0) (pos 0) (pos 0) (m 1), false) ∷ (pl (pos 0) (pos 0) (pos 0) (pos 10000000001), false) ∷ []

abbrev agree : Bool → Bool → Bool
agree true b = b
agree false b = not b

the_points : T (every (λ c. agree c.1 (point_in_range c.0)) points)
unfolding every points point_in_range
the_points = tt

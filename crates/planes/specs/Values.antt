-- What the code's structs and enums stand for.
--     plane, point, meeting   the four numbers of a struct
--     side_is, side_sign      a side is a sign: front plus, on nought, back minus
--     four_at                 entry i of a table, and the three after it
--     fault_is                a fault of document 01 as the code's
--     side_refusal            what a side is refused with: 4 for the plane, 10 for the point
--     order_by                an order, by the two tests of which is before the other
use Rattle.std.specs.Prelude.{Bool, cond, List, ℕ, ◌+◌, ℤ, pos, get_or}
use Rattle.std.specs.declared.cmp.Ordering.{Ordering}
use Rattle.std.specs.declared.cmp.Ordering.TheVariants.{Less, Equal, Greater}
use Rattle.whole.specs.Vec.{V3, V4}
use Rattle.whole.specs.Sign.{Sign, minus, nought, plus}
use Rattle.scope.specs.Planes as scope
use Rattle.planes.specs.declared.Plane.{Plane}
use Rattle.planes.specs.declared.Point.{Point}
use Rattle.planes.specs.declared.Meeting.{Meeting}
use Rattle.planes.specs.declared.Side.{Side}
use Rattle.planes.specs.declared.Side.TheVariants.{Front, On, Back}
use Rattle.planes.specs.declared.Fault.{Fault}
use Rattle.planes.specs.declared.Fault.TheVariants.{OutOfRange, ZeroNormal, NotReduced, WrongSign}
use Rattle.planes.specs.declared.SideFault.{SideFault}
use Rattle.planes.specs.declared.SideFault.TheVariants.{BadPlane, BadPoint}
use Rattle.refusals.specs.declared.Refusal as refusal

-- ---- numbers

abbrev pub triple : ℤ → ℤ → ℤ → V3 ℤ
triple a b c = record { x = a; y = b; z = c }

abbrev pub quad : ℤ → ℤ → ℤ → ℤ → V4 ℤ
quad a b c d = record { x = a; y = b; z = c; w = d }

abbrev pub plane : Plane → scope.Plane
plane p = quad p.a p.b p.c p.d

abbrev pub point : Point → scope.Point
point x = quad x.x x.y x.z x.w

abbrev pub meeting : Meeting → V4 ℤ
meeting m = quad m.x m.y m.z m.w

abbrev pub four_at : List ℤ → ℕ → scope.Plane
four_at t i = quad (get_or t i (pos 0)) (get_or t (i + 1) (pos 0)) (get_or t (i + 2) (pos 0)) (get_or t (i + 3) (pos 0))

-- ---- sides

abbrev pub side_is : Sign → Side
side_is plus = Front
side_is nought = On
side_is minus = Back

abbrev pub side_sign : Side → Sign
side_sign Front = plus
side_sign On = nought
side_sign Back = minus

-- the first of two that is not On, and the product of two signs, as the code has them
abbrev pub side_then : Side → Side → Side
side_then Front t = Front
side_then On t = t
side_then Back t = Back

abbrev pub side_times : Side → Side → Side
side_times Front t = t
side_times On t = On
side_times Back Front = Back
side_times Back On = On
side_times Back Back = Front

-- ---- faults

abbrev pub fault_is : scope.Fault → Fault
fault_is scope.out_of_range = OutOfRange
fault_is scope.zero_normal = ZeroNormal
fault_is scope.not_reduced = NotReduced
fault_is scope.wrong_sign = WrongSign

abbrev pub fault_of : Fault → scope.Fault
fault_of OutOfRange = scope.out_of_range
fault_of ZeroNormal = scope.zero_normal
fault_of NotReduced = scope.not_reduced
fault_of WrongSign = scope.wrong_sign

abbrev pub side_refusal : SideFault → refusal.Refusal
side_refusal (BadPlane f) = refusal.TheVariants.UnlawfulPlane
side_refusal BadPoint = refusal.TheVariants.BadPoint

-- ---- orders

-- the first is before the second, or the second before the first, or neither
abbrev pub order_by : Bool → Bool → Ordering
order_by b c = cond b Less (cond c Greater Equal)

-- What each public call promises, in document 01's words: its answer is exactly the one that `scope`'s definitions give.
-- Each record has the field `exact`, which leaves no second answer. A definition `.._answer` gives document 01's number and values for each case.
use Rattle.std.specs.Prelude.{◌≡◌, Bool, true, false, cond, Result, Ok, Err, None, Some, ℤ, pos, ◌+ℤ◌, ◌-ℤ◌, ◌*ℤ◌}
use Rattle.std.specs.Prelude as std
use Rattle.std.proofs.Math.Option.{Option, none, some}
use Rattle.whole.specs.Vec.{V4, xyz, det3}
use Rattle.whole.specs.Tests.{◌and◌}
use Rattle.whole.specs.Sign.{Sign}
use Rattle.scope.specs.Limits.{reach}
use Rattle.scope.specs.Planes as scope
use Rattle.scope.specs.Solids.{positive}
use Rattle.scope.specs.Cells.{box}
use Rattle.scope.specs.Answers.{Answer, given, refused, plane_answer, plane_by_fault, all_front}
use Rattle.planes.specs.Values.{quad, plane, point, meeting, side_is, side_sign, fault_is, fault_of, order_by}
use Rattle.planes.specs.declared.Plane.{Plane}
use Rattle.planes.specs.declared.Point.{Point}
use Rattle.planes.specs.declared.Meeting.{Meeting}
use Rattle.planes.specs.declared.Side.{Side}
use Rattle.planes.specs.declared.Fault.{Fault}
use Rattle.planes.specs.declared.Fault.TheVariants.{OutOfRange}
use Rattle.planes.specs.declared.PointFault as PointFault
use Rattle.planes.specs.declared.SideFault as SideFault
use Rattle.std.specs.declared.cmp.Ordering.{Ordering}

-- ---- Plane::new and Plane::half_space

abbrev pub made_by : ℤ → ℤ → ℤ → ℤ → Option scope.Fault → Result Plane Fault
made_by a b c d none = Ok (record { a = a; b = b; c = c; d = d })
made_by a b c d (some f) = Err (fault_is f)

-- the plane, or 4
abbrev pub made_answer : Result Plane Fault → Answer scope.Plane
made_answer (Ok p) = given (plane p)
made_answer (Err f) = refused (scope.fault_number (fault_of f))

pub record PlaneMade (a b c d : ℤ) (r : Result Plane Fault) : Type 0 where
  pub exact : r ≡ made_by a b c d (scope.fault (quad a b c d))
  pub answer : made_answer r ≡ plane_answer (quad a b c d)

pub record HalfSpaceMade (a b c d : ℤ) (r : Result Plane Fault) : Type 0 where
  pub exact : r ≡ made_by a b c d (scope.half_fault (quad a b c d))
  pub answer : made_answer r ≡ plane_by_fault (quad a b c d) (scope.half_fault (quad a b c d))

-- ---- Point::new

-- in range, and strictly inside the box
abbrev pub point_by : ℤ → ℤ → ℤ → ℤ → Bool → Bool → Result Point PointFault.PointFault
point_by x y z w false b = Err PointFault.TheVariants.OutOfRange
point_by x y z w true false = Err PointFault.TheVariants.OutOfBox
point_by x y z w true true = Ok (record { x = x; y = y; z = z; w = w })

-- the point, or 10
abbrev pub made_point_answer : Result Point PointFault.PointFault → Answer scope.Point
made_point_answer (Ok X) = given (point X)
made_point_answer (Err PointFault.TheVariants.OutOfRange) = refused 10
made_point_answer (Err PointFault.TheVariants.OutOfBox) = refused 10

pub record PointMade (x y z w : ℤ) (r : Result Point PointFault.PointFault) : Type 0 where
  pub exact : r ≡ point_by x y z w (scope.point_in_range (quad x y z w)) (all_front box (quad x y z w))
  pub answer : made_point_answer r ≡ cond (scope.point_in_range (quad x y z w) and all_front box (quad x y z w)) (given (quad x y z w)) (refused 10)

-- ---- Plane::side

abbrev pub sided_by : Bool → Bool → Sign → Result Side SideFault.SideFault
sided_by false b s = Err (SideFault.TheVariants.BadPlane OutOfRange)
sided_by true false s = Err SideFault.TheVariants.BadPoint
sided_by true true s = Ok (side_is s)

-- the side, or 4 for the plane, or 10 for the point
abbrev pub sided_answer : Result Side SideFault.SideFault → Answer Sign
sided_answer (Ok s) = given (side_sign s)
sided_answer (Err (SideFault.TheVariants.BadPlane f)) = refused (scope.fault_number (fault_of f))
sided_answer (Err SideFault.TheVariants.BadPoint) = refused 10

pub record SideTold (p : Plane) (X : Point) (r : Result Side SideFault.SideFault) : Type 0 where
  pub exact : r ≡ sided_by (scope.in_range (plane p)) (scope.point_in_range (point X)) (scope.side (plane p) (point X))
  pub answer : sided_answer r ≡ cond (scope.in_range (plane p)) (cond (scope.point_in_range (point X)) (given (scope.side (plane p) (point X))) (refused 10)) (refused 4)

-- ---- meet

abbrev pub three_in_range : Plane → Plane → Plane → Bool
three_in_range p q r = scope.in_range (plane p) and scope.in_range (plane q) and scope.in_range (plane r)

abbrev pub meeting_is : V4 ℤ → Meeting
meeting_is X = record { x = X.x; y = X.y; z = X.z; w = X.w }

abbrev pub met_by : Bool → Bool → V4 ℤ → Result (std.Option Meeting) Fault
met_by false b X = Err OutOfRange
met_by true true X = Ok None
met_by true false X = Ok (Some (meeting_is X))

-- the point's four numbers, none if the planes have no one point, or 4
abbrev pub met_answer : Result (std.Option Meeting) Fault → Answer (Option (V4 ℤ))
met_answer (Ok (Some m)) = given (some (meeting m))
met_answer (Ok None) = given none
met_answer (Err f) = refused (scope.fault_number (fault_of f))

-- the 3×3 determinant of the normals
abbrev pub normals : Plane → Plane → Plane → ℤ
normals p q r = det3 (xyz (plane p)) (xyz (plane q)) (xyz (plane r))

pub record MeetTold (p q r : Plane) (m : Result (std.Option Meeting) Fault) : Type 0 where
  pub exact : m ≡ met_by (three_in_range p q r) (scope.is_zero (normals p q r)) (scope.meet (plane p) (plane q) (plane r))
  pub answer : met_answer m ≡ cond (three_in_range p q r) (given (cond (scope.is_zero (normals p q r)) none (some (scope.meet (plane p) (plane q) (plane r))))) (refused 4)

-- ---- meet_side

abbrev pub meet_sided_by : Bool → Bool → Sign → Result (std.Option Side) Fault
meet_sided_by false b s = Err OutOfRange
meet_sided_by true true s = Ok None
meet_sided_by true false s = Ok (Some (side_is s))

-- the side, none if the planes have no one point, or 4
abbrev pub meet_sided_answer : Result (std.Option Side) Fault → Answer (Option Sign)
meet_sided_answer (Ok (Some s)) = given (some (side_sign s))
meet_sided_answer (Ok None) = given none
meet_sided_answer (Err f) = refused (scope.fault_number (fault_of f))

pub record MeetSideTold (p q r h : Plane) (m : Result (std.Option Side) Fault) : Type 0 where
  pub exact : m ≡ meet_sided_by (three_in_range p q r and scope.in_range (plane h)) (scope.is_zero (normals p q r)) (scope.meet_side (plane p) (plane q) (plane r) (plane h))
  pub answer : meet_sided_answer m
      ≡ cond (three_in_range p q r and scope.in_range (plane h)) (given (cond (scope.is_zero (normals p q r)) none (some (scope.meet_side (plane p) (plane q) (plane r) (plane h))))) (refused 4)

-- ---- Plane::order and Plane::same

pub record OrderTold (p q : Plane) (r : Ordering) : Type 0 where
  pub exact : r ≡ order_by (scope.before (plane p) (plane q)) (scope.before (plane q) (plane p))

pub record SameTold (p q : Plane) (r : Bool) : Type 0 where
  pub exact : r ≡ scope.equal (plane p) (plane q)

-- ---- coincident

abbrev pub coincide_by : Bool → Bool → Result Bool Fault
coincide_by false b = Err OutOfRange
coincide_by true b = Ok b

-- yes or no, or 4
abbrev pub coincide_answer : Result Bool Fault → Answer Bool
coincide_answer (Ok b) = given b
coincide_answer (Err f) = refused (scope.fault_number (fault_of f))

pub record CoincideTold (p q : Plane) (r : Result Bool Fault) : Type 0 where
  pub exact : r ≡ coincide_by (scope.in_range (plane p) and scope.in_range (plane q)) (scope.coincident (plane p) (plane q))
  pub answer : coincide_answer r ≡ cond (scope.in_range (plane p) and scope.in_range (plane q)) (given (scope.coincident (plane p) (plane q))) (refused 4)

-- ---- beneath them

-- x/w lies strictly between the box's two sides
abbrev pub between : ℤ → ℤ → Bool
between x w = positive (x +ℤ pos reach *ℤ w) and positive (pos reach *ℤ w -ℤ x)

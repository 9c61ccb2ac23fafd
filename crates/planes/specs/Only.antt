-- No second answer fits a promise: two answers of the same call are equal. Document 01, "What the promises say".
use Rattle.std.specs.Prelude.{◌≡◌, Bool, Option, Result, ℤ}
use Rattle.std.proofs.Common.{sym, ◌∙◌}
use Rattle.planes.specs.Promises.{PlaneMade, HalfSpaceMade, PointMade, SideTold, MeetTold, MeetSideTold, OrderTold, SameTold, CoincideTold}
use Rattle.planes.specs.declared.Plane.{Plane}
use Rattle.planes.specs.declared.Point.{Point}
use Rattle.planes.specs.declared.Meeting.{Meeting}
use Rattle.planes.specs.declared.Side.{Side}
use Rattle.planes.specs.declared.Fault.{Fault}
use Rattle.planes.specs.declared.PointFault.{PointFault}
use Rattle.planes.specs.declared.SideFault.{SideFault}
use Rattle.std.specs.declared.cmp.Ordering.{Ordering}

module _ {a b c d : ℤ} {r s : Result Plane Fault} where
  pub plane_made_unique : PlaneMade a b c d r → PlaneMade a b c d s → r ≡ s
  plane_made_unique h k = h.exact ∙ sym k.exact

  pub half_space_made_unique : HalfSpaceMade a b c d r → HalfSpaceMade a b c d s → r ≡ s
  half_space_made_unique h k = h.exact ∙ sym k.exact

pub point_made_unique : {x y z w : ℤ} {r s : Result Point PointFault} → PointMade x y z w r → PointMade x y z w s → r ≡ s
point_made_unique h k = h.exact ∙ sym k.exact

pub side_unique : {p : Plane} {X : Point} {r s : Result Side SideFault} → SideTold p X r → SideTold p X s → r ≡ s
side_unique h k = h.exact ∙ sym k.exact

pub meet_unique : {p q r : Plane} {m n : Result (Option Meeting) Fault} → MeetTold p q r m → MeetTold p q r n → m ≡ n
meet_unique h k = h.exact ∙ sym k.exact

pub meet_side_unique : {p q r u : Plane} {m n : Result (Option Side) Fault} → MeetSideTold p q r u m → MeetSideTold p q r u n → m ≡ n
meet_side_unique h k = h.exact ∙ sym k.exact

pub order_unique : {p q : Plane} {r s : Ordering} → OrderTold p q r → OrderTold p q s → r ≡ s
order_unique h k = h.exact ∙ sym k.exact

pub same_unique : {p q : Plane} {r s : Bool} → SameTold p q r → SameTold p q s → r ≡ s
same_unique h k = h.exact ∙ sym k.exact

pub coincide_unique : {p q : Plane} {r s : Result Bool Fault} → CoincideTold p q r → CoincideTold p q s → r ≡ s
coincide_unique h k = h.exact ∙ sym k.exact

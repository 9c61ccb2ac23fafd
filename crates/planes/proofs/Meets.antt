-- Where three planes meet, as the code has it: the determinant of the normals, and the side of a fourth plane there (N.14 to N.16).
use mathlib.Core.Path.{◌≡◌, refl, sym, ap, ◌∙◌}
use mathlib.Core.Bool.{Bool, true, false}
use Rattle.std.specs.Prelude.{Ok, Some}
use lib.IntN.{ℤ}
use lib.Signed.{mag}
use Prim.Native.Nat.{◌<◌}
use mir.Syntax.{w64}
use mir.Val.{SFits, of_z}
use Rattle.whole.specs.Tests.{and_true, ◌and◌, differ}
use Rattle.whole.specs.Bounds.{fits64}
use Rattle.whole.specs.Code.{in64, back64}
use Rattle.whole.specs.Vec.{V4, dot4, det4}
use Rattle.whole.specs.Sign.{sgn}
use Rattle.whole.specs.Identities.{det4_last}
use Rattle.scope.specs.Planes as scope
use Rattle.planes.specs.Values.{plane, meeting, side_is, side_times}
use Rattle.planes.specs.Bounds.{ThreeIn, MeetingIn, SumIn, in_range_in, meeting_bound}
use Rattle.planes.specs.Promises.{normals, three_in_range, met_by, MeetTold, MeetSideTold}
use Rattle.planes.specs.Follows.{met_bound}
use Rattle.planes.specs.declared.Plane.{Plane}
use Rattle.planes.specs.declared.Meeting.{Meeting}
use Rattle.planes.specs.declared.Side.{Side}
use Rattle.planes.proofs.Told.{meet_sided}
use Rattle.planes.proofs.Laws.{k, times_is, zero_yes, zero_no, bits_zero, sum_in_meeting}

-- the limits of three planes
pub three_limits : (p q r : Plane) → three_in_range p q r ≡ true → ThreeIn p q r
three_limits p q r e =
    let s = and_true (scope.in_range (plane p)) (scope.in_range (plane q) and scope.in_range (plane r)) e in
    let t = and_true (scope.in_range (plane q)) (scope.in_range (plane r)) s.1 in
    record { first = in_range_in s.0; second = in_range_in t.0; third = in_range_in t.1 }

module _ (p q r : Plane) (m : Meeting) (e : meeting m ≡ scope.meet (plane p) (plane q) (plane r)) where
  weight_is : m.w ≡ normals p q r
  unfolding scope.meet
  weight_is = ap (λ (X : V4 ℤ). X.w) e

  -- a fourth plane's sum at the meeting is the 4×4 determinant
  four_is : (u : Plane) → dot4 (plane u) (meeting m) ≡ det4 (plane p) (plane q) (plane r) (plane u)
  unfolding scope.meet
  four_is u = ap (dot4 (plane u)) e ∙ sym (det4_last (plane p) (plane q) (plane r) (plane u))

  -- the test of the determinant, on its bits
  module _ (h : ThreeIn p q r) where
    weight_fits : SFits w64 m.w
    weight_fits = let i : MeetingIn (meeting m) = rw e (meeting_bound h.first h.second h.third) in fits64 i.w_in tt

    pub weight_zero : of_z w64 m.w ≡ 0 → scope.is_zero (normals p q r) ≡ true
    weight_zero z = zero_yes (sym weight_is ∙ bits_zero m.w weight_fits z)

    pub weight_some : (of_z w64 m.w ≡ 0 → ⊥) → scope.is_zero (normals p q r) ≡ false
    weight_some n = zero_no (normals p q r) (λ z. n (ap (of_z w64) (weight_is ∙ z)))

-- ---- the side of a fourth plane, from what `meet` told of three

-- where they meet: they are in range, the determinant of the normals is not zero, and the meeting is the one of document 01
record Meets (p q r : Plane) (m : Meeting) : Type 0 where
  range : three_in_range p q r ≡ true
  weight : scope.is_zero (normals p q r) ≡ false
  is : meeting m ≡ scope.meet (plane p) (plane q) (plane r)

met_some : {p q r : Plane} {m : Meeting} → MeetTold p q r (Ok (Some m)) → Meets p q r m
met_some {p} {q} {r} {m} h = go (three_in_range p q r) (scope.is_zero (normals p q r)) refl refl h.exact
  where
    go : (i z : Bool) → three_in_range p q r ≡ i → scope.is_zero (normals p q r) ≡ z → Ok (Some m) ≡ met_by i z (scope.meet (plane p) (plane q) (plane r)) → Meets p q r m
    go false z e f g = differ (cc)
    go true true e f g = differ (cc)
    go true false e f g = record { range = e; weight = f; is = cc }

-- the fourth is in range
module _ {p q r u : Plane} {b : Bool} (h : b ≡ scope.in_range (plane u)) (yes : b ≡ true) {m : Meeting} (i : MeetTold p q r (Ok (Some m))) where
  pub fourth_in : SumIn u.a u.b u.c u.d m.x m.y m.z m.w
  fourth_in = sum_in_meeting (in_range_in (sym h ∙ yes)) (met_bound i)

  -- the product of the two signs
  pub side_told : {v : ℤ} {s t f : Side} → mag v < 9223372036854775808 → v ≡ dot4 (plane u) (meeting m) → s ≡ side_is (sgn (k m.w)) → t ≡ side_is (sgn (k v)) → f ≡ side_times s t
      → MeetSideTold p q r u (Ok (Some f))
  side_told {v} {f = f} ok n a c d =
      let e : f ≡ side_is (scope.meet_side (plane p) (plane q) (plane r) (plane u)) =
      d ∙ (λ j. side_times ((a ∙ ap (λ z. side_is (sgn z)) (in64 (met_bound i).w_in tt ∙ weight_is p q r m (met_some i).is)) j) ((c ∙ ap (λ z. side_is (sgn z)) (back64 v ok ∙ n ∙ four_is p q r m (met_some i).is u)) j))
      ∙ times_is (sgn (normals p q r)) (sgn (det4 (plane p) (plane q) (plane r) (plane u))) in
      rw e (meet_sided p q r u true false (λ t. (met_some i).range t and (sym h ∙ yes) t) (met_some i).weight)

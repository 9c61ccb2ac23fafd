-- What follows from the promises, for the crates above.
--     made_lawful, lawful_made   `Plane::new` makes a plane exactly if it is lawful
--     met_bound                  the numbers of a meeting are within document 01's bounds
use Rattle.std.specs.Prelude.{◌≡◌, refl, Bool, true, false, Result, Ok, Some, ℤ}
use Rattle.std.proofs.Common.{ap, ◌∙◌}
use Rattle.std.proofs.Math.Option.{Option, none, some}
use Rattle.whole.specs.Tests.{◌and◌, and_true, differ}
use Rattle.theory.specs.Planes.Faults.{fault_none, lawful_of}
use Rattle.planes.specs.Values.{quad, plane, meeting}
use Rattle.planes.specs.Bounds.{MeetingIn, in_range_in, meeting_bound}
use Rattle.planes.specs.Promises.{made_by, PlaneMade, met_by, three_in_range, normals, MeetTold}
use Rattle.planes.specs.declared.Plane.{Plane}
use Rattle.planes.specs.declared.Meeting.{Meeting}
use Rattle.planes.specs.declared.Fault.{Fault}
use Rattle.scope.specs.Planes as scope

-- ---- lawful planes (N.17)

module _ {a b c d : ℤ} where
  -- a plane that was made has the numbers given, and is lawful
  pub made_lawful : {p : Plane} → PlaneMade a b c d (Ok p) → (p ≡ record { a = a; b = b; c = c; d = d }) × scope.Lawful (plane p)
  made_lawful {p} h = go (scope.fault (quad a b c d)) refl h.exact
    where
      go : (f : Option scope.Fault) → scope.fault (quad a b c d) ≡ f → Ok p ≡ made_by a b c d f → (p ≡ record { a = a; b = b; c = c; d = d }) × scope.Lawful (plane p)
      go none e m = let s : p ≡ record { a = a; b = b; c = c; d = d } = cc in (s, rw s (lawful_of (quad a b c d) e))
      go (some f) e m = differ (cc)

  -- lawful numbers are made a plane
  pub lawful_made : {r : Result Plane Fault} → PlaneMade a b c d r → scope.Lawful (quad a b c d) → r ≡ Ok (record { a = a; b = b; c = c; d = d })
  lawful_made h l = h.exact ∙ ap (made_by a b c d) (fault_none (quad a b c d) l)

-- ---- a meeting's numbers (N.15)

pub met_bound : {p q r : Plane} {m : Meeting} → MeetTold p q r (Ok (Some m)) → MeetingIn (meeting m)
met_bound {p} {q} {r} {m} h = go (three_in_range p q r) (scope.is_zero (normals p q r)) refl h.exact
  where
    go : (i z : Bool) → three_in_range p q r ≡ i → Ok (Some m) ≡ met_by i z (scope.meet (plane p) (plane q) (plane r)) → MeetingIn (meeting m)
    go false z e l = differ (cc)
    go true true e l = differ (cc)
    go true false e l =
        let s = and_true (scope.in_range (plane p)) (scope.in_range (plane q) and scope.in_range (plane r)) e in
        let t = and_true (scope.in_range (plane q)) (scope.in_range (plane r)) s.1 in
        let n : meeting m ≡ scope.meet (plane p) (plane q) (plane r) = cc in
        rw n (meeting_bound (in_range_in s.0) (in_range_in t.0) (in_range_in t.1))

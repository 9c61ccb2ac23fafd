-- `polygons::start::begin` meets its contract: at the number of each arm the way's list is computed. Assumes nothing.
use mathlib.Core.Path.{◌≡◌, sym, ap, ◌∙◌}
use Prim.Native.Nat.{ℕ}
use native.Mathlib.Omega.{arith}
use Rattle.scope.specs.Planes.{Plane}
use Rattle.theory.specs.Section.{corners}
use Rattle.planes.specs.Values.{plane}
use Rattle.polygons.specs.Values.{way_of, six, starts}
use Rattle.polygons.specs.Tables.{box_side}
use Rattle.polygons.proofs.start.begin.Goals as goal

-- the corners of the way that stands at a number
at : (s : Plane) {v w : ℕ} → w ≡ v → corners s box_side (starts (way_of v)) ≡ corners s box_side (starts (way_of w))
at s e = ap (λ w. corners s box_side (starts (way_of w))) (sym e)

pub returns-in-0 : goal.returns-in-0
unfolding starts six way_of
returns-in-0 c = c.four.ensures ∙ at (plane c.args.s) c.in-0.is

pub returns-in-1 : goal.returns-in-1
unfolding starts six way_of
returns-in-1 c = c.four-in-1.ensures ∙ at (plane c.args.s) c.in-1.is

pub returns-in-2 : goal.returns-in-2
unfolding starts six way_of
returns-in-2 c = c.four-in-2.ensures ∙ at (plane c.args.s) c.in-2.is

pub returns-in-3 : goal.returns-in-3
unfolding starts six way_of
returns-in-3 c = c.four-in-3.ensures ∙ at (plane c.args.s) c.in-3.is

pub returns-in-4 : goal.returns-in-4
unfolding starts six way_of
returns-in-4 c = c.four-in-4.ensures ∙ at (plane c.args.s) c.in-4.is

pub returns-in_default : goal.returns-in_default
unfolding starts six way_of
returns-in_default c =
    let e : c.args.w ≡ 5 = omega arith in
    c.four-in_default.ensures ∙ at (plane c.args.s) e

-- `points::point` meets its contract, a lemma of proofs/Points for each way out. Assumes nothing.
use mathlib.Core.Path.{sym, subst}
use mir.Syntax.{w64}
use mir.Val.{SFits, to_z, of_z}
use mir.Facts.{to_z-of_z}
use borrow.Author.Rules.{rules}
use Rattle.std.specs.Prelude.{Result}
use Rattle.std.proofs.lemmas.Result.{err_from_is_err_and}
use Rattle.planes.specs.Values.{point}
use Rattle.planes.specs.Bounds.{PointIn}
use Rattle.planes.specs.Promises.{PointMade}
use Rattle.planes.specs.declared.Point.{Point}
use Rattle.planes.specs.declared.PointFault.{PointFault}
use Rattle.points.specs.Promises.{Walked}
use Rattle.points.proofs.Points.{made_good, made_bad, tell_refused, judged_sound, tell_bad, tell_walked}
use Rattle.points.proofs.point.Goals as goal

pub returns-in_err-judge : goal.returns-in_err-judge
returns-in_err-judge c =
    let p = err_from_is_err_and c.from_residual.result c.from_residual.ensures.1 in
    rw (p.1, p.2) (tell_refused (point c.args.x) c.in_err-judge.ensures)

-- the point as it was given: a number that fits is what its word reads as
made : (X : Point) {r : Result Point PointFault} → SFits w64 X.x → SFits w64 X.y → SFits w64 X.z → SFits w64 X.w → PointMade (to_z w64 (of_z w64 X.x)) (to_z w64 (of_z w64 X.y)) (to_z w64 (of_z w64 X.z)) (to_z w64 (of_z w64 X.w)) r → PointMade X.x X.y X.z X.w r
made X a b c d h = rw (to_z-of_z a, to_z-of_z b, to_z-of_z c, to_z-of_z d) at h

pub returns-in_default : goal.returns-in_default
returns-in_default c =
    let h = made c.args.x (search rules) (search rules) (search rules) (search rules) c.new.ensures in
    tell_bad c.in_ok-judge.ensures (point c.args.x) (made_bad h c.in_default.not-Ok)

pub walk-requires : goal.walk-requires
walk-requires c =
    let t = judged_sound c.in_ok-judge.ensures in
    let g = made_good (made c.args.x (search rules) (search rules) (search rules) (search rules) c.new.ensures) c.in-Ok.is in
    record { tree = t.tree; solid = t.held; point_in = subst (λ u. PointIn u.x u.y u.z u.w) (sym g.same) g.limits }

pub returns : goal.returns
returns c =
    let s = c.args.s.now in
    let g = made_good (made c.args.x (search rules) (search rules) (search rules) (search rules) c.new.ensures) c.in-Ok.is in
    tell_walked c.in_ok-judge.ensures (point c.args.x) g.ok (subst (λ u. Walked s.planes.now s.nodes.now s.root u c.walk.result) g.same c.walk.ensures)

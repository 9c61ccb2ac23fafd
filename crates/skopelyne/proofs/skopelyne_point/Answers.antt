-- `skopelyne::skopelyne_point` meets its contract. Assumes nothing.
use mathlib.Core.Path.{sym, subst}
use Prim.Native.Nat.{◌≤◌}
use mir.Facts.{to_z-of_z}
use Rattle.refusals.specs.Numbers.{numbered}
use Rattle.points.specs.Promises.{Tells}
use Rattle.planes.specs.Values.{quad}
use Rattle.skopelyne.proofs.Most.{point_most}
use Rattle.skopelyne.proofs.skopelyne_point.Goals as goal

pub returns-clause-answer : goal.returns-clause-answer
returns-clause-answer c = record { answer = numbered c.point-r.result; promise = subst (λ X. Tells c.args.planes.now c.args.nodes.now c.args.root X c.args.work.now c.point-r.new.work (numbered c.point-r.result)) (λ i. quad (to_z-of_z c.ranges.x i) (to_z-of_z c.ranges.y i) (to_z-of_z c.ranges.z i) (to_z-of_z c.ranges.w i)) c.point-r.ensures; number = c.placed.ensures.0; place = c.placed.ensures.1 }

pub returns-clause-number : goal.returns-clause-number
returns-clause-number c = subst (λ n. n ≤ 10) (sym c.placed.ensures.0) (point_most c.point-r.result)

-- `planes::Plane::side` meets its contract. The plane is judged first, and then the point. Assumes nothing.
use mathlib.Core.Path.{◌≡◌, sym, ap, ◌∙◌}
use mathlib.Core.Bool.{true}
use Rattle.whole.specs.Code.{back64}
use Rattle.whole.specs.Sign.{sgn}
use Rattle.whole.specs.Vec.{dot4}
use Rattle.scope.specs.Planes.{at, side}
use Rattle.planes.specs.Values.{plane, point, meeting, side_is}
use Rattle.planes.specs.Bounds.{in_range_in, point_range_in}
use Rattle.planes.proofs.Laws.{sum_in}
use Rattle.planes.proofs.Told.{sided}
use Rattle.planes.proofs.Plane.side.Goals as goal

pub sum_at-requires : goal.sum_at-requires
sum_at-requires c =
    rw c.from.ensures (sum_in (in_range_in (sym c.ranged.ensures ∙ c.if-not-ranged.false)) (point_range_in (sym c.ranged-2.ensures ∙ c.if-not-ranged-2.false)))

-- the sign of the sum
pub returns : goal.returns
unfolding at
returns c =
    let f : c.sign.result ≡ side_is (side (plane c.args.self) (point c.args.x)) =
    c.sign.ensures ∙ ap (λ z. side_is (sgn z)) (back64 c.sum_at.result c.sum_at.type_inv ∙ c.sum_at.ensures ∙ ap (λ m. dot4 (plane c.args.self) (meeting m)) c.from.ensures) in
    rw f (sided c.args.self c.args.x true true (sym c.ranged.ensures ∙ c.if-not-ranged.false) (sym c.ranged-2.ensures ∙ c.if-not-ranged-2.false))

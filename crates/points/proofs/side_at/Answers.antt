-- `points::side_at` meets its contract: the sum is that of the row and the point. Assumes nothing.
use mathlib.Core.Path.{ap, ◌∙◌}
use borrow.Author.Rules.{rules}
use Rattle.whole.specs.Code.{back64}
use Rattle.whole.specs.Sign.{sgn}
use Rattle.scope.specs.Planes.{at}
use Rattle.planes.specs.Values.{plane, point, meeting, side_is}
use Rattle.points.proofs.side_at.Goals as goal

pub returns : goal.returns
unfolding at
returns c =
    c.sign.ensures
    ∙ ap (λ z. side_is (sgn z)) (back64 c.sum_at.result (search rules) ∙ c.sum_at.ensures ∙ ap (λ m. at (plane c.row.result) (meeting m)) c.from.ensures ∙ ap (λ u. at u (point c.args.x)) c.row.ensures)

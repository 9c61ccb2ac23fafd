-- `planes::Plane::order` meets its contract. The derived order is that of `before` both ways (proofs/Sorted). Assumes nothing.
use mathlib.Core.Path.{◌∙◌}
use Rattle.planes.proofs.Sorted.{order_is}
use Rattle.planes.proofs.Plane.order.Goals as goal

pub returns : goal.returns
returns c = record { exact = c.cmp.ensures ∙ order_is c.args.self c.args.q }

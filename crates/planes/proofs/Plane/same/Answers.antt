-- `planes::Plane::same` meets its contract. The derived `==` is that of document 01 (proofs/Sorted). Assumes nothing.
use mathlib.Core.Path.{◌∙◌}
use Rattle.planes.proofs.Sorted.{same_is}
use Rattle.planes.proofs.Plane.same.Goals as goal

pub returns : goal.returns
returns c = record { exact = c.eq.ensures ∙ same_is c.args.self c.args.q }

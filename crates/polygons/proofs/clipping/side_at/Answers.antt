-- `polygons::clipping::side_at` meets its contract. The sum is at most 2.4*10^18 in size. Assumes nothing.
use Rattle.theory.specs.Section.{vertex}
use Rattle.polygons.specs.Tables.{corner_at}
use Rattle.polygons.proofs.Sums.{side_told}
use Rattle.polygons.proofs.clipping.side_at.Goals as goal

pub returns : goal.returns
returns c = side_told c.args.h (vertex (corner_at c.args.t.now c.args.i)) c.vertex_at.ensures c.sum_at.type_inv c.sum_at.ensures c.sign.ensures

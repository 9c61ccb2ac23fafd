-- `polygons::clipping::keep` meets its contract. Assumes nothing.
use Rattle.polygons.specs.Tables.{corner_at}
use Rattle.polygons.proofs.Put.{puts_one}
use Rattle.polygons.proofs.clipping.keep.Goals as goal

pub returns : goal.returns
returns c =
    puts_one c.args.out.now c.put.new.t c.args.at c.index_at-prev.result c.vertex_at.result (corner_at c.args.t.now c.args.i) c.requires.1
    c.put.ensures c.index_at-prev.ensures c.vertex_at.ensures

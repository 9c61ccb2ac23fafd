-- `polygons::start::four` meets its contract. Each corner is put after the one before it. Assumes nothing.
use Rattle.planes.specs.Values.{plane}
use Rattle.polygons.proofs.Loops.{four_read}
use Rattle.polygons.proofs.start.four.Goals as goal

pub returns : goal.returns
returns c =
    let s = c.args in
    four_read (plane s.s) s.a s.b s.c s.d s.t.now c.edge.new.t c.edge-2.new.t c.edge-3.new.t c.edge-4.new.t c.edge.ensures c.edge-2.ensures c.edge-3.ensures c.edge-4.ensures

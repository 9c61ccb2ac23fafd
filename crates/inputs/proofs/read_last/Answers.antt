-- `inputs::read_last` meets its contract: the work table is cleared, the solid read, and nothing follows (proofs/Input). Assumes nothing.
use Rattle.std.proofs.Common.{arith}
use lib.IntN.{pos}
use Rattle.refusals.specs.Numbers.{lined}
use Rattle.lines.specs.Reading.{rooms}
use Rattle.zeros.proofs.Fill.{cleared}
use Rattle.solids.proofs.Told.{solid_inside}
use Rattle.inputs.proofs.Input.{lent_rooms, last_told}
use Rattle.inputs.proofs.read_last.Goals as goal

pub read_solid-r-requires : goal.read_solid-r-requires
read_solid-r-requires c =
    let a = c.args in
    let h = c.requires in
    (h.inside, h.line, omega (arith, h.work_room, c.clear.auto.t), record { planes = h.planes; nodes = h.nodes; work = cleared (pos 0) a.work.now c.clear.new.t c.clear.ensures })

pub finished-requires : goal.finished-requires
finished-requires c =
    let a = c.args in
    let s = c.read_solid-r in
    solid_inside a.text.now a.from.cursor.at a.from.line (rooms a.planes.now a.nodes.now) s.new.planes s.new.nodes (lined s.result) s.ensures

pub returns : goal.returns
returns c =
    let a = c.args in
    let h = c.requires in
    let s = c.read_solid-r in
    last_told a.text.now a.from.cursor.at a.from.line s.new.planes s.new.nodes (lent_rooms a.planes.now a.nodes.now h.plane_room h.node_room) c.finished.ensures s.ensures

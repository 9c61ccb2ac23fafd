-- `outputs::written` meets its contract (proofs/Texts). Assumes nothing.
use mathlib.Core.Path.{ap}
use Rattle.refusals.specs.Numbers.{numbered}
use Rattle.outputs.proofs.Held.{held_room}
use Rattle.outputs.proofs.Texts.{refuses_number, gives, written_refused, written_solid}
use Rattle.outputs.proofs.written.Goals as goal

pub rows_of-requires : goal.rows_of-requires
rows_of-requires c =
    let q = gives c.requires.gave (ap numbered c.in-Ok.is) in
    let r = held_room c.in-Ok.s c.args.planes.now c.args.nodes.now q.is q.lawful q.held in
    record { planes = r.planes; nodes = r.nodes; few_planes = r.few_planes; few_nodes = r.few_nodes }

pub returns-in-Ok : goal.returns-in-Ok
returns-in-Ok c = λ a h. written_solid h (ap numbered c.in-Ok.is) c.rows_of.ensures c.requires.enough c.write.ensures

pub returns-in-Err : goal.returns-in-Err
returns-in-Err c = λ a h. written_refused h (ap numbered c.in-Err.is) (refuses_number c.refuse.ensures)

-- `texts::normals::normal_read` meets its contract: the normal form, and what is written of it (proofs/TextForm). Assumes nothing.
use Rattle.std.proofs.Common.{arith}
use Rattle.outputs.proofs.Held.{held_room}
use Rattle.texts.proofs.TextForm.{form_gave, forming_told}
use Rattle.texts.proofs.normals.normal_read.Goals as goal

pub rows_of-requires : goal.rows_of-requires
rows_of-requires c =
    let h = c.requires.solid in
    let r = held_room c.args.a c.args.ap.now c.args.an.now h.is h.lawful h.held in
    record { planes = r.planes; nodes = r.nodes; few_planes = r.few_planes; few_nodes = r.few_nodes }

pub written-requires : goal.written-requires
written-requires c =
    let h = c.requires in
    let n = c.normal-m in
    record { answer = n.ensures.answer; gave = form_gave h.solid c.rows_of.ensures h.result n.ensures n.auto.planes n.auto.nodes; enough = omega (arith, h.result.enough, n.auto.work) }

pub returns : goal.returns
returns c =
    let h = c.requires in
    let n = c.normal-m in
    λ a. forming_told a c.rows_of.ensures h.result n.ensures n.auto.planes n.auto.nodes c.written.ensures

-- `texts::merges::merge_read` meets its contract: the merge, and what is written of it (proofs/TextMerge). Assumes nothing.
use Rattle.std.proofs.Common.{arith}
use Rattle.outputs.proofs.Held.{held_room}
use Rattle.texts.proofs.TextMerge.{merge_gave, merging_told}
use Rattle.texts.proofs.merges.merge_read.Goals as goal

pub rows_of-a-requires : goal.rows_of-a-requires
rows_of-a-requires c =
    let h = c.requires.first in
    let r = held_room c.args.o.a c.args.ap.now c.args.an.now h.is h.lawful h.held in
    record { planes = r.planes; nodes = r.nodes; few_planes = r.few_planes; few_nodes = r.few_nodes }

pub rows_of-b-requires : goal.rows_of-b-requires
rows_of-b-requires c =
    let h = c.requires.second in
    let r = held_room c.args.o.b c.args.bp.now c.args.bn.now h.is h.lawful h.held in
    record { planes = r.planes; nodes = r.nodes; few_planes = r.few_planes; few_nodes = r.few_nodes }

pub written-requires : goal.written-requires
written-requires c =
    let h = c.requires in
    let m = c.merge-m in
    record { answer = m.ensures.answer; gave = merge_gave h.first h.second c.rows_of-a.ensures c.rows_of-b.ensures h.result m.ensures m.auto.planes m.auto.nodes; enough = omega (arith, h.result.enough, m.auto.work) }

pub returns : goal.returns
returns c =
    let h = c.requires in
    let m = c.merge-m in
    λ a b. merging_told a b c.rows_of-a.ensures c.rows_of-b.ensures h.result m.ensures m.auto.planes m.auto.nodes c.written.ensures

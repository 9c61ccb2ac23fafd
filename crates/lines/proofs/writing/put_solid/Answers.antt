-- `lines::writing::put_solid` meets its contract: its four parts, one after the other, are the text. Assumes nothing.
use Rattle.tables.specs.Promises.{counts}
use Rattle.lines.proofs.TextLines.{wrote_more, wrote_solid}
use Rattle.lines.proofs.writing.put_solid.Goals as goal

pub returns : goal.returns
returns c =
    let s = c.args.s.now in
    wrote_solid s.planes.now s.nodes.now (counts s.planes.now s.nodes.now s.root) c.args.text.now (wrote_more (wrote_more (wrote_more c.put_head-at.ensures c.put_planes-next.ensures) c.put_nodes-end.ensures) c.put_end.ensures)

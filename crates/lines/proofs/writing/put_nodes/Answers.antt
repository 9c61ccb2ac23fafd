-- `lines::writing::put_nodes` meets its contract. The invariant: the lines of i nodes are written. Assumes nothing.
use Rattle.std.proofs.Common.{arith}
use Rattle.lines.proofs.TextLines.{nodes_none, nodes_wrote}
use Rattle.lines.proofs.writing.put_nodes.Goals as goal

pub loop-i-init : goal.loop-i-init
loop-i-init c = nodes_none c.args.nodes.now c.args.text.now c.args.at

pub put_row-next-requires : goal.put_row-next-requires
put_row-next-requires c =
    (omega (arith, c.requires.0.rows), omega (arith, c.loop-i.invariant.place, c.requires.1, c.loop-i.auto.text), c.requires.0.fits c.loop-i.i c.loop-i-test.true)

pub loop-i-preserved : goal.loop-i-preserved
loop-i-preserved c = nodes_wrote c.args.nodes.now c.loop-i.i c.loop-i.invariant c.put_row-next.ensures

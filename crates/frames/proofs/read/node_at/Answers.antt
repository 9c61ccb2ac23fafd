-- `frames::read::node_at` meets its contract. Assumes nothing.
use Rattle.std.proofs.Common.{◌*◌, arith}
use Rattle.scope.specs.Text.{word}
use Rattle.frames.proofs.Told.{node_told}
use Rattle.frames.proofs.Writing.{stored}
use Rattle.frames.proofs.read.node_at.Goals as goal

pub returns : goal.returns
unfolding word
returns c = node_told c.args.text.now c.args.c.at c.args.i c.in_ok-n.ensures c.from_be_bytes.ensures c.from_be_bytes-2.ensures (stored c.args.nodes.now (3 * c.args.i) _ c.copy_from_slice.ensures.after (omega arith) (omega arith))

-- `frames::write::put_node` meets its contract. Assumes nothing.
use Rattle.scope.specs.Text.{bytes}
use Rattle.frames.proofs.Writing.{node_fits, put_words}
use Rattle.frames.proofs.write.put_node.Goals as goal

pub returns : goal.returns
unfolding bytes
returns c = put_words 3 c.args.n c.to_be_bytes.ensures c.to_be_bytes-2.ensures (node_fits c.requires.1).1 (node_fits c.requires.1).2 c.put_line.ensures

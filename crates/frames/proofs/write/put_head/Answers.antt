-- `frames::write::put_head` meets its contract. Assumes nothing.
use Rattle.scope.specs.Text.{bytes}
use Rattle.frames.proofs.Writing.{head_fits, put_words}
use Rattle.frames.proofs.write.put_head.Goals as goal

pub returns : goal.returns
unfolding bytes
returns c = put_words 1 c.args.h.planes c.to_be_bytes.ensures c.to_be_bytes-2.ensures (head_fits c.requires.1).1 (head_fits c.requires.1).2 c.put_line.ensures

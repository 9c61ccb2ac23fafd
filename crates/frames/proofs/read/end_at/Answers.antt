-- `frames::read::end_at` meets its contract. Assumes nothing.
use Rattle.frames.proofs.Told.{end_told}
use Rattle.frames.proofs.read.end_at.Goals as goal

pub returns : goal.returns
returns c = end_told c.args.text.now c.args.c.at c.in_ok-next.ensures

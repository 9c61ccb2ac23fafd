-- `frames::write::put_line` meets its contract. Assumes nothing.
use Rattle.frames.proofs.Writing.{put_none, put_more, put_lf}
use Rattle.frames.proofs.write.put_line.Goals as goal

pub loop-k-init : goal.loop-k-init
loop-k-init c = put_none c.args.text.now c.args.at c.args.bytes.now

pub loop-k-preserved : goal.loop-k-preserved
loop-k-preserved c = put_more c.args.text.now c.args.at c.args.bytes.now c.loop-k.k c.loop-k-test.true c.loop-k.invariant c.put_byte.ensures

pub returns : goal.returns
returns c = put_lf c.args.text.now c.args.at c.args.bytes.now c.loop-k-test.false c.loop-k.invariant

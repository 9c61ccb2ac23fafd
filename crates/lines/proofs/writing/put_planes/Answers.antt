-- `lines::writing::put_planes` meets its contract. The invariant: the lines of i planes are written. Assumes nothing.
use Rattle.std.proofs.Common.{arith}
use Rattle.lines.proofs.TextLines.{planes_none, planes_wrote}
use Rattle.lines.proofs.writing.put_planes.Goals as goal

pub loop-i-init : goal.loop-i-init
loop-i-init c = planes_none c.args.planes.now c.args.text.now c.args.at

pub put_plane-next-requires : goal.put_plane-next-requires
put_plane-next-requires c =
    (omega (arith, c.loop-i.invariant.place, c.requires.1, c.loop-i.auto.text), rw c.row.ensures (c.requires.0.fits c.loop-i.i c.loop-i-test.true))

pub loop-i-preserved : goal.loop-i-preserved
loop-i-preserved c = planes_wrote c.args.planes.now c.loop-i.i c.loop-i.invariant (rw c.row.ensures at c.put_plane-next.ensures)

-- `frames::write::put_plane` meets its contract. Assumes nothing.
use Rattle.std.proofs.Common.{rules}
use Rattle.planes.specs.Values.{plane as numbers}
use Rattle.frames.proofs.Writing.{plane_fits, put_axis, put_far, put_numbers}
use Rattle.frames.proofs.write.put_plane.Goals as goal

pub returns : goal.returns
returns c =
    let fits = plane_fits c.requires.1 in
    put_numbers (numbers c.args.p)
    (put_axis c.args.p.a c.to_be_bytes.ensures (search rules) fits.0)
    (put_axis c.args.p.b c.to_be_bytes-2.ensures (search rules) fits.1)
    (put_axis c.args.p.c c.to_be_bytes-3.ensures (search rules) fits.2)
    (put_far c.args.p.d c.to_be_bytes-4.ensures (search rules) fits.3)
    c.put_line.ensures

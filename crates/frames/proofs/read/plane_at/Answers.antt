-- `frames::read::plane_at` meets its contract. Assumes nothing.
use Rattle.std.proofs.Common.{arith}
use Rattle.scope.specs.Text.{word, long}
use Rattle.frames.proofs.Numbers.{read_2, read_4}
use Rattle.frames.proofs.Told.{plane_told}
use Rattle.frames.proofs.read.plane_at.Goals as goal

pub returns : goal.returns
unfolding word long
returns c =
    plane_told c.args.text.now c.args.c.at c.args.i c.in_ok-a1.ensures
    (read_2 _ c.from_be_bytes.type_inv c.from.type_inv c.from_be_bytes.ensures c.from.ensures)
    (read_2 _ c.from_be_bytes-2.type_inv c.from-2.type_inv c.from_be_bytes-2.ensures c.from-2.ensures)
    (read_2 _ c.from_be_bytes-3.type_inv c.from-3.type_inv c.from_be_bytes-3.ensures c.from-3.ensures)
    (read_4 _ c.from_be_bytes-4.type_inv c.from-4.type_inv c.from_be_bytes-4.ensures (omega arith) c.from-4.ensures)
    c.store.ensures

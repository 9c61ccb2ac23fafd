-- `planes::meet_side` meets its contract, by what `meet` told of three planes (proofs/Meets). Assumes nothing.
use Rattle.planes.proofs.Meets.{fourth_in, side_told}
use Rattle.planes.proofs.meet_side.Goals as goal

pub sum_at-requires : goal.sum_at-requires
sum_at-requires c = fourth_in c.ranged.ensures c.if-not-ranged.false (rw c.in-Some.is at c.in_ok-m.ensures)

-- the product of the two signs
pub returns : goal.returns
returns c =
    side_told c.ranged.ensures c.if-not-ranged.false (rw c.in-Some.is at c.in_ok-m.ensures) c.sum_at.type_inv c.sum_at.ensures c.sign.ensures c.sign-2.ensures c.times.ensures

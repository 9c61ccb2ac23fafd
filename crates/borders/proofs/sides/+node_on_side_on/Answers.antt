-- `borders::sides::node_on` and `borders::sides::side_on` meet their contracts, together: each calls the other. The rest is proofs/Cycle. Assumes nothing.
use native.Mathlib.Omega.{arith}
use Rattle.walks.proofs.Rank.{rank_row, rank_under}
use Rattle.walks.proofs.Ways.{plane_of_in}
use Rattle.borders.proofs.Cycle.{node_row, node_deep, node_asked, plane_ranged, front_in, front_less, back_asked, back_in, back_less, node_front, node_back, pass_in, both_in, side_both, code_falls, code_in, side_code, side_end, walk_in, next_falls, side_walk}
use Rattle.borders.proofs.sides.+node_on_side_on.Goals as goal

pub node_on-plane_of-h-requires : goal.node_on-plane_of-h-requires
node_on-plane_of-h-requires t c = plane_of_in (node_row c.requires).row

pub node_on-front-f-requires : goal.node_on-front-f-requires
node_on-front-f-requires t c = (node_row c.requires).row.inside

pub node_on-keep-requires : goal.node_on-keep-requires
node_on-keep-requires t c = node_asked c.requires

pub node_on-overflow_add-depth : goal.node_on-overflow_add-depth
node_on-overflow_add-depth t c = record { fits = omega (arith, node_deep c.requires) }

pub node_on-side_on-requires : goal.node_on-side_on-requires
node_on-side_on-requires t c = (
  omega (arith, c.decreases, front_less c.requires c.plane_of-h.ensures c.keep.ensures c.keep.auto.path c.front-f.ensures),
  front_in c.requires c.plane_of-h.ensures c.keep.ensures c.keep.auto.path c.front-f.ensures,
)

pub node_on-returns-then-side_on : goal.node_on-returns-then-side_on
node_on-returns-then-side_on t c = node_front c.requires c.plane_of-h.ensures c.keep.ensures c.keep.auto.path c.front-f.ensures c.side_on.ensures c.if-side_on.true

pub node_on-back-g-requires : goal.node_on-back-g-requires
node_on-back-g-requires t c = (node_row c.requires).row.inside

pub node_on-opposite-requires : goal.node_on-opposite-requires
node_on-opposite-requires t c = plane_ranged c.requires c.plane_of-h.ensures

pub node_on-keep-requires-2 : goal.node_on-keep-requires-2
node_on-keep-requires-2 t c = back_asked c.requires c.plane_of-h.ensures c.keep.ensures c.keep.auto.path c.front-f.ensures c.side_on.ensures c.side_on.auto.path

pub node_on-overflow_add-depth-2 : goal.node_on-overflow_add-depth-2
node_on-overflow_add-depth-2 t c = record { fits = omega (arith, node_deep c.requires) }

pub node_on-side_on-requires-2 : goal.node_on-side_on-requires-2
node_on-side_on-requires-2 t c = (
  omega (arith, c.decreases, back_less c.requires c.plane_of-h.ensures c.keep.ensures c.keep.auto.path c.front-f.ensures c.side_on.ensures c.side_on.auto.path c.opposite.ensures c.keep-2.ensures c.keep-2.auto.path c.back-g.ensures),
  back_in c.requires c.plane_of-h.ensures c.keep.ensures c.keep.auto.path c.front-f.ensures c.side_on.ensures c.side_on.auto.path c.opposite.ensures c.keep-2.ensures c.keep-2.auto.path c.back-g.ensures,
)

pub node_on-returns : goal.node_on-returns
node_on-returns t c = node_back c.requires c.plane_of-h.ensures c.keep.ensures c.keep.auto.path c.front-f.ensures c.side_on.ensures c.side_on.auto.path c.opposite.ensures c.keep-2.ensures c.keep-2.auto.path c.back-g.ensures c.if-side_on.false c.side_on-2.ensures

pub side_on-pass-requires : goal.side_on-pass-requires
side_on-pass-requires t c = pass_in (rw c.in-Row.ensures.0 at c.requires) c.in-Row.ensures.1

pub side_on-node_on-requires : goal.side_on-node_on-requires
side_on-node_on-requires t c = (
  omega (arith, rw c.in-Row.ensures.0 at c.decreases, rank_row c.in-Row.row c.in-Row.ensures.1),
  both_in (rw c.in-Row.ensures.0 at c.requires) c.in-Row.ensures.1 c.pass.ensures c.in-None.is c.pass.auto.path,
)

pub side_on-side_on-requires : goal.side_on-side_on-requires
side_on-side_on-requires t c =
    let h = rw c.in-Row.ensures.0 at c.requires in (
      omega (arith, rw c.in-Row.ensures.0 at c.decreases, rank_under c.in-Some.child c.in-Row.row c.in-Row.ensures.1 (code_falls h c.in-Row.ensures.1 c.pass.ensures c.in-Some.is)),
      code_in h c.in-Row.ensures.1 c.pass.ensures c.in-Some.is c.pass.auto.path,
    )

pub side_on-returns-in-None : goal.side_on-returns-in-None
side_on-returns-in-None t c = rw c.in-Row.ensures.0 (side_both (rw c.in-Row.ensures.0 at c.requires) c.in-Row.ensures.1 c.pass.ensures c.node_on.ensures)

pub side_on-returns-in-Some : goal.side_on-returns-in-Some
side_on-returns-in-Some t c = rw c.in-Row.ensures.0 (side_code (rw c.in-Row.ensures.0 at c.requires) c.in-Row.ensures.1 c.pass.ensures c.in-Some.is c.side_on.ensures)

pub side_on-side_on-requires-in-Walk : goal.side_on-side_on-requires-in-Walk
side_on-side_on-requires-in-Walk t c = (
  omega (arith, c.decreases, next_falls c.requires c.in-Mark.m c.in-Mark.ensures c.followed.ensures c.in-Walk.is),
  walk_in c.requires c.in-Mark.m c.in-Mark.ensures c.followed.ensures c.in-Walk.is,
)

pub side_on-returns-in-Done : goal.side_on-returns-in-Done
side_on-returns-in-Done t c = side_end c.requires c.in-Mark.m c.in-Mark.ensures c.followed.ensures c.in-Done.is

pub side_on-returns-in-Walk : goal.side_on-returns-in-Walk
side_on-returns-in-Walk t c = side_walk c.requires c.in-Mark.m c.in-Mark.ensures c.followed.ensures c.in-Walk.is c.side_on-in-Walk.ensures

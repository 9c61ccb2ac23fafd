-- `walks::node_walk` and `walks::side_walk` meet their contracts, together: each calls the other. The measure is proofs/Rank's; the rest is proofs/Cycle. Assumes nothing.
use mathlib.Core.Path.{refl, ap, subst, ◌∙◌}
use native.Mathlib.Omega.{arith}
use mathlib.Core.Bool.{true, false}
use Rattle.std.proofs.lemmas.Result.{err_from_is_err_and}
use Rattle.refusals.specs.Numbers.{numbered}
use Rattle.walks.proofs.Rank.{rank, rank_row, rank_below, rank_under, base}
use Rattle.walks.proofs.Emits.{room_same}
use Rattle.walks.proofs.Ways.{plane_of_in}
use Rattle.walks.proofs.Cycle.{node_row, node_deep, push_asked, front_falls, back_falls, plane_ranged, front_pushed, back_pushed, side_in, side_kept, node_front, node_back, node_closed, cut_in, code_in, side_code, side_mark, in_a, below_in, root_low, side_b}
use Prim.Native.Nat.{◌+◌, ◌*◌, ◌<◌}
use Rattle.walks.proofs.+node_walk_side_walk.Goals as goal

pub node_walk-push-requires : goal.node_walk-push-requires
node_walk-push-requires t c = push_asked c.requires (λ i l. refl) refl

pub node_walk-overflow_add-depth : goal.node_walk-overflow_add-depth
node_walk-overflow_add-depth t c = record { fits = omega (arith, node_deep c.requires) }

pub node_walk-side_walk-requires : goal.node_walk-side_walk-requires
node_walk-side_walk-requires t c = (
  subst (λ j. base c.args.t.above + rank c.front-f.result < j) c.decreases (omega (arith, rank_below c.front-f.result c.args.row (front_falls (node_row c.requires).row c.front-f.ensures))),
  side_in c.requires true (front_pushed c.requires c.plane_of-p.ensures c.push.ensures c.push.auto.path) c.front-f.ensures c.requires.side.room,
)

pub node_walk-returns-in_err-front : goal.node_walk-returns-in_err-front
node_walk-returns-in_err-front t c =
    let p = err_from_is_err_and c.from_residual.result c.from_residual.ensures.1 in
    rw (p.1, p.2) (node_front c.requires (front_pushed c.requires c.plane_of-p.ensures c.push.ensures c.push.auto.path) c.front-f.ensures c.side_walk.ensures (ap numbered c.in_err-front.was))

pub node_walk-opposite-requires : goal.node_walk-opposite-requires
node_walk-opposite-requires t c = plane_ranged c.requires c.plane_of-p.ensures

pub node_walk-push-requires-2 : goal.node_walk-push-requires-2
node_walk-push-requires-2 t c =
    push_asked c.requires (side_kept c.requires true (front_pushed c.requires c.plane_of-p.ensures c.push.ensures c.push.auto.path) c.front-f.ensures c.side_walk.ensures) (c.side_walk.auto.path ∙ c.push.auto.path)

pub node_walk-overflow_add-depth-2 : goal.node_walk-overflow_add-depth-2
node_walk-overflow_add-depth-2 t c = record { fits = omega (arith, node_deep c.requires) }

pub node_walk-side_walk-requires-2 : goal.node_walk-side_walk-requires-2
node_walk-side_walk-requires-2 t c =
    let front = front_pushed c.requires c.plane_of-p.ensures c.push.ensures c.push.auto.path in
    let back = back_pushed c.requires c.plane_of-p.ensures c.opposite.ensures (side_kept c.requires true front c.front-f.ensures c.side_walk.ensures) (c.side_walk.auto.path ∙ c.push.auto.path) c.push-2.ensures c.push-2.auto.path in (
      subst (λ j. base c.args.t.above + rank c.back-g.result < j) c.decreases (omega (arith, rank_below c.back-g.result c.args.row (back_falls (node_row c.requires).row c.back-g.ensures))),
      side_in c.requires false back c.back-g.ensures (room_same c.side_walk.auto.out (c.side_walk.ensures.placed c.in_ok-front.front c.in_ok-front.n1 (ap numbered c.in_ok-front.was))),
    )

pub node_walk-returns-in_err-back : goal.node_walk-returns-in_err-back
node_walk-returns-in_err-back t c =
    let p = err_from_is_err_and c.from_residual-in_err-back.result c.from_residual-in_err-back.ensures.1 in
    let front = front_pushed c.requires c.plane_of-p.ensures c.push.ensures c.push.auto.path in
    let back = back_pushed c.requires c.plane_of-p.ensures c.opposite.ensures (side_kept c.requires true front c.front-f.ensures c.side_walk.ensures) (c.side_walk.auto.path ∙ c.push.auto.path) c.push-2.ensures c.push-2.auto.path in
    rw (p.1, p.2) (node_back c.requires front c.front-f.ensures c.side_walk.ensures (ap numbered c.in_ok-front.was) c.side_walk.auto.out back c.back-g.ensures c.side_walk-2.ensures (ap numbered c.in_err-back.was))

pub node_walk-number_of-requires : goal.node_walk-number_of-requires
node_walk-number_of-requires t c = (plane_of_in (node_row c.requires).row).number_in

pub node_walk-returns : goal.node_walk-returns
node_walk-returns t c =
    let front = front_pushed c.requires c.plane_of-p.ensures c.push.ensures c.push.auto.path in
    let back = back_pushed c.requires c.plane_of-p.ensures c.opposite.ensures (side_kept c.requires true front c.front-f.ensures c.side_walk.ensures) (c.side_walk.auto.path ∙ c.push.auto.path) c.push-2.ensures c.push-2.auto.path in
    node_closed c.requires front c.front-f.ensures c.side_walk.ensures (ap numbered c.in_ok-front.was) c.side_walk.auto.out back c.back-g.ensures c.side_walk-2.ensures (ap numbered c.in_ok-back.was) c.side_walk-2.auto.out c.number_of.ensures c.close.ensures

pub side_walk-node_walk-requires : goal.side_walk-node_walk-requires
side_walk-node_walk-requires t c = (
  subst (λ j. base c.args.t.above + (c.in-Row.row * 2 + 1) < j) c.decreases (omega (arith, c.in-Row.ensures.0, rank_row c.args.code (omega (arith, c.in-Row.ensures.0, c.in-Row.ensures.1)))),
  cut_in (rw c.in-Row.ensures.0 at c.requires) c.in-Row.ensures.1 c.step.ensures c.in-Cut.is,
)

pub side_walk-side_walk-requires : goal.side_walk-side_walk-requires
side_walk-side_walk-requires t c =
    let row = c.in-Row.ensures in
    let low : c.args.code < 65534 = omega (arith, row.0, row.1) in
    let falls : c.in-Code.child < 65534 → c.in-Code.child < c.args.code = λ l. omega (arith, row.0, c.step.ensures.falls c.in-Code.child c.in-Code.is l) in (
      subst (λ j. base c.args.t.above + rank c.in-Code.child < j) c.decreases (omega (arith, rank_under c.in-Code.child c.args.code low falls)),
      code_in (rw row.0 at c.requires) row.1 c.step.ensures c.in-Code.is,
    )

pub side_walk-returns-in-Code : goal.side_walk-returns-in-Code
side_walk-returns-in-Code t c = rw c.in-Row.ensures.0 (side_code (rw c.in-Row.ensures.0 at c.requires) c.in-Row.ensures.1 c.step.ensures c.in-Code.is c.side_walk.ensures)

pub side_walk-side_walk-requires-in-None : goal.side_walk-side_walk-requires-in-None
side_walk-side_walk-requires-in-None t c = (
  subst (λ j. 0 + rank c.args.t.root < j) c.decreases (omega (arith, ap base (in_a c.requires c.in-Mark.m c.in-Mark.ensures c.ended.ensures c.in-None.is), rank_below c.args.t.root 1000 (root_low c.requires c.in-Mark.m c.in-Mark.ensures c.ended.ensures c.in-None.is))),
  below_in c.requires c.in-Mark.m c.in-Mark.ensures c.ended.ensures c.in-None.is,
)

pub side_walk-returns-in-Some : goal.side_walk-returns-in-Some
side_walk-returns-in-Some t c = side_mark c.requires c.in-Mark.m c.in-Mark.ensures c.ended.ensures c.in-Some.is c.into.ensures

pub side_walk-returns-in-None : goal.side_walk-returns-in-None
side_walk-returns-in-None t c = side_b c.requires c.in-Mark.m c.in-Mark.ensures c.ended.ensures c.in-None.is c.side_walk-in-None.ensures

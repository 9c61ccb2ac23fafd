-- `lists::sooner` meets its contract. Assumes nothing.
use native.Mathlib.Omega.{arith}
use Rattle.lists.proofs.Joins.{told_sooner}
use Rattle.lists.proofs.sooner.Goals as goal

pub returns : goal.returns
returns c =
    told_sooner c.args.a.now c.args.b.now c.args.t c.row.result c.row-2.result c.order.result c.row.ensures c.row-2.ensures (omega (arith, c.if-a-t.false)) (omega (arith, c.if-b-t.false)) c.order.ensures

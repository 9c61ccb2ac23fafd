-- `lists::to_ranks` meets its contract. The invariant: i rows are changed, and the rest is as it was. Assumes nothing.
use mathlib.Core.Path.{refl}
use native.Mathlib.Omega.{arith}
use lib.ListN.{get_or, length-set}
use Rattle.lists.proofs.Rows.{numbered_none, row_kept, row_more}
use Rattle.lists.proofs.to_ranks.Goals as goal

pub loop-i-init : goal.loop-i-init
loop-i-init c = (omega arith, refl, numbered_none c.args.ranks.now c.args.nodes.now)

pub bounds-ranks-p : goal.bounds-ranks-p
bounds-ranks-p c =
    let l = c.loop-i in
    let t = c.loop-i-test.true in
    omega (arith, row_kept (λ k. get_or c.args.ranks.now k 0) c.args.nodes.now l.i (omega (arith, t, c.requires.rows)) l.nodes l.invariant.2, c.requires.numbers l.i t)

pub loop-i-preserved : goal.loop-i-preserved
loop-i-preserved c =
    let l = c.loop-i in
    let t = c.loop-i-test.true in
    (omega (arith, t), simp length-set l.invariant.1, row_more (λ k. get_or c.args.ranks.now k 0) c.args.nodes.now l.i (omega (arith, t, c.requires.rows)) l.nodes l.invariant.2)

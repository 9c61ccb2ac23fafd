-- `lists::mark_used` meets its contract. The invariant: the planes of i rows are marked. Assumes nothing.
use mathlib.Core.Path.{refl}
use native.Mathlib.Omega.{arith}
use lib.ListN.{length-set}
use Rattle.lists.proofs.Used.{marks_none, mark_more}
use Rattle.lists.proofs.mark_used.Goals as goal

pub loop-i-init : goal.loop-i-init
loop-i-init c = (omega arith, refl, marks_none c.args.nodes.now c.args.used.now c.requires.none)

pub loop-i-preserved : goal.loop-i-preserved
loop-i-preserved c =
    let l = c.loop-i in
    let t = c.loop-i-test.true in
    (omega (arith, t), simp length-set l.invariant.1, mark_more l.used c.args.nodes.now l.i (omega (arith, c.requires.numbers l.i t, l.invariant.1)) l.invariant.2)

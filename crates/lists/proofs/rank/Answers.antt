-- `lists::rank` meets its contract. The invariant: i ranks are told, and k is the next. Assumes nothing.
use mathlib.Core.Path.{refl, sym, subst}
use Prim.Native.Nat.{◌+◌}
use native.Mathlib.Omega.{arith}
use lib.ListN.{set, length-set}
use Rattle.lists.specs.Steps.{marked, Ranks}
use Rattle.lists.proofs.Used.{rank_none, rank_next, rank_small, ranked_more}
use Rattle.lists.proofs.rank.Goals as goal

pub loop-i-init : goal.loop-i-init
loop-i-init c = (omega arith, refl, sym (rank_none (marked c.args.used.now)), λ k l. absurd (omega arith))

pub overflow_add-k : goal.overflow_add-k
overflow_add-k c = let l = c.loop-i in record { fits = omega (arith, c.from-k.ensures, l.invariant.2, rank_next (marked c.args.used.now) l.i, rank_small (marked c.args.used.now) (l.i + 1), c.requires.few, c.loop-i-test.true) }

pub loop-i-preserved : goal.loop-i-preserved
loop-i-preserved c =
    let l = c.loop-i in
    let t = c.loop-i-test.true in
    let g = marked c.args.used.now in
    (omega (arith, t), simp length-set l.invariant.1, omega (arith, l.invariant.2, rank_next g l.i, c.from-k.ensures), subst (λ v. Ranks c.args.used.now (l.i + 1) (set l.ranks l.i v)) (sym l.invariant.2) (ranked_more g l.ranks l.i (omega (arith, t, c.requires.room, l.invariant.1)) l.invariant.3))

-- `tables::judge_nodes` meets its contract. The invariant: i rows stand, with at most i trees and at most i rows in them. Assumes nothing.
use mathlib.Core.Path.{◌≡◌}
use Prim.Native.Nat.{ℕ}
use native.Mathlib.Omega.{arith}
use Rattle.std.specs.Prelude.{Ok, Result}
use Rattle.std.proofs.Common.{rules}
use Rattle.refusals.specs.declared.Refusal.{Refusal}
use Rattle.tables.specs.Work.{stack, total}
use Rattle.tables.proofs.Turn.{none_standing, row_standing}
use Rattle.tables.proofs.judge_nodes.Goals as goal

pub loop-i-init : goal.loop-i-init
unfolding stack total
loop-i-init c = record { deep = omega arith; sizes = omega arith; standing = none_standing c.requires }

pub loop-i-preserved : goal.loop-i-preserved
loop-i-preserved c =
    let e : ◌≡◌ {A = Result ℕ Refusal} c.judge_node.result (Ok c.in_ok-depth.depth) = search rules in
    let k = rw e at c.judge_node.ensures in
    record { deep = k.deep; sizes = k.sizes; standing = row_standing c.loop-i.invariant.standing k }

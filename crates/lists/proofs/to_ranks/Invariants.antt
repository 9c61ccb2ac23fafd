use mathlib.Core.Path.{◌≡◌}
use Prim.Native.Nat.{◌-◌, ◌≤◌}
use lib.ListN.{length}
use Rattle.lists.specs.Steps.{Numbered}
use Rattle.lists.proofs.to_ranks.Given as goal

abbrev pub invariant-loop-i : goal.invariant-loop-i
invariant-loop-i l =
    (l.i ≤ l.m) × (length l.nodes ≡ length l.initial.nodes) × Numbered l.initial.nodes l.i l.ranks l.nodes

abbrev pub decreases-loop-i : goal.decreases-loop-i
decreases-loop-i l = l.m - l.i

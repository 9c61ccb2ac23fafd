use mathlib.Core.Path.{◌≡◌}
use Prim.Native.Nat.{◌-◌, ◌≤◌}
use lib.ListN.{length}
use Rattle.lists.specs.Steps.{MarkTold}
use Rattle.lists.proofs.mark_used.Given as goal

abbrev pub invariant-loop-i : goal.invariant-loop-i
invariant-loop-i l =
    (l.i ≤ l.m) × (length l.used ≡ length l.initial.used) × MarkTold l.nodes l.i l.used

abbrev pub decreases-loop-i : goal.decreases-loop-i
decreases-loop-i l = l.m - l.i

use mathlib.Core.Path.{◌≡◌}
use Prim.Native.Nat.{◌-◌, ◌≤◌}
use lib.ListN.{length}
use Rattle.theory.specs.Text.Renumber.{rank}
use Rattle.lists.specs.Steps.{marked, Ranks}
use Rattle.lists.proofs.rank.Given as goal

abbrev pub invariant-loop-i : goal.invariant-loop-i
invariant-loop-i l =
    (l.i ≤ l.n) × (length l.ranks ≡ length l.initial.ranks) × (l.k ≡ rank (marked l.used) 0 l.i) × Ranks l.used l.i l.ranks

abbrev pub decreases-loop-i : goal.decreases-loop-i
decreases-loop-i l = l.n - l.i

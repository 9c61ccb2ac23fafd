use mathlib.Core.Path.{◌≡◌}
use Prim.Native.Nat.{◌-◌, ◌/◌, ◌≤◌}
use lib.ListN.{length}
use Rattle.lists.specs.Steps.{Puts}
use Rattle.lists.proofs.put_used.Given as goal

abbrev pub invariant-loop-i : goal.invariant-loop-i
invariant-loop-i l =
    (l.i ≤ (length l.joined / 4)) × (length l.planes ≡ length l.initial.planes) × Puts l.joined l.i l.used l.planes

abbrev pub decreases-loop-i : goal.decreases-loop-i
decreases-loop-i l = (length l.joined / 4) - l.i

use Prim.Native.Nat.{◌+◌, ◌-◌, ◌/◌}
use lib.ListN.{length}
use Rattle.lists.specs.Steps.{Joining}
use Rattle.lists.proofs.JoinedList.join.Given as goal

abbrev pub invariant-loop-t : goal.invariant-loop-t
invariant-loop-t l = Joining l.a l.b l.self l.t.a l.t.b

abbrev pub decreases-loop-t : goal.decreases-loop-t
decreases-loop-t l = (length l.a / 4 + length l.b / 4) - (l.t.a + l.t.b)

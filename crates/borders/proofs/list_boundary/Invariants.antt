use Prim.Native.Nat.{◌-◌}
use Rattle.borders.proofs.Lists.{Listing}
use Rattle.borders.proofs.list_boundary.Given as goal

abbrev pub invariant-loop-i : goal.invariant-loop-i
invariant-loop-i l =
    Listing l.o l.pair l.initial.path l.initial.boundary l.path l.boundary l.k l.i

abbrev pub decreases-loop-i : goal.decreases-loop-i
decreases-loop-i l =
    l.i-end - l.i

use Prim.Native.Nat.{◌≤◌}
use lib.ListN.{length}
use Rattle.sections_show.proofs.read_halves.Given as goal

abbrev pub invariant-loop-count : goal.invariant-loop-count
invariant-loop-count l = record { on : l.initial.c.at ≤ l.c.at; inside : l.c.at ≤ length l.text }

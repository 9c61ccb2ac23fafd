use mathlib.Core.Path.{◌≡◌}
use lib.ListN.{length}
use Rattle.polygons.specs.Tables.{last_to}
use Rattle.polygons.proofs.clipping.last_out.Given as goal

abbrev pub invariant-loop-i : goal.invariant-loop-i
invariant-loop-i l = last_to l.sides l.t 0 l.i ≡ last_to l.sides l.t 0 (length l.sides)

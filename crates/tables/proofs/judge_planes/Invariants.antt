use mathlib.Core.Path.{◌≡◌}
use Prim.Native.Nat.{ℕ, ◌<◌}
use Rattle.std.specs.Prelude.{Ok}
use Rattle.tables.specs.Promises.{plane_judged}
use Rattle.tables.proofs.judge_planes.Given as goal

abbrev pub invariant-loop-i : goal.invariant-loop-i
invariant-loop-i l = (j : ℕ) → j < l.i-counter → plane_judged l.planes j ≡ Ok tt

use mathlib.Core.Path.{◌≡◌}
use Prim.Native.Nat.{ℕ, ◌<◌}
use Rattle.whole.specs.Sign.{plus}
use Rattle.polygons.specs.Asked.{side_of}
use Rattle.polygons.proofs.clipping.all_front.Given as goal

abbrev pub invariant-loop-i : goal.invariant-loop-i
invariant-loop-i l = (j : ℕ) → j < l.i → side_of l.h l.t j ≡ plus

use mathlib.Core.Path.{◌≡◌}
use mathlib.Core.Bool.{false}
use mathlib.Core.Logic.{◌≢◌}
use Prim.Native.Nat.{ℕ, ◌<◌}
use lib.ListN.{length, get_or}
use Rattle.whole.specs.Sign.{plus}
use Rattle.planes.specs.Values.{side_is}
use Rattle.planes.specs.declared.Side.TheVariants.{On}
use Rattle.polygons.specs.Asked.{side_of}
use Rattle.polygons.proofs.clipping.sides_of.Given as goal

abbrev pub invariant-loop-i : goal.invariant-loop-i
invariant-loop-i l = record {
  as_many : length l.sides ≡ length l.initial.sides;
  each : (j : ℕ) → j < l.i → get_or l.sides j On ≡ side_is (side_of l.h l.t j);
  none : l.front ≡ false → (j : ℕ) → j < l.i → side_of l.h l.t j ≢ plus;
}

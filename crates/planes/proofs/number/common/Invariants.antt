use mathlib.Core.Path.{◌≡◌}
use Rattle.whole.specs.Gcd.{gcd}
use Rattle.planes.proofs.number.common.Given as goal

abbrev pub invariant-loop-v : goal.invariant-loop-v
invariant-loop-v l = gcd l.u l.v ≡ gcd l.x l.y

abbrev pub decreases-loop-v : goal.decreases-loop-v
decreases-loop-v l = l.v

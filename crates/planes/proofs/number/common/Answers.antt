-- `planes::number::common` meets its contract. The invariant: the divisor of u and v is that of x and y. The measure: v, which falls to a remainder by itself. Assumes nothing.
use mathlib.Core.Path.{sym, ◌∙◌}
use native.Mathlib.Omega.{arith}
use Rattle.whole.specs.Gcd.{gcd_zero, gcd_step}
use Rattle.planes.proofs.number.common.Goals as goal

pub loop-v-preserved : goal.loop-v-preserved
loop-v-preserved c = sym (gcd_step c.loop-v.u c.loop-v.v (omega (arith, c.loop-v-test.true))) ∙ c.loop-v.invariant

pub returns : goal.returns
returns c = sym (gcd_zero c.loop-v.u c.loop-v.v c.loop-v-test.false) ∙ c.loop-v.invariant

-- The root code of a solid, from what the code's tests have found.
use mathlib.Core.Path.{◌≡◌, refl}
use Prim.Native.Nat.{ℕ, zero, suc, ◌-◌}
use native.Mathlib.Omega.{arith}
use lib.Dec.{eqb}
use Rattle.scope.specs.Judging.{root_ok}

pub root_last : (m r : ℕ) → (m ≡ 0 → ⊥) → eqb r (m - 1) ≡ root_ok m r
unfolding root_ok
root_last zero r n = absurd (n refl)
root_last (suc m) r n = let e : suc m - 1 ≡ m = omega arith in rw e refl

-- `solids_show::signed` is free of overflow and index errors: a number below 2^63 fits with either sign. Assumes nothing.
use mathlib.Core.Path.{◌≡◌, ap, ◌∙◌}
use Prim.Native.Nat.{ℕ, zero, suc, ◌<◌}
use native.Mathlib.Omega.{arith}
use lib.IntN.{pos, neg_ℤ, ◌-ℤ◌, +ℤ_idl}
use mir.Syntax.{w64}
use mir.Val.{SFits, to_z}
use mir.ValLaws.{to_z_pos}
use Rattle.solids_show.proofs.signed.Goals as goal

-- 0 - v, as the code turns a sign
turned : (v : ℕ) → v < 9223372036854775808 → pos 0 -ℤ to_z w64 v ≡ neg_ℤ (pos v)
turned v l = ap (λ z. pos 0 -ℤ z) (to_z_pos w64 v (omega arith)) ∙ +ℤ_idl (neg_ℤ (pos v))

turned_fits : (v : ℕ) → v < 9223372036854775808 → SFits w64 (neg_ℤ (pos v))
turned_fits zero l = record { sfits = omega arith }
turned_fits (suc v) l = record { sfits = omega arith }

pub overflow_sub-result : goal.overflow_sub-result
overflow_sub-result c =
    let v = c.digits-v.result in
    let l : v < 9223372036854775808 = omega (arith, c.if-v-gt9223372036854775807.false) in
    rw (turned v l) (turned_fits v l)

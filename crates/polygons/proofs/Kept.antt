-- Numbers that are handed on or kept are read back from their bits: what was read is what was kept.
use mathlib.Core.Path.{◌≡◌}
use lib.IntN.{ℤ}
use mir.Syntax.{w64}
use mir.Val.{SFits, to_z, of_z}
use mir.Facts.{to_z-of_z}
use Rattle.planes.specs.Values.{quad}

abbrev pub k : ℤ → ℤ
k z = to_z w64 (of_z w64 z)

-- four numbers of a struct
pub four_kept : {a b c d : ℤ} → SFits w64 a → SFits w64 b → SFits w64 c → SFits w64 d → quad (k a) (k b) (k c) (k d) ≡ quad a b c d
four_kept f g h i = cc (to_z-of_z f, to_z-of_z g, to_z-of_z h, to_z-of_z i)

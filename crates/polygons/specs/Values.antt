-- What the code's numbers and enums stand for.
--     code              the code of a side: 0 behind, 1 on, 2 in front
--     signal_is, signal_of   what a bound puts out, as an enum, and back
--     way_code, way_of  a way as a number, and back
--     six, starts       the indices of its four bounds and of the remaining axis's two planes; those of the four
use Rattle.std.specs.Prelude.{List, [], ◌∷◌, ℕ, zero, suc, ◌+◌, ℤ, pos, negsuc, take}
use Rattle.scope.specs.Section as scope
use Rattle.planes.specs.declared.Side.{Side}
use Rattle.planes.specs.declared.Side.TheVariants.{Front, On, Back}
use Rattle.polygons.specs.declared.Signal.{Signal}
use Rattle.polygons.specs.declared.Signal.TheVariants.{Nothing, B, HB}

abbrev pub code : Side → ℕ
code Back = 0
code On = 1
code Front = 2

abbrev pub signal_is : scope.Signal → Signal
signal_is scope.nothing = Nothing
signal_is scope.B = B
signal_is scope.HB = HB

unfoldable pub signal_of : Signal → scope.Signal
signal_of Nothing = scope.nothing
signal_of B = scope.B
signal_of HB = scope.HB

-- ---- the start

abbrev pub way_code : scope.Way → ℕ
way_code scope.along_x = 0
way_code scope.against_x = 1
way_code scope.along_y = 2
way_code scope.against_y = 3
way_code scope.along_z = 4
way_code scope.against_z = 5

unfoldable pub way_of : ℕ → scope.Way
way_of zero = scope.along_x
way_of (suc zero) = scope.against_x
way_of (suc (suc zero)) = scope.along_y
way_of (suc (suc (suc zero))) = scope.against_y
way_of (suc (suc (suc (suc zero)))) = scope.along_z
way_of (suc (suc (suc (suc (suc n))))) = scope.against_z

-- the way along an axis, or the one against it if the coefficient is negative
abbrev pub way_from : ℤ → ℕ → ℕ
way_from (pos n) w = w
way_from (negsuc n) w = w + 1

unfoldable pub six : scope.Way → List ℕ
six scope.along_x = 4 ∷ 3 ∷ 5 ∷ 2 ∷ 0 ∷ 1 ∷ []
six scope.against_x = 2 ∷ 5 ∷ 3 ∷ 4 ∷ 0 ∷ 1 ∷ []
six scope.along_y = 0 ∷ 5 ∷ 1 ∷ 4 ∷ 2 ∷ 3 ∷ []
six scope.against_y = 4 ∷ 1 ∷ 5 ∷ 0 ∷ 2 ∷ 3 ∷ []
six scope.along_z = 2 ∷ 1 ∷ 3 ∷ 0 ∷ 4 ∷ 5 ∷ []
six scope.against_z = 0 ∷ 3 ∷ 1 ∷ 2 ∷ 4 ∷ 5 ∷ []

unfoldable pub starts : scope.Way → List ℕ
starts w = take 4 (six w)

-- Planes by their numbers, tests over a list of cases, and texts as strings.
use mathlib.Core.Bool.{Bool, true, false}
use mathlib.Core.List.{List, [], ◌∷◌}
use Prim.Native.Nat.{ℕ, zero, suc}
use Prim.Native.String.{String, len, char_at}
use Prim.Native.Char.{code}
use lib.Dec.{eqb}
use lib.IntN.{ℤ, pos, neg_ℤ}
use Rattle.whole.specs.Tests.{◌and◌}
use Rattle.scope.specs.Planes.{Plane, equal}

abbrev pub pl : ℤ → ℤ → ℤ → ℤ → Plane
pl a b c d = record { x = a; y = b; z = c; w = d }

-- a number below zero
abbrev pub m : ℕ → ℤ
m n = neg_ℤ (pos n)

unfoldable pub every : {A : Type 0} → (A → Bool) → List A → Bool
every f [] = true
every f (x ∷ xs) = f x and every f xs

unfoldable pub same_planes : List Plane → List Plane → Bool
same_planes [] [] = true
same_planes [] (q ∷ qs) = false
same_planes (p ∷ ps) [] = false
same_planes (p ∷ ps) (q ∷ qs) = equal p q and same_planes ps qs

unfoldable pub same_numbers : List ℕ → List ℕ → Bool
same_numbers [] [] = true
same_numbers [] (b ∷ bs) = false
same_numbers (a ∷ bs) [] = false
same_numbers (a ∷ cs) (b ∷ bs) = eqb a b and same_numbers cs bs

-- the characters of a text
unfoldable pub chars_from : ℕ → ℕ → String → List ℕ
chars_from zero i s = []
chars_from (suc k) i s = code (char_at s i) ∷ chars_from k (suc i) s

abbrev pub chars : String → List ℕ
chars s = chars_from (len s) 0 s

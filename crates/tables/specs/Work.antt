-- What a work table holds while rows are judged: the sizes of the trees that stand, last made on top, at places 0 to 999; and which planes are used, at places 1000 to 1063.
--     stack            the sizes that the first places hold
--     sizes_in         those that a slice of such places holds
--     total            how many rows they are together
--     marked, all_marked   whether a plane is marked as used, and each plane below n
--     runs             the sizes that stand after i rows over n planes, if each row is by the rules
use Rattle.std.specs.Prelude.{Bool, true, not, List, [], ◌∷◌, ℕ, zero, suc, ◌+◌, ℤ, pos, nat_abs, length, get_or}
use Rattle.std.proofs.Math.Option.{Option, none, some}
use Rattle.whole.specs.Tests.{◌and◌}
use Rattle.scope.specs.Planes.{is_zero}
use Rattle.theory.specs.Text.Counts.{size_row}
use Rattle.tables.specs.Rows.{entry_at}

unfoldable pub stack : List ℤ → ℕ → List ℕ
stack w zero = []
stack w (suc d) = nat_abs (get_or w d (pos 0)) ∷ stack w d

abbrev pub sizes_in : List ℤ → List ℕ
sizes_in ts = stack ts (length ts)

unfoldable pub total : List ℕ → ℕ
total [] = 0
total (k ∷ ks) = k + total ks

unfoldable pub marked : List ℤ → ℕ → Bool
marked w k = not (is_zero (get_or w (1000 + k) (pos 0)))

unfoldable pub all_marked : List ℤ → ℕ → Bool
all_marked w zero = true
all_marked w (suc n) = marked w n and all_marked w n

abbrev pub run_on : Option (List ℕ) → (List ℕ → Option (List ℕ)) → Option (List ℕ)
run_on none k = none
run_on (some ks) k = k ks

unfoldable pub runs : List ℕ → ℕ → ℕ → Option (List ℕ)
runs ns n zero = some []
runs ns n (suc i) = run_on (runs ns n i) (λ ks. size_row n i ks (entry_at ns i))

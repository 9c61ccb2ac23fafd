-- The rows of lent tables: four numbers a plane, three a node.
--     plane_at, entry_at          row i of a table
--     planes_to, entries_to       the rows before row i
--     last_before                 the plane before row i, if there is one
use Rattle.std.specs.Prelude.{List, [], ◌∷◌, ◌++◌, ℕ, zero, suc, ◌+◌, ◌*◌, ℤ, get_or}
use Rattle.std.proofs.Math.Option.{Option, none, some}
use Rattle.scope.specs.Planes.{Plane}
use Rattle.scope.specs.Solids.{Entry, entry}
use Rattle.planes.specs.Values.{four_at}

abbrev pub plane_at : List ℤ → ℕ → Plane
plane_at xs i = four_at xs (4 * i)

abbrev pub entry_at : List ℕ → ℕ → Entry
entry_at ns i = entry (get_or ns (3 * i) 0) (get_or ns (3 * i + 1) 0) (get_or ns (3 * i + 2) 0)

unfoldable pub planes_to : List ℤ → ℕ → List Plane
planes_to xs zero = []
planes_to xs (suc i) = planes_to xs i ++ (plane_at xs i ∷ [])

unfoldable pub entries_to : List ℕ → ℕ → List Entry
entries_to ns zero = []
entries_to ns (suc i) = entries_to ns i ++ (entry_at ns i ∷ [])

abbrev pub last_before : List ℤ → ℕ → Option Plane
last_before xs zero = none
last_before xs (suc i) = some (plane_at xs i)

-- What the tables hold.
--     row, look           the half-space in row i, of rows that are a width apart; the plane of an index, a side of the box below 6
--     box_side            a side of the box, by its index
--     number              an index, from the number that stands for it: one below 0 is no index
--     corner_at, read     corner i of a table; its first n corners
--     indices             their indices
--     rows_to, rows_down  the half-spaces of the first n rows, and last first
--     said_at, last_to, put_all   what the sides of the corners say of corner i; the index put out last by the first i corners, and what these put out
use Rattle.std.specs.Prelude.{List, [], ◌∷◌, ◌++◌, map, ℕ, zero, suc, ◌+◌, ◌-◌, ◌*◌, ℤ, pos, negsuc, length, get_or}
use Rattle.scope.specs.Planes.{Plane}
use Rattle.scope.specs.Cells.{x-, x+, y-, y+, z-, z+}
use Rattle.scope.specs.Section.{Signal, table}
use Rattle.theory.specs.Section.{Corner, corner, index, put_corner, put_last}
use Rattle.theory.specs.Section.Index.{prior, next}
use Rattle.planes.specs.Values.{quad, side_sign}
use Rattle.planes.specs.declared.Side.{Side}
use Rattle.planes.specs.declared.Side.TheVariants.{On}
-- entry i, and the three after it
pub use Rattle.planes.specs.Values.{four_at}

unfoldable pub row : List ℤ → ℕ → ℕ → Plane
row hs width i = four_at hs (i * width)

-- a side of the box, or else r
abbrev pub box_or : ℕ → Plane → Plane
box_or zero r = x-
box_or (suc zero) r = x+
box_or (suc (suc zero)) r = y-
box_or (suc (suc (suc zero))) r = y+
box_or (suc (suc (suc (suc zero)))) r = z-
box_or (suc (suc (suc (suc (suc zero))))) r = z+
box_or (suc (suc (suc (suc (suc (suc k)))))) r = r

abbrev pub box_side : ℕ → Plane
box_side k = box_or k x-

unfoldable pub look : List ℤ → ℕ → ℕ → Plane
look hs width k = box_or k (row hs width (k - 6))

-- ---- corners

-- an index is at most 133
abbrev pub number : ℤ → ℕ
number (pos n) = n
number (negsuc n) = 134

unfoldable pub corner_at : List ℤ → ℕ → Corner
corner_at t i =
    corner (number (get_or t (5 * i) (pos 0))) (quad (get_or t (5 * i + 1) (pos 0)) (get_or t (5 * i + 2) (pos 0)) (get_or t (5 * i + 3) (pos 0)) (get_or t (5 * i + 4) (pos 0)))

unfoldable pub read : List ℤ → ℕ → List Corner
read t zero = []
read t (suc n) = read t n ++ corner_at t n ∷ []

unfoldable pub indices : List ℤ → ℕ → List ℕ
indices t n = map index (read t n)

-- ---- rows

unfoldable pub rows_to : List ℤ → ℕ → ℕ → List Plane
rows_to hs width zero = []
rows_to hs width (suc n) = rows_to hs width n ++ row hs width n ∷ []

unfoldable pub rows_down : List ℤ → ℕ → ℕ → List Plane
rows_down hs width zero = []
rows_down hs width (suc n) = row hs width n ∷ rows_down hs width n

-- ---- the loop over corners, by their sides

abbrev pub said_at : List Side → ℕ → Signal
said_at sides i = table (side_sign (get_or sides (prior (length sides) i) On)) (side_sign (get_or sides i On)) (side_sign (get_or sides (next (length sides) i) On))

unfoldable pub last_to : List Side → List ℤ → ℕ → ℕ → ℕ
last_to sides t p zero = p
last_to sides t p (suc i) = put_last (said_at sides i) (last_to sides t p i) (corner_at t i)

module _ (s : Plane) (plane : ℕ → Plane) (k : ℕ) where
  unfoldable pub put_all : List Side → List ℤ → ℕ → ℕ → List Corner
  put_all sides t p zero = []
  put_all sides t p (suc i) = put_all sides t p i ++ put_corner s plane k (said_at sides i) (last_to sides t p i) (corner_at t i)

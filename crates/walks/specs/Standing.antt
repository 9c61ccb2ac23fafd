-- The trees that stand in the operands' tables.
--     rows_of, offset          the rows that are walked, A's where no mark is above, else B's; and where the numbers of their planes begin
--     list                     the joined planes of a table
--     plane_number             the number of a row's plane in the joined list
--     walked, number_at        the same of operands
--     NumberIn, PlaneOfIn      what the functions on a row's plane are given
--     RowIs, Stands            a row, its plane and its codes; the tree that stands at a code
use Rattle.std.specs.Prelude.{◌≡◌, List, ℕ, Option, Some, None, ◌+◌, ◌*◌, ◌/◌, ◌<◌, ℤ, length, get_or}
use Rattle.whole.specs.Members.{◌∈◌}
use Rattle.scope.specs.Planes.{Plane}
use Rattle.scope.specs.Solids.{Mark, Tree, leaf, node, mark, number, place}
use Rattle.tables.specs.Rows.{plane_at, planes_to}
use Rattle.walks.specs.declared.operations.Mark as marks
use Rattle.walks.specs.declared.rows.Operands.{Operands}

abbrev pub rows_of : Option marks.Mark → List ℕ → List ℕ → List ℕ
rows_of None a b = a
rows_of (Some m) a b = b

abbrev pub offset : Option marks.Mark → ℕ
offset None = 0
offset (Some m) = 64

abbrev pub list : List ℤ → List Plane
list xs = planes_to xs (length xs / 4)

unfoldable pub plane_number : List ℕ → ℕ → List ℕ → ℕ → ℕ
plane_number numbers o ns r = get_or numbers (o + get_or ns (3 * r) 0) 0

-- the rows that are walked, and the number of the plane of one of them
abbrev pub walked : Operands → Option marks.Mark → List ℕ
walked o m = rows_of m o.a.now o.b.now

abbrev pub number_at : Operands → Option marks.Mark → ℕ → ℕ
number_at o m r = plane_number o.numbers.now (offset m) (walked o m) r

pub record NumberIn (ns numbers : List ℕ) (o r : ℕ) : Type 0 where
  pub inside : 3 * r + 2 < length ns
  pub numbered : o + get_or ns (3 * r) 0 < length numbers

pub record PlaneOfIn (xs : List ℤ) (numbers ns : List ℕ) (o r : ℕ) : Type 0 where
  pub number_in : NumberIn ns numbers o r
  pub there : 4 * plane_number numbers o ns r + 3 < length xs

-- row r has the plane p, which is in the joined list, and its codes are marks or earlier rows
pub record RowIs (xs : List ℤ) (numbers ns : List ℕ) (o r : ℕ) (p : Plane) : Type 0 where
  pub inside : 3 * r + 2 < length ns
  pub few : r < 1000
  pub numbered : o + get_or ns (3 * r) 0 < length numbers
  pub there : 4 * plane_number numbers o ns r + 3 < length xs
  pub plane : plane_at xs (plane_number numbers o ns r) ≡ p
  pub place : plane_number numbers o ns r ≡ place (list xs) p
  pub member : p ∈ list xs
  pub front_less : get_or ns (3 * r + 1) 0 < 65534 → get_or ns (3 * r + 1) 0 < r
  pub back_less : get_or ns (3 * r + 2) 0 < 65534 → get_or ns (3 * r + 2) 0 < r

pub data Stands (xs : List ℤ) (numbers ns : List ℕ) (o : ℕ) : ℕ → Tree → Type 0 where
  at_mark : (m : Mark) → Stands xs numbers ns o (number (mark m)) (leaf m)
  at_row : {r : ℕ} {p : Plane} {f b : Tree} → RowIs xs numbers ns o r p → Stands xs numbers ns o (get_or ns (3 * r + 1) 0) f → Stands xs numbers ns o (get_or ns (3 * r + 2) 0) b → Stands xs numbers ns o r (node p f b)

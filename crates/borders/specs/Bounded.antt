-- The list of the boundary planes of an operation of two trees.
--     PairIs, pair_space   two trees that stand in the operands' tables, and the space of their operation
--     listed       the plane in a place of the list
--     Later        a plane in place k or later
--     Bounded      B.2: the boundary planes, in order
use Rattle.std.specs.Prelude.{◌≡◌, List, ℕ, ◌≤◌, ◌<◌, ℤ, length, get_or}
use Rattle.scope.specs.Planes.{Plane}
use Rattle.scope.specs.Solids.{Tree}
use Rattle.scope.specs.Cells.{operate}
use Rattle.scope.specs.Normal.{Space, both, Boundary}
use Rattle.tables.specs.Rows.{plane_at}
use Rattle.walks.specs.declared.rows.Operands.{Operands}
use Rattle.walks.specs.Standing.{list, Stands}
use Rattle.walks.specs.Marks.{operation_of}
use Rattle.borders.specs.declared.Pair.{Pair}

-- A and B stand at their root codes
pub record PairIs (o : Operands) (t : Pair) (A B : Tree) : Type 0 where
  pub first_stands : Stands o.planes.now o.numbers.now o.a.now 0 t.ar A
  pub second_stands : Stands o.planes.now o.numbers.now o.b.now 64 t.br B

-- the operation of A and B
abbrev pub pair_space : Pair → Tree → Tree → Space
pair_space t A B = both (operate (operation_of t.op)) A B

-- bs are numbers of planes in the joined list
abbrev pub listed : List ℤ → List ℕ → ℕ → Plane
listed xs bs i = plane_at xs (get_or bs i 0)

pub record Later (xs : List ℤ) (bs : List ℕ) (k : ℕ) (q : Plane) : Type 0 where
  pub place : ℕ
  pub late : k ≤ place
  pub inside : place < length bs
  pub is : listed xs bs place ≡ q

pub record Bounded (S : Space) (xs : List ℤ) (bs : List ℕ) : Type 0 where
  pub are : (i : ℕ) → i < length bs → (get_or bs i 0 < length (list xs)) × Boundary S (listed xs bs i)
  pub rising : (i j : ℕ) → i < j → j < length bs → get_or bs i 0 < get_or bs j 0
  pub all : (q : Plane) → Boundary S q → Later xs bs 0 q

-- The list of the boundary planes: what its functions are given, and what they tell.
--     Members                    every plane of the joined list is one of A or of B
--     BoundaryIn, BoundaryTold   whether one plane is a boundary plane
--     BordersIn, BordersTold     all boundary planes
use Rattle.std.specs.Prelude.{Bool, Decides, List, ◌++◌, ℕ, ◌≤◌, ℤ, length, take}
use Rattle.whole.specs.Members.{◌∈◌}
use Rattle.scope.specs.Planes.{Plane}
use Rattle.scope.specs.Solids.{Tree, planes}
use Rattle.scope.specs.Normal.{Boundary}
use Rattle.theory.specs.Planes.Lists.{Ascending}
use Rattle.tables.specs.Rows.{plane_at}
use Rattle.walks.specs.declared.rows.Operands.{Operands}
use Rattle.walks.specs.Standing.{list}
use Rattle.walks.specs.Walks.{Ground}
use Rattle.borders.specs.declared.Pair.{Pair}
use Rattle.borders.specs.Bounded.{PairIs, pair_space, Bounded}
use Rattle.borders.specs.Sides.{Own}

-- every plane of the joined list is one of A or of B
abbrev pub Members : List ℤ → Tree → Tree → Type 0
Members xs A B = (p : Plane) → p ∈ list xs → p ∈ (planes A ++ planes B)

-- ---- one plane

pub record BoundaryIn (o : Operands) (pair : Pair) (path : List ℤ) (i : ℕ) : Type 0 where
  pub grounds : Ground o.planes.now path
  pub own : Own o.planes.now i
  pub tree_a : Tree
  pub tree_b : Tree
  pub pair_is : PairIs o pair tree_a tree_b

abbrev pub BoundaryTold : Operands → Pair → ℕ → Bool → Type 0
BoundaryTold o pair i r = (A B : Tree) → PairIs o pair A B → Members o.planes.now A B → Decides r (Boundary (pair_space pair A B) (plane_at o.planes.now i))

-- ---- all planes

pub record BordersIn (o : Operands) (pair : Pair) (path : List ℤ) (boundary : List ℕ) : Type 0 where
  pub grounds : Ground o.planes.now path
  pub order : Ascending (list o.planes.now)
  pub tree_a : Tree
  pub tree_b : Tree
  pub pair_is : PairIs o pair tree_a tree_b
  pub members : Members o.planes.now tree_a tree_b
  pub room : 128 ≤ length boundary

pub record BordersTold (o : Operands) (pair : Pair) (boundary' : List ℕ) (r : ℕ) : Type 0 where
  pub few : r ≤ length (list o.planes.now)
  pub bounded : (A B : Tree) → PairIs o pair A B → Members o.planes.now A B → Bounded (pair_space pair A B) o.planes.now (take r boundary')

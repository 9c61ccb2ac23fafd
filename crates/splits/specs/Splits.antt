-- What the functions of the form are given, and what they do. A space S is an operation of two trees.
--     Rest                 the boundary planes that cut a cell stand in place k or later of the list
--     Stood, Given         an operation of two trees that stand in the tables, in the cell of a path; and the list
--     MarkIn, MarkIs, MarkTold      what a cell is
--     ScanIn, FirstIs, FirstTold    the first of the listed planes that cuts a cell
--     CellIn, Formed       a cell's form, put out
--     HalvesIn, Halved     the form of a cell that a listed plane splits, put out
use Rattle.std.specs.Prelude.{◌≡◌, List, ◌∷◌, ℕ, ◌≤◌, ◌<◌, ℤ, length, get_or, Option, Some, None, Ok}
use Rattle.scope.specs.Planes.{Plane, flip}
use Rattle.scope.specs.Solids.{Mark, Tree, node, mark, number}
use Rattle.scope.specs.Cells.{Cuts}
use Rattle.scope.specs.Normal as normal
use Rattle.scope.specs.Normal.{Space, Boundary, Normal}
use Rattle.theory.specs.Planes.Lists.{Ascending}
use Rattle.theory.specs.Cells.Uniform as theory
use Rattle.planes.specs.Values.{meeting}
use Rattle.cells.specs.Paths.{OnPath, Witness}
use Rattle.walks.specs.declared.rows.Operands.{Operands}
use Rattle.walks.specs.Standing.{list}
use Rattle.walks.specs.Putting.{Walked, Room, Emitted}
use Rattle.walks.specs.Walks.{In}
use Rattle.walks.specs.Walks.{Ground}
use Rattle.borders.specs.declared.Pair.{Pair}
use Rattle.borders.specs.Bounded.{PairIs, pair_space, listed, Later, Bounded}
use Rattle.borders.specs.Sides.{Kept}
use Rattle.splits.specs.declared.First.{First}

-- ---- what is given

-- the boundary planes that cut the cell stand in place k or later
abbrev pub Rest : Space → List ℤ → List ℕ → ℕ → List Plane → Type 0
Rest S xs bs k c = (q : Plane) → Boundary S q → Cuts q c → Later xs bs k q

-- A and B stand at their root codes; the path leads to the cell
pub record Stood (o : Operands) (t : Pair) (path : List ℤ) (depth : ℕ) (A B : Tree) (c : List Plane) : Type 0 where
  pub pair : PairIs o t A B
  pub on : OnPath (In o.planes.now) path depth c

pub record Given (o : Operands) (bs : List ℕ) (t : Pair) (path : List ℤ) (depth k : ℕ) (A B : Tree) (c : List Plane) : Type 0 where
  pub stood : Stood o t path depth A B c
  pub bounded : Bounded (pair_space t A B) o.planes.now bs
  pub rest : Rest (pair_space t A B) o.planes.now bs k c

-- ---- a cell's mark

pub record MarkIn (o : Operands) (t : Pair) (path : List ℤ) (depth : ℕ) : Type 0 where
  pub grounds : Ground o.planes.now path
  pub tree_a : Tree
  pub tree_b : Tree
  pub cell : List Plane
  pub stood : Stood o t path depth tree_a tree_b cell

pub data MarkIs (S : Space) (c : List Plane) : Option ℕ → Type 0 where
  is_uniform : (m : Mark) → normal.Uniform S c m → MarkIs S c (Some (number (mark m)))
  is_mixed : theory.Mixed S c → MarkIs S c None

pub record MarkTold (o : Operands) (t : Pair) (path path' : List ℤ) (depth : ℕ) (r : Option ℕ) : Type 0 where
  pub kept : Kept path path' depth
  pub told : (A B : Tree) (c : List Plane) → Stood o t path depth A B c → MarkIs (pair_space t A B) c r

-- ---- the first plane that cuts

-- places in the joined list, and the cell of a path
pub record ScanIn (xs : List ℤ) (bs : List ℕ) (path : List ℤ) (depth : ℕ) : Type 0 where
  pub grounds : Ground xs path
  pub places : (i : ℕ) → i < length bs → get_or bs i 0 < length (list xs)
  pub cell : List Plane
  pub on : OnPath (In xs) path depth cell

-- of places k up to n
pub data FirstIs (xs : List ℤ) (bs : List ℕ) (c : List Plane) (k n : ℕ) : Option First → Type 0 where
  first_at : {f : First} → k ≤ f.place → f.place < n → Witness (listed xs bs f.place) c (meeting f.point) → ((j : ℕ) → k ≤ j → j < f.place → ¬ Cuts (listed xs bs j) c) → FirstIs xs bs c k n (Some f)
  nowhere : ((j : ℕ) → k ≤ j → j < n → ¬ Cuts (listed xs bs j) c) → FirstIs xs bs c k n None

-- whatever cell the path leads to
abbrev pub FirstTold : List ℤ → List ℕ → List ℤ → ℕ → ℕ → ℕ → Option First → Type 0
FirstTold xs bs path depth k n r = (c : List Plane) → OnPath (In xs) path depth c → FirstIs xs bs c k n r

-- ---- the form

pub record CellIn (o : Operands) (bs : List ℕ) (t : Pair) (path : List ℤ) (depth : ℕ) (out : List ℕ) (next k : ℕ) : Type 0 where
  pub grounds : Ground o.planes.now path
  pub ordered : Ascending (list o.planes.now)
  pub tree_a : Tree
  pub tree_b : Tree
  pub cell : List Plane
  pub given : Given o bs t path depth k tree_a tree_b cell
  pub room : Room out next

pub record Formed (o : Operands) (bs : List ℕ) (t : Pair) (path path' : List ℤ) (depth : ℕ) (out out' : List ℕ) (next k : ℕ) (r : Walked) : Type 0 where
  pub kept : Kept path path' depth
  pub placed : (e m : ℕ) → r ≡ Ok (e, m) → Room out m
  pub emitted : (A B s : Tree) (c : List Plane) → Given o bs t path depth k A B c → Normal (pair_space t A B) c s → Emitted (list o.planes.now) out out' next s r

-- the plane in the place cuts the cell at the point
pub record HalvesIn (o : Operands) (bs : List ℕ) (t : Pair) (path : List ℤ) (depth : ℕ) (out : List ℕ) (next : ℕ) (f : First) : Type 0 where
  pub whole : CellIn o bs t path depth out next f.place
  pub inside : f.place < length bs
  pub witness : Witness (listed o.planes.now bs f.place) whole.cell (meeting f.point)

-- of a cell that is not uniform: the rows of the halves' forms f and g, and the node's
pub record Halved (o : Operands) (bs : List ℕ) (t : Pair) (path path' : List ℤ) (depth : ℕ) (out out' : List ℕ) (next k : ℕ) (r : Walked) : Type 0 where
  pub kept : Kept path path' depth
  pub placed : (e m : ℕ) → r ≡ Ok (e, m) → Room out m
  pub emitted : (A B f g : Tree) (c : List Plane) → Given o bs t path depth k A B c → ((m : Mark) → ¬ normal.Uniform (pair_space t A B) c m) → Normal (pair_space t A B) (listed o.planes.now bs k ∷ c) f → Normal (pair_space t A B) (flip (listed o.planes.now bs k) ∷ c) g → Emitted (list o.planes.now) out out' next (node (listed o.planes.now bs k) f g) r

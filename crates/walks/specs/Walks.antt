-- What the walks are given, and what they do.
--     In                   a plane of the joined list
--     Ends                 what comes of a leaf: in A a walk of B, in B the operation's mark
--     Ground               the joined planes, and room for a path
--     Here                 where a walk is: in which operand, in which cell, at which tree
--     SideIn, NodeIn       what a side's walk and a node's walk are given
--     StepIn, ToCode, Leads, StepTold        one row: its plane cuts the cell, or the walk goes on at a child
--     Did                  what a walk does: the rows of the walked tree, put out
use Rattle.std.specs.Prelude.{◌≡◌, List, ℕ, ◌*◌, ◌≤◌, ◌<◌, ℤ, pos, length, get_or, Option as Maybe, Ok}
use Rattle.std.proofs.Math.Option.{Option, none, some}
use Rattle.whole.specs.Members.{◌∈◌}
use Rattle.scope.specs.Planes.{Plane, Lawful}
use Rattle.scope.specs.Solids.{Mark, Tree, leaf}
use Rattle.scope.specs.Cells.{Walked, join, Second, Operation, operate}
use Rattle.planes.specs.Values.{meeting}
use Rattle.planes.specs.declared.Meeting.{Meeting}
use Rattle.tables.specs.Rows.{plane_at}
use Rattle.cells.specs.Paths.{OnPath, Witness}
use Rattle.walks.specs.declared.operations.Mark as marks
use Rattle.walks.specs.declared.Turn.{Turn}
use Rattle.walks.specs.declared.rows.Operands.{Operands}
use Rattle.walks.specs.declared.Reached as Reached
use Rattle.walks.specs.Standing.{offset, list, walked, number_at, Stands}
use Rattle.walks.specs.Putting.{Walked as Answer, Room, Emitted}
use Rattle.walks.specs.Marks.{operation_of, above_of}

pub record In (xs : List ℤ) (p : Plane) : Type 0 where
  pub lawful : Lawful p
  pub member : p ∈ list xs

-- C.4: at a leaf of A, B is walked in that cell; at a leaf of B below a leaf of A marked a, the operation gives the mark
abbrev pub Ends : (Mark → Mark → Mark) → Tree → Option Mark → List Plane → Mark → Tree → Type 0
Ends o B none c m r = Second o B c m r
Ends o B (some a) c m r = r ≡ leaf (o a m)

abbrev pub WalkedIn : Operation → Tree → Option Mark → List Plane → Tree → Tree → Type 0
WalkedIn o B k c t s = Walked join (Ends (operate o) B k) c t s

-- ---- what is given

-- the joined planes are lawful and at most 128; there is room for a path of 128 rows
pub record Ground (xs : List ℤ) (path : List ℤ) : Type 0 where
  pub lawful : (p : Plane) → p ∈ list xs → Lawful p
  pub few : length (list xs) ≤ 128
  pub path_room : 1152 ≤ length path

-- the tree that a code stands for in the operand that is walked
abbrev pub StandsIn : Operands → Maybe marks.Mark → ℕ → Tree → Type 0
StandsIn o m c t = Stands o.planes.now o.numbers.now (walked o m) (offset m) c t

-- the tree that is walked, B from its root, and the cell
pub record Here (o : Operands) (t : Turn) (path : List ℤ) (depth c : ℕ) : Type 0 where
  pub tree : Tree
  pub stands : StandsIn o t.above c tree
  pub second : Tree
  pub second_stands : Stands o.planes.now o.numbers.now o.b.now 64 t.root second
  pub cell : List Plane
  pub on : OnPath (In o.planes.now) path depth cell

pub record SideIn (o : Operands) (t : Turn) (path : List ℤ) (depth : ℕ) (out : List ℕ) (next c : ℕ) : Type 0 where
  pub grounds : Ground o.planes.now path
  pub here : Here o t path depth c
  pub room : Room out next

-- the row's plane cuts the cell at a witness
pub record NodeIn (o : Operands) (t : Turn) (path : List ℤ) (depth : ℕ) (out : List ℕ) (next r : ℕ) (x : Meeting) : Type 0 where
  pub side : SideIn o t path depth out next r
  pub row : r < 65534
  pub witness : Witness (plane_at o.planes.now (number_at o t.above r)) side.here.cell (meeting x)

-- ---- one row

-- a row, in the cell of a path
pub record StepIn (o : Operands) (m : Maybe marks.Mark) (path : List ℤ) (depth : ℕ) (r : ℕ) : Type 0 where
  pub grounds : Ground o.planes.now path
  pub cell : List Plane
  pub on : OnPath (In o.planes.now) path depth cell
  pub tree : Tree
  pub stands : StandsIn o m r tree
  pub row : r < 65534

-- a code at which the walk of the tree goes on: whatever the tree t becomes in the cell, the code's tree becomes
pub record ToCode (o : Operands) (m : Maybe marks.Mark) (cell : List Plane) (t : Tree) (e : ℕ) : Type 0 where
  pub tree : Tree
  pub stands : StandsIn o m e tree
  pub walk : (q : Operation) (B : Tree) (k : Option Mark) (s : Tree) → WalkedIn q B k cell t s → WalkedIn q B k cell tree s

-- C.2: the row's plane cuts the cell; or it misses it, and the walk goes on at a child
abbrev pub Leads : Operands → Maybe marks.Mark → ℕ → List Plane → Tree → Reached.Reached → Type 0
Leads o m r cell t (Reached.TheVariants.Cut x) = Witness (plane_at o.planes.now (number_at o m r)) cell (meeting x)
Leads o m r cell t (Reached.TheVariants.Code e) = ToCode o m cell t e

-- a child is a mark or an earlier row
pub record StepTold (o : Operands) (m : Maybe marks.Mark) (path : List ℤ) (depth r : ℕ) (z : Reached.Reached) : Type 0 where
  pub falls : (e : ℕ) → z ≡ Reached.TheVariants.Code e → e < 65534 → e < r
  pub leads : (cell : List Plane) (t : Tree) → OnPath (In o.planes.now) path depth cell → StandsIn o m r t → Leads o m r cell t z

-- ---- what is done

pub record Did (o : Operands) (t : Turn) (path path' : List ℤ) (depth : ℕ) (out out' : List ℕ) (next c : ℕ) (r : Answer) : Type 0 where
  pub kept : (i : ℕ) → i < depth * 9 → get_or path' i (pos 0) ≡ get_or path i (pos 0)
  pub placed : (e m : ℕ) → r ≡ Ok (e, m) → Room out m
  pub emitted : (w B s : Tree) (cell : List Plane) → StandsIn o t.above c w → Stands o.planes.now o.numbers.now o.b.now 64 t.root B → OnPath (In o.planes.now) path depth cell → WalkedIn (operation_of t.op) B (above_of t.above) cell w s → Emitted (list o.planes.now) out out' next s r

-- The walk on a plane p, in tables: what its functions are given, and what they tell.
--     cell_at, OnPlane              the cell of the first rows of a path; they are the half-spaces that a walk on p kept
--     own_field, taken              which side is taken at rows of p itself
--     After, Differs                what is left to be done at a leaf, and below a tree: the marks of the two sides differ at some end
--     Kept, nowhere                 the rows of a path that a call leaves as they are; the point of a row whose witness is not read
--     Own, Meets                    p by its number; p and the cell of a path
--     Parts, PartsIn, PartsTold     on which sides of another plane p has points
--     plane_of                      the plane of a row
--     Passes, PassIn, PassTold      how a row is passed
--     staged, Follows               what follows a leaf
--     Here, SideIn, NodeIn, Did     the walks
use Rattle.std.specs.Prelude as std
use Rattle.std.specs.Prelude.{◌≡◌, Bool, true, false, Decides, Some, None, List, ◌∷◌, ◌++◌, ◌≢◌, ℕ, ◌+◌, ◌*◌, ◌≤◌, ◌<◌, ℤ, pos, length, get_or}
use Rattle.std.proofs.Math.Option.{Option, none, some}
use Rattle.whole.specs.Members.{◌∈◌}
use Rattle.scope.specs.Planes.{Plane, flip, in_range, Lawful}
use Rattle.scope.specs.Solids.{Mark, Tree, place}
use Rattle.scope.specs.Cells.{box, Cuts, Operation, operate}
use Rattle.theory.specs.Cells.Path.{OnKept}
use Rattle.theory.specs.Forms.OnPlane.{Along}
use Rattle.planes.specs.declared.Meeting.{Meeting}
use Rattle.polygons.specs.Tables.{row, rows_down}
use Rattle.cuts.specs.Paths.{Links}
use Rattle.tables.specs.Rows.{plane_at}
use Rattle.walks.specs.declared.rows.Operands.{Operands}
use Rattle.walks.specs.Standing.{offset, list, walked, number_at, RowIs}
use Rattle.walks.specs.declared.operations.Mark as marks
use Rattle.walks.specs.Marks.{operation_of, mark_of, above_of}
use Rattle.walks.specs.Walks.{Ground, StandsIn}
use Rattle.borders.specs.declared.Stage.{Stage}
use Rattle.borders.specs.declared.Parted.{Parted}
use Rattle.borders.specs.declared.Parted.TheVariants as parted
use Rattle.borders.specs.declared.Next.{Next}
use Rattle.borders.specs.declared.Next.TheVariants as next
use Rattle.borders.specs.Bounded.{PairIs}

-- ---- the path

-- the cell of the first rows of a path
abbrev pub cell_at : List ℤ → ℕ → List Plane
cell_at path depth = rows_down path 9 depth ++ box

-- each row is a side of another plane of the joined list, on both sides of which p has points of the cell of the rows before it
abbrev pub OnPlane : List ℤ → Plane → List ℤ → ℕ → Type 0
OnPlane xs p path depth = OnKept p (list xs) (cell_at path depth) depth

-- the rows before row `depth` are as they were
pub record Kept (path path' : List ℤ) (depth : ℕ) : Type 0 where
  pub rows : (i : ℕ) → i < depth * 9 → get_or path' i (pos 0) ≡ get_or path i (pos 0)

-- the point of a row whose witness is not read
abbrev pub nowhere : Meeting
nowhere = record { x = pos 0; y = pos 0; z = pos 0; w = pos 1 }

-- number n of the joined list
pub record Own (xs : List ℤ) (n : ℕ) : Type 0 where
  pub there : 4 * n + 3 < length xs
  pub member : plane_at xs n ∈ list xs
  pub place : place (list xs) (plane_at xs n) ≡ n

-- plane n of the joined list has points of the cell of a path of half-spaces that a walk on it kept
pub record Meets (xs : List ℤ) (n : ℕ) (path : List ℤ) (depth : ℕ) : Type 0 where
  pub grounds : Ground xs path
  pub own : Own xs n
  pub on : OnPlane xs (plane_at xs n) path depth
  pub links : Links path depth
  pub cuts : Cuts (plane_at xs n) (cell_at path depth)

-- ---- the four walks

-- p's front while no mark in front of it is known, else its back: the entry of its code in the row
abbrev pub own_field : std.Option marks.Mark → ℕ
own_field None = 1
own_field (Some f) = 2

abbrev pub taken : Option Mark → Bool
taken none = true
taken (some f) = false

-- f is the operation's mark in front of p, if it is known, and a the mark of the leaf of A above, if B is walked; m is the mark of the leaf
abbrev pub After : (Mark → Mark → Mark) → Plane → Tree → Tree → Option Mark → Option Mark → List Plane → Mark → Type 0
After o p A B none none c m = Along p true (λ d b. Along p false (λ e a. Along p false (λ e' b'. o m b ≢ o a b') e B) d A) c B
After o p A B none (some a) c m = Along p false (λ e a'. Along p false (λ e' b. o a m ≢ o a' b) e B) c A
After o p A B (some f) none c m = Along p false (λ e b. f ≢ o m b) c B
After o p A B (some f) (some a) c m = f ≢ o a m

abbrev pub Differs : Operation → Plane → Tree → Tree → Option Mark → Option Mark → List Plane → Tree → Type 0
Differs o p A B f k c w = Along p (taken f) (After (operate o) p A B f k) c w

-- ---- one row

-- p cuts the cell c
pub data Parts (p q : Plane) (c : List Plane) : Parted → Type 0 where
  in_front : Cuts p (q ∷ c) → ¬ Cuts p (flip q ∷ c) → Parts p q c parted.Front
  behind : ¬ Cuts p (q ∷ c) → Cuts p (flip q ∷ c) → Parts p q c parted.Behind
  both : Cuts p (q ∷ c) → Cuts p (flip q ∷ c) → Parts p q c parted.Both

pub record PartsIn (p q : Plane) (path : List ℤ) (depth : ℕ) : Type 0 where
  pub lawful : Lawful p
  pub other_lawful : Lawful q
  pub other : q ≢ p
  pub deep : depth < 128
  pub room : depth * 9 + 9 ≤ length path
  pub ranged : (i : ℕ) → i < depth → in_range (row path 9 i) ≡ true
  pub links : Links path depth
  pub cuts : Cuts p (cell_at path depth)

pub record PartsTold (p q : Plane) (path path' : List ℤ) (depth : ℕ) (r : Parted) : Type 0 where
  pub kept : Kept path path' depth
  pub parts : Parts p q (cell_at path depth) r

-- a row of the plane q with the codes f and b, in the cell c; s is the side that is taken at a row of p itself
pub data Passes (p q : Plane) (s : Bool) (c : List Plane) (f b : ℕ) : std.Option ℕ → Type 0 where
  own_front : q ≡ p → s ≡ true → Passes p q s c f b (Some f)
  own_back : q ≡ p → s ≡ false → Passes p q s c f b (Some b)
  in_front : q ≢ p → Cuts p (q ∷ c) → ¬ Cuts p (flip q ∷ c) → Passes p q s c f b (Some f)
  behind : q ≢ p → ¬ Cuts p (q ∷ c) → Cuts p (flip q ∷ c) → Passes p q s c f b (Some b)
  both : q ≢ p → Cuts p (q ∷ c) → Cuts p (flip q ∷ c) → Passes p q s c f b None

-- the plane of a row
abbrev pub plane_of : Operands → Stage → ℕ → Plane
plane_of o t r = plane_at o.planes.now (number_at o t.above r)

pub record PassIn (o : Operands) (t : Stage) (path : List ℤ) (depth : ℕ) (r : ℕ) : Type 0 where
  pub meets : Meets o.planes.now t.plane path depth
  pub plane : Plane
  pub row : RowIs o.planes.now o.numbers.now (walked o t.above) (offset t.above) r plane

pub record PassTold (o : Operands) (t : Stage) (path path' : List ℤ) (depth r : ℕ) (z : std.Option ℕ) : Type 0 where
  pub kept : Kept path path' depth
  pub passes : Passes (plane_at o.planes.now t.plane) (plane_of o t r) (taken (above_of t.front)) (cell_at path depth) (get_or (walked o t.above) (3 * r + 1) 0) (get_or (walked o t.above) (3 * r + 2) 0) z

-- ---- one leaf

-- the stage with another mark of A's leaf and another mark in front
abbrev pub staged : Stage → std.Option marks.Mark → std.Option marks.Mark → Stage
staged t a f = record { pair = t.pair; plane = t.plane; above = a; front = f }

-- the operation's mark below a leaf of A
abbrev pub given : Stage → marks.Mark → marks.Mark → Mark
given t a m = operate (operation_of t.pair.op) (mark_of a) (mark_of m)

-- what follows the mark m of a leaf
pub data Follows (t : Stage) (m : marks.Mark) : Next → Type 0 where
  to_b : t.above ≡ None → Follows t m (next.Walk (staged t (Some m) t.front) t.pair.br)
  to_backs : {a v : marks.Mark} → t.above ≡ Some a → t.front ≡ None → mark_of v ≡ given t a m → Follows t m (next.Walk (staged t None (Some v)) t.pair.ar)
  at_end : {a f : marks.Mark} {z : Bool} → t.above ≡ Some a → t.front ≡ Some f → Decides z (mark_of f ≢ given t a m) → Follows t m (next.Done z)

-- ---- the walks

-- two trees, and at which tree the four walks are
pub record Here (o : Operands) (t : Stage) (c : ℕ) : Type 0 where
  pub tree_a : Tree
  pub tree_b : Tree
  pub pair_is : PairIs o t.pair tree_a tree_b
  pub tree : Tree
  pub stands : StandsIn o t.above c tree

pub record SideIn (o : Operands) (t : Stage) (path : List ℤ) (depth : ℕ) (c : ℕ) : Type 0 where
  pub meets : Meets o.planes.now t.plane path depth
  pub here : Here o t c

-- the row parts the plane
pub record NodeIn (o : Operands) (t : Stage) (path : List ℤ) (depth : ℕ) (r : ℕ) : Type 0 where
  pub side : SideIn o t path depth r
  pub row : r < 65534
  pub other : plane_of o t r ≢ plane_at o.planes.now t.plane
  pub front_cuts : Cuts (plane_at o.planes.now t.plane) (plane_of o t r ∷ cell_at path depth)
  pub back_cuts : Cuts (plane_at o.planes.now t.plane) (flip (plane_of o t r) ∷ cell_at path depth)

pub record Did (o : Operands) (t : Stage) (path path' : List ℤ) (depth c : ℕ) (r : Bool) : Type 0 where
  pub kept : Kept path path' depth
  pub told : (A B w : Tree) → PairIs o t.pair A B → StandsIn o t.above c w → Decides r (Differs (operation_of t.pair.op) (plane_at o.planes.now t.plane) A B (above_of t.front) (above_of t.above) (cell_at path depth) w)

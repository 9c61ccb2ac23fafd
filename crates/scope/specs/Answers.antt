-- What each call answers: its values, or the number of the first refusal that it meets (R.18), and what it leaves in the tables lent to it. The enums of the code stand for these answers.
use Rattle.std.specs.Prelude.{◌≡◌, Bool, true, false, cond, List, [], ◌∷◌, ◌++◌, ℕ, ◌-◌, ◌/◌, T, leb, length, replicate, ℤ}
use Rattle.std.proofs.Math.Option.{Option, none, some}
use Rattle.whole.specs.Tests.{◌and◌}
use Rattle.scope.specs.Limits.{most_planes, most_nodes, most_halves, stated, program_planes, program_nodes}
use Rattle.scope.specs.Planes.{Plane, Point, at, Fault, fault, half_fault, fault_number, point_in_range}
use Rattle.scope.specs.Solids.{Tree, rows, planes, ascending, Entry, entry, Tables, tables, tables_of, positive, Reply, reply}
use Rattle.scope.specs.Cells.{Operation, Merged, box}
use Rattle.scope.specs.Section.{section}
use Rattle.scope.specs.Normal.{NormalForm}
use Rattle.scope.specs.Text.{text, refusal_line, operation_code}
use Rattle.scope.specs.Judging.{Rooms, Verdict, accepted, refusal, judge, Lent, judge_lent, order, order_refused, known, judge_merge}

pub data Answer (A : Type 0) : Type 0 where
  given : A → Answer A
  refused : ℕ → Answer A

-- ---- lent tables

-- rows one after the other
unfoldable pub flat_planes : List Plane → List ℤ
flat_planes [] = []
flat_planes (p ∷ ps) = p.x ∷ p.y ∷ p.z ∷ p.w ∷ flat_planes ps

unfoldable pub flat_nodes : List Entry → List ℕ
flat_nodes [] = []
flat_nodes (entry n f b ∷ es) = n ∷ f ∷ b ∷ flat_nodes es

abbrev pub plane_numbers : Tables → List ℤ
plane_numbers (tables ps es r) = flat_planes ps

abbrev pub node_numbers : Tables → List ℕ
node_numbers (tables ps es r) = flat_nodes es

-- R.21: a table of n places holds the entries, then zeros (o is 0)
abbrev pub filled : {A : Type 0} → A → ℕ → List A → List A
filled o n xs = xs ++ replicate (n - length xs) o

-- R.19, R.21: what a call leaves in a lent table of n places: the entries of its answer and zeros, or zeros alone. A work table is left with no entries
abbrev pub left : {A B : Type 0} → A → ℕ → (B → List A) → Answer B → List A
left o n entries (given b) = filled o n (entries b)
left o n entries (refused k) = filled o n []

-- R.8, R.12: a work table shorter than the length stated for it comes first
abbrev pub with_work : {A : Type 0} → ℕ → Answer A → Answer A
with_work work a = cond (leb stated work) a (refused 8)

pub data WithWork {A : Type 0} (work : ℕ) (P : Answer A → Type 0) : Answer A → Type 0 where
  short_work : ¬ T (leb stated work) → WithWork work P (refused 8)
  enough_work : {r : Answer A} → T (leb stated work) → P r → WithWork work P r

-- ---- a plane from four numbers (Z.6)

abbrev pub plane_by_fault : Plane → Option Fault → Answer Plane
plane_by_fault p none = given p
plane_by_fault p (some f) = refused (fault_number f)

unfoldable pub plane_answer : Plane → Answer Plane
plane_answer p = plane_by_fault p (fault p)

-- ---- reading and writing

-- the line is kept inside
abbrev pub solid_then : {A : Type 0} → Verdict → (Tables → Answer A) → Answer A
solid_then (accepted a) k = k a
solid_then (refusal n l) k = refused n

unfoldable pub read_answer : ℕ → Rooms → List ℕ → Answer Tables
read_answer work s t = with_work work (solid_then (judge s t) given)

-- R.17: a writing judges the solid, then 8
unfoldable pub write_answer : ℕ → ℕ → Lent → Answer (List ℕ)
write_answer work room a = with_work work (solid_then (judge_lent a) (λ a. cond (leb (length (text a)) room) (given (text a)) (refused 8)))

-- ---- sections

-- no bounds are Nothing
abbrev pub bounds_by : ℕ → List Plane → Answer (List Plane)
bounds_by room [] = given []
bounds_by room (b ∷ bs) = cond (leb (length (b ∷ bs)) room) (given (b ∷ bs)) (refused 8)

abbrev pub no_fault : Option Fault → Bool
no_fault none = true
no_fault (some f) = false

abbrev pub no_faults : List Plane → Bool
no_faults [] = true
no_faults (h ∷ hs) = no_fault (half_fault h) and no_faults hs

-- S.2: 3, then 4, then Nothing, then 8
unfoldable pub section_by : ℕ → Plane → List Plane → Answer (List Plane)
section_by room s hs = cond (leb (length hs) most_halves) (cond (no_faults (s ∷ hs)) (bounds_by room (section s hs)) (refused 4)) (refused 3)

-- rows of four numbers; none if some are left over, which is 2
unfoldable pub quads : List ℤ → Option (List Plane)
quads [] = some []
quads (a ∷ []) = none
quads (a ∷ b ∷ []) = none
quads (a ∷ b ∷ c ∷ []) = none
quads (a ∷ b ∷ c ∷ d ∷ l) = more (quads l)
  where
    more : Option (List Plane) → Option (List Plane)
    more none = none
    more (some hs) = some (record { x = a; y = b; z = c; w = d } ∷ hs)

abbrev pub quads_then : Option (List Plane) → (List Plane → Answer (List Plane)) → Answer (List Plane)
quads_then none k = refused 2
quads_then (some hs) k = k hs

-- a plane, a table of half-spaces, and a table of n places for the bounds
unfoldable pub section_answer : ℕ → ℕ → Plane → List ℤ → Answer (List Plane)
section_answer work n s hs = with_work work (quads_then (quads hs) (section_by (n / 4) s))

-- ---- points

-- R.10: in range, and strictly inside the box
abbrev pub all_front : List Plane → Point → Bool
all_front [] X = true
all_front (h ∷ hs) X = positive (at h X) and all_front hs X

abbrev pub point_ok : Point → Bool
point_ok X = point_in_range X and all_front box X

-- R.17: a point call judges the solid, then 10. A solid that is accepted is the tree whose tables it has
pub data PointBy (A : Lent) (X : Point) : Answer Reply → Type 0 where
  bad_solid : {n l : ℕ} → judge_lent A ≡ refusal n l → PointBy A X (refused n)
  bad_point : (t : Tree) → judge_lent A ≡ accepted (tables_of t) → ¬ T (point_ok X) → PointBy A X (refused 10)
  told : (t : Tree) → judge_lent A ≡ accepted (tables_of t) → T (point_ok X) → PointBy A X (given (reply t X))

abbrev pub PointAnswer : ℕ → Lent → Point → Answer Reply → Type 0
PointAnswer work A X = WithWork work (PointBy A X)

-- ---- merges and normal forms: 8, then 9, by the counts of the tree that is the answer (R.8, R.9)

abbrev pub fits_rooms : Rooms → Tree → Bool
fits_rooms s t = leb (rows t) most_nodes and leb (rows t) s.node_rows and leb (length (ascending (planes t))) s.plane_rows

abbrev pub tree_answer : Rooms → Tree → Answer Tables
tree_answer s t = cond (fits_rooms s t) (cond (leb (length (ascending (planes t))) most_planes) (given (tables_of t)) (refused 9)) (refused 8)

-- R.16: a merge judges the operation, then A, then B, then 8, then 9
pub data MergeBy (s : Rooms) (o : ℕ) (A B : Verdict) : Answer Tables → Type 0 where
  no_operation : ¬ T (known o) → MergeBy s o A B (refused 7)
  a_refused : {n l : ℕ} → T (known o) → A ≡ refusal n l → MergeBy s o A B (refused n)
  b_refused : {n l : ℕ} (a : Tree) → T (known o) → A ≡ accepted (tables_of a) → B ≡ refusal n l → MergeBy s o A B (refused n)
  merged : (x : Operation) (a b t : Tree) → operation_code x ≡ o → A ≡ accepted (tables_of a) → B ≡ accepted (tables_of b) → Merged x a b t → MergeBy s o A B (tree_answer s t)

abbrev pub MergeAnswer : ℕ → Rooms → ℕ → Lent → Lent → Answer Tables → Type 0
MergeAnswer work s o A B = WithWork work (MergeBy s o (judge_lent A) (judge_lent B))

-- R.17: a normal form judges the solid, then 8
pub data FormBy (s : Rooms) (A : Verdict) : Answer Tables → Type 0 where
  solid_refused : {n l : ℕ} → A ≡ refusal n l → FormBy s A (refused n)
  formed : (a t : Tree) → A ≡ accepted (tables_of a) → NormalForm a t → FormBy s A (tree_answer s t)

abbrev pub FormAnswer : ℕ → Rooms → Lent → Answer Tables → Type 0
FormAnswer work s A = WithWork work (FormBy s (judge_lent A))

-- ---- the programs: bytes to bytes (X.11, X.12)

abbrev pub printed : Answer Tables → List ℕ
printed (given a) = text a
printed (refused n) = refusal_line n

-- operands are read into tables that hold every solid
abbrev pub operand_rooms : Rooms
operand_rooms = record { plane_rows = most_planes; node_rows = most_nodes }

abbrev pub program_rooms : Rooms
program_rooms = record { plane_rows = program_planes; node_rows = program_nodes }

pub data MergeText (t : List ℕ) : List ℕ → Type 0 where
  unread : {n l : ℕ} → judge_merge operand_rooms t ≡ order_refused n l → MergeText t (refusal_line n)
  merged_text : {o : ℕ} {a b : Tables} {r : Answer Tables} → judge_merge operand_rooms t ≡ order o a b → MergeBy program_rooms o (accepted a) (accepted b) r → MergeText t (printed r)

-- the normal form program reads one solid
pub data FormText (t : List ℕ) : List ℕ → Type 0 where
  formed_text : {r : Answer Tables} → FormBy program_rooms (judge operand_rooms t) r → FormText t (printed r)

-- Document 01, "What may be refused": a text is judged line by line, and lent tables as if written out and read.
use Rattle.std.specs.Prelude.{Bool, true, false, cond, List, [], ◌∷◌, ◌++◌, ℕ, zero, suc, ◌-◌, ◌/◌, leb, eqb, length, ℤ}
use Rattle.std.proofs.Math.Option.{Option, none, some}
use Rattle.std.proofs.Math.ListN.{get_elem?}
use Rattle.whole.specs.Tests.{◌and◌, ◌or◌}
use Rattle.scope.specs.Limits.{most_planes, most_nodes, most_text}
use Rattle.scope.specs.Planes.{Plane, Fault, fault, fault_number, before}
use Rattle.scope.specs.Solids.{IN, OUT, Tree, leaf, node, rows, Entry, entry, Tables, tables}
use Rattle.scope.specs.Text.{Frame, bad, other, operation, head, plane, node_row, end, frames}

-- ---- rows, one by one: the trees that are not yet below a row are a stack, last made first

-- a tree of at least one row
pub data Sub : Type 0 where
  sub : Plane → Tree → Tree → Sub

abbrev pub tree : Sub → Tree
tree (sub p f b) = node p f b

pub data Child : Type 0 where
  child : Tree → List Sub → Child
  against : Child

-- F.9: a code that is no mark must be the row that is due, which is the last tree's
abbrev pub due_row : ℕ → ℕ → List Sub → Child
due_row due c [] = against
due_row due c (t ∷ st) = cond (eqb c due) (child (tree t) st) against

unfoldable pub take_child : ℕ → ℕ → List Sub → Child
take_child due c st = cond (eqb c 65535) (child (leaf IN) st) (cond (eqb c 65534) (child (leaf OUT) st) (due_row due c st))

-- F.11: the back child of row r is r-1, the front child r-1 less the rows of the back child's tree
abbrev pub with_front : Plane → Tree → Child → Option (List Sub)
with_front p b (child f st) = some (sub p f b ∷ st)
with_front p b against = none

abbrev pub with_back : ℕ → Plane → ℕ → Child → Option (List Sub)
with_back r p f (child b st) = with_front p b (take_child (r - 1 - rows b) f st)
with_back r p f against = none

abbrev pub with_plane : ℕ → List Sub → ℕ → ℕ → Option Plane → Option (List Sub)
with_plane r st f b (some p) = with_back r p f (take_child (r - 1) b st)
with_plane r st f b none = none

-- row r over the trees before it; none if a plane number or a child code is against the rules (R.6)
unfoldable pub add_row : List Plane → ℕ → List Sub → Entry → Option (List Sub)
add_row ps r st (entry n f b) = with_plane r st f b (get_elem? ps n)

-- F.13: each of the planes below n is used by some node
unfoldable pub uses : ℕ → List Entry → Bool
uses k [] = false
uses k (entry n f b ∷ es) = eqb k n or uses k es

unfoldable pub all_used : ℕ → List Entry → Bool
all_used zero es = true
all_used (suc n) es = uses n es and all_used n es

-- no row is outside the root's tree: the rows are one tree, or none
abbrev pub one_tree : List Sub → Bool
one_tree [] = true
one_tree (t ∷ []) = true
one_tree (t ∷ u ∷ st) = false

-- F.12: the root code is nodes-1, or a mark where nodes is 0
unfoldable pub root_ok : ℕ → ℕ → Bool
root_ok zero r = eqb r 65535 or eqb r 65534
root_ok (suc m) r = eqb r m

-- ---- one line; within a line the lowest number (R.12)

-- the rows lent for planes and for nodes
pub record Rooms : Type 0 where
  pub plane_rows : ℕ
  pub node_rows : ℕ

-- what is due next: a head; or so many planes, then so many nodes, then the end.
-- Beside the counts: the root code, the last plane, the tables so far, and the trees that stand in them
pub data State : Type 0 where
  fresh : State
  busy : ℕ → ℕ → ℕ → Option Plane → List Plane → List Entry → List Sub → State

pub data Step : Type 0 where
  go : State → Step
  done : Tables → Step
  stop : ℕ → Step

-- the head: 3, then 6, then 8 (R.3, R.6, R.14)
abbrev pub in_rooms : Rooms → ℕ → ℕ → Bool
in_rooms s n m = leb n s.plane_rows and leb m s.node_rows

abbrev pub head_by : Bool → Bool → Bool → State → Step
head_by false b c s = stop 3
head_by true false c s = stop 6
head_by true true false s = stop 8
head_by true true true s = go s

unfoldable pub judge_head : Rooms → ℕ → ℕ → ℕ → Step
judge_head s n m r = head_by (leb n most_planes and leb m most_nodes) (root_ok m r) (in_rooms s n m) (busy n m r none [] [] [])

-- a plane: 4, then 5 (R.4, R.5)
abbrev pub follows : Option Plane → Plane → Bool
follows none p = true
follows (some q) p = before q p

abbrev pub plane_by : Option Fault → Bool → State → Step
plane_by (some f) b s = stop (fault_number f)
plane_by none false s = stop 5
plane_by none true s = go s

-- a node: 6
abbrev pub row_by : Option (List Sub) → (List Sub → State) → Step
row_by none s = stop 6
row_by (some st) s = go (s st)

-- the end: 5, then 6 (R.14)
abbrev pub end_by : Bool → Bool → Tables → Step
end_by false b s = stop 5
end_by true false s = stop 6
end_by true true s = done s

-- before all of these 1, then 2 for a frame of a kind or length not due (R.1, R.2)
module _ {A : Type 0} (no : ℕ → A) (o : ℕ → A) (h : ℕ → ℕ → ℕ → A) (p : Plane → A) (n : Entry → A) (e : A) where
  abbrev pub by_frame : Frame → A
  by_frame bad = no 1
  by_frame other = no 2
  by_frame (operation c) = o c
  by_frame (head i j r) = h i j r
  by_frame (plane q) = p q
  by_frame (node_row d) = n d
  by_frame end = e

abbrev pub head_due : Rooms → Frame → Step
head_due s f = by_frame stop (λ c. stop 2) (judge_head s) (λ p. stop 2) (λ e. stop 2) (stop 2) f

abbrev pub plane_due : (Plane → Step) → Frame → Step
plane_due k f = by_frame stop (λ c. stop 2) (λ n m r. stop 2) k (λ e. stop 2) (stop 2) f

abbrev pub node_due : (Entry → Step) → Frame → Step
node_due k f = by_frame stop (λ c. stop 2) (λ n m r. stop 2) (λ p. stop 2) k (stop 2) f

abbrev pub end_due : Step → Frame → Step
end_due k f = by_frame stop (λ c. stop 2) (λ n m r. stop 2) (λ p. stop 2) (λ e. stop 2) k f

unfoldable pub step : Rooms → State → Frame → Step
step s fresh f = head_due s f
step s (busy (suc n) m r l ps es st) f = plane_due (λ p. plane_by (fault p) (follows l p) (busy n m r (some p) (ps ++ (p ∷ [])) es st)) f
step s (busy zero (suc m) r l ps es st) f = node_due (λ e. row_by (add_row ps (length es) st e) (λ st'. busy zero m r l ps (es ++ (e ∷ [])) st')) f
step s (busy zero zero r l ps es st) f = end_due (end_by (all_used (length ps) es) (one_tree st) (tables ps es r)) f

-- ---- a solid, line by line; the first bad line decides (R.12)

-- the tables, the number of the next line and the lines left; or the refusal's number and its line
pub data Reading : Type 0 where
  read : Tables → ℕ → List Frame → Reading
  refused : ℕ → ℕ → Reading

abbrev pub next : Step → (State → Reading) → ℕ → List Frame → Reading
next (go s) k l fs = k s
next (done t) k l fs = read t (suc l) fs
next (stop n) k l fs = refused n l

-- R.13: missing text counts as a line after the last
unfoldable pub read_solid : Rooms → State → ℕ → List Frame → Reading
read_solid s c l [] = refused 2 l
read_solid s c l (f ∷ fs) = next (step s c f) (λ c'. read_solid s c' (suc l) fs) l fs

-- ---- a text

-- the tables, or the refusal's number and its line
pub data Verdict : Type 0 where
  accepted : Tables → Verdict
  refusal : ℕ → ℕ → Verdict

-- nothing may follow the end: 1, else 2
abbrev pub finish : Reading → Verdict
finish (read t l []) = accepted t
finish (read t l (f ∷ fs)) = refusal (by_frame (λ n. n) (λ c. 2) (λ n m r. 2) (λ p. 2) (λ e. 2) 2 f) l
finish (refused n l) = refusal n l

-- R.3, R.12: text length first; such a refusal has line 0
unfoldable pub judge : Rooms → List ℕ → Verdict
judge s t = cond (leb (length t) most_text) (finish (read_solid s fresh 1 (frames t))) (refusal 3 0)

-- ---- tables lent directly, judged as if written out and read (R.15)

-- Rows of 4 numbers and of 3. What is left over is one more frame of wrong length. A frame here holds numbers of any size, so one that cannot be written breaks the rule that it breaks
unfoldable pub plane_table : List ℤ → List Frame → List Frame
plane_table [] fs = fs
plane_table (a ∷ []) fs = other ∷ fs
plane_table (a ∷ b ∷ []) fs = other ∷ fs
plane_table (a ∷ b ∷ c ∷ []) fs = other ∷ fs
plane_table (a ∷ b ∷ c ∷ d ∷ l) fs = plane (record { x = a; y = b; z = c; w = d }) ∷ plane_table l fs

unfoldable pub node_table : List ℕ → List Frame → List Frame
node_table [] fs = fs
node_table (n ∷ []) fs = other ∷ fs
node_table (n ∷ f ∷ []) fs = other ∷ fs
node_table (n ∷ f ∷ b ∷ l) fs = node_row (entry n f b) ∷ node_table l fs

-- a solid as it is lent to a call; its counts are those of the tables, which are as large as they are
pub record Lent : Type 0 where
  pub planes : List ℤ
  pub nodes : List ℕ
  pub root : ℕ

unfoldable pub judge_lent : Lent → Verdict
judge_lent a = finish (read_solid (record { plane_rows = length a.planes / 4; node_rows = length a.nodes / 3 }) fresh 1
    (head (length a.planes / 4) (length a.nodes / 3) a.root ∷ plane_table a.planes (node_table a.nodes (end ∷ []))))

-- ---- the merge program's input: operation, A, B (R.7, R.16)

pub data MergeInput : Type 0 where
  order : ℕ → Tables → Tables → MergeInput
  order_refused : ℕ → ℕ → MergeInput

abbrev pub second : ℕ → Tables → Verdict → MergeInput
second o a (accepted b) = order o a b
second o a (refusal n l) = order_refused n l

abbrev pub first : Rooms → ℕ → Reading → MergeInput
first s o (read a l fs) = second o a (finish (read_solid s fresh l fs))
first s o (refused n l) = order_refused n l

unfoldable pub known : ℕ → Bool
known o = leb 1 o and leb o 3

abbrev pub with_operation : Rooms → Bool → ℕ → List Frame → MergeInput
with_operation s true o fs = first s o (read_solid s fresh 2 fs)
with_operation s false o fs = order_refused 7 1

unfoldable pub opening : Rooms → List Frame → MergeInput
opening s [] = order_refused 2 1
opening s (f ∷ fs) = by_frame (λ n. order_refused n 1) (λ o. with_operation s (known o) o fs) (λ n m r. order_refused 2 1) (λ p. order_refused 2 1) (λ e. order_refused 2 1) (order_refused 2 1) f

unfoldable pub judge_merge : Rooms → List ℕ → MergeInput
judge_merge s t = cond (leb (length t) most_text) (opening s (frames t)) (order_refused 3 0)

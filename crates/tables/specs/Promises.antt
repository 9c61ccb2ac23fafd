-- What the functions promise. An answer stands for document 01's value, or for its number (and line) of the refusal.
--     judged, judgement          a step and a verdict as the code has them
--     Ready, Pushes              what a row of nodes is given, and what becomes of the work table
--     PlanesJudged, NodesJudged  all rows of a table, or the first that is refused
--     Judges                     the public call
--     SolidOf                    the tables are those of a lawful tree
use Rattle.std.specs.Prelude.{◌≡◌, ⊤, Bool, false, cond, List, [], ◌∷◌, ℕ, ◌+◌, ◌*◌, ◌/◌, ◌%◌, ◌≤◌, ◌<◌, leb, eqb, ℤ, pos, length, get_or, replicate, Option as Maybe, Some, None, Result, Ok, Err}
use Rattle.std.proofs.Math.Option.{Option, none, some}
use Rattle.whole.specs.Tests.{◌or◌}
use Rattle.scope.specs.Planes.{fault}
use Rattle.scope.specs.Solids.{Tree, tables, tables_of, LawfulTree}
use Rattle.scope.specs.Limits.{stated}
use Rattle.scope.specs.Judging.{fresh, uses, Step, go, done, stop, follows, plane_by, end_by, Verdict, accepted, refusal, judge_lent}
use Rattle.theory.specs.Text.Counts.{Counted, counted, wrong, size_row}
use Rattle.theory.specs.Text.Lent.{lent, Flat}
use Rattle.tables.specs.Rows.{plane_at, entry_at, last_before, entries_to}
use Rattle.tables.specs.Work as work
use Rattle.tables.specs.declared.Solid.{Solid}
use Rattle.tables.specs.declared.Child.{Child}

-- ---- one row

-- the number of a refusal, or none
abbrev pub judged : Step → Result ⊤ ℕ
judged (go s) = Ok tt
judged (done a) = Ok tt
judged (stop n) = Err n

-- a row of the planes: 4, then 5
abbrev pub plane_judged : List ℤ → ℕ → Result ⊤ ℕ
plane_judged xs i = judged (plane_by (fault (plane_at xs i)) (follows (last_before xs i) (plane_at xs i)) fresh)

-- the end: 5, then 6
abbrev pub end_judged : Bool → Bool → Result ⊤ ℕ
end_judged b c = judged (end_by b c (tables [] [] 0))

-- the size of a child and the sizes left below it
abbrev pub counted_in : List ℤ → Maybe Child → Counted
counted_in w (Some c) = counted c.rows (work.stack w c.below)
counted_in w None = wrong

-- the size of a new tree on the sizes left below it
abbrev pub grown : List ℤ → Maybe Child → Option (List ℕ)
grown w (Some c) = some (c.rows ∷ work.stack w c.below)
grown w None = none

-- what row r of the nodes is given: the sizes of at most r trees, which have at most r rows
pub record Ready (ns : List ℕ) (n r : ℕ) (w : List ℤ) (depth : ℕ) : Type 0 where
  pub row : 3 * r + 2 < length ns
  pub few_rows : r < 1000
  pub few_planes : n ≤ 64
  pub room : 1064 ≤ length w
  pub deep : depth ≤ r
  pub sizes : work.total (work.stack w depth) ≤ r

-- a row that stands: its tree on top of the stack, its plane marked, and what is past both parts unchanged
pub record Stands (ns : List ℕ) (n r : ℕ) (w : List ℤ) (depth : ℕ) (w' : List ℤ) (d : ℕ) : Type 0 where
  pub row : size_row n r (work.stack w depth) (entry_at ns r) ≡ some (work.stack w' d)
  pub deep : d ≤ r + 1
  pub sizes : work.total (work.stack w' d) ≤ r + 1
  pub marks : (k : ℕ) → k < 64 → work.marked w' k ≡ (work.marked w k or eqb k (get_or ns (3 * r) 0))
  pub rest : (i : ℕ) → 1064 ≤ i → get_or w' i (pos 0) ≡ get_or w i (pos 0)

-- a row against the rules: 6, and nothing is changed
pub record Falls (ns : List ℕ) (n r : ℕ) (w : List ℤ) (depth : ℕ) (w' : List ℤ) (k : ℕ) : Type 0 where
  pub row : size_row n r (work.stack w depth) (entry_at ns r) ≡ none
  pub number : k ≡ 6
  pub same : w' ≡ w

-- what becomes of a row of the nodes
abbrev pub Pushes : List ℕ → ℕ → ℕ → List ℤ → ℕ → List ℤ → Result ℕ ℕ → Type 0
Pushes ns n r w depth w' (Ok d) = Stands ns n r w depth w' d
Pushes ns n r w depth w' (Err k) = Falls ns n r w depth w' k

-- ---- all rows

-- a step at its line
abbrev pub on_line : ℕ → Result ⊤ ℕ → Result ⊤ (ℕ × ℕ)
on_line l (Ok u) = Ok u
on_line l (Err k) = Err (k, l)

-- the counts of lent tables
abbrev pub counts : List ℤ → List ℕ → ℕ → Solid
counts xs ns r = record { planes = length xs / 4; nodes = length ns / 3; root = r }

pub record PlaneRefused (xs : List ℤ) (n k l : ℕ) : Type 0 where
  pub row : ℕ
  pub inside : row < n
  pub line : l ≡ 2 + row
  pub earlier : (i : ℕ) → i < row → plane_judged xs i ≡ Ok tt
  pub here : plane_judged xs row ≡ Err k

abbrev pub PlanesJudged : List ℤ → ℕ → Result ⊤ (ℕ × ℕ) → Type 0
PlanesJudged xs n (Ok u) = (i : ℕ) → i < n → plane_judged xs i ≡ Ok tt
PlanesJudged xs n (Err r) = PlaneRefused xs n r.0 r.1

-- i rows stand, and the planes marked are those that they use
pub record Standing (ns : List ℕ) (n i : ℕ) (w : List ℤ) (d : ℕ) : Type 0 where
  pub rows : work.runs ns n i ≡ some (work.stack w d)
  pub marks : (k : ℕ) → k < 64 → work.marked w k ≡ uses k (entries_to ns i)

-- room for the rows, and no plane marked yet
pub record NodesReady (ns : List ℕ) (s : Solid) (w : List ℤ) : Type 0 where
  pub rows : 3 * s.nodes ≤ length ns
  pub few_rows : s.nodes ≤ 1000
  pub few_planes : s.planes ≤ 64
  pub room : 1064 ≤ length w
  pub clear : (k : ℕ) → k < 64 → work.marked w k ≡ false

pub record NodeRefused (ns : List ℕ) (n m k l : ℕ) : Type 0 where
  pub row : ℕ
  pub inside : row < m
  pub line : l ≡ 2 + n + row
  pub number : k ≡ 6
  pub sizes : List ℕ
  pub earlier : work.runs ns n row ≡ some sizes
  pub here : size_row n row sizes (entry_at ns row) ≡ none

abbrev pub NodesJudged : List ℕ → Solid → List ℤ → Result ℕ (ℕ × ℕ) → Type 0
NodesJudged ns s w (Ok d) = Standing ns s.planes s.nodes w d
NodesJudged ns s w (Err r) = NodeRefused ns s.planes s.nodes r.0 r.1

-- the line after the nodes
abbrev pub close_judged : List ℕ → Solid → List ℤ → ℕ → Result ⊤ (ℕ × ℕ)
close_judged ns s w d = on_line (2 + s.planes + s.nodes) (cond (eqb (length ns % 3) 0) (end_judged (work.all_marked w s.planes) (leb d 1)) (Err 2))

-- ---- the calls

-- a verdict as the code has it: the counts of tables that are accepted are those lent
abbrev pub judgement : List ℤ → List ℕ → ℕ → Verdict → Result Solid (ℕ × ℕ)
judgement xs ns r (accepted a) = Ok (counts xs ns r)
judgement xs ns r (refusal k l) = Err (k, l)

-- R.8, R.12: a work table that is too short comes first, at line 0
abbrev pub judge_answer : ℕ → List ℤ → List ℕ → ℕ → Result Solid (ℕ × ℕ)
judge_answer n xs ns r = cond (leb stated n) (judgement xs ns r (judge_lent (lent xs ns r))) (Err (8, 0))

-- `judge`: the answer, and a work table of zeros whatever it is
pub record Judges (xs : List ℤ) (ns : List ℕ) (r : ℕ) (w w' : List ℤ) (j : Result Solid (ℕ × ℕ)) : Type 0 where
  pub exact : j ≡ judge_answer (length w) xs ns r
  pub zeros : w' ≡ replicate (length w) (pos 0)

-- the tables are those of a lawful tree
pub record SolidOf (xs : List ℤ) (ns : List ℕ) (r : ℕ) (t : Tree) : Type 0 where
  pub lawful : LawfulTree t
  pub flat : Flat (tables_of t) xs ns r

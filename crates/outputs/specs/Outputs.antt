-- The text of an answer.
--     in_room            the text of an answer's tables, if it has room, else 8
--     Refuses            a refusal, told of a text
--     Outcome            a text that was asked for, and what stands in the text lent for it
--     Gave               an answer, and its tables as a call left them
--     RowsIn, RowsLent   a solid's rows, lent
--     WriteIn, WriteTold the answer's text
use Rattle.std.specs.Prelude.{◌≡◌, cond, List, ℕ, ◌-◌, ◌*◌, ◌≤◌, leb, ℤ, pos, length, take, replicate, Result, Err}
use Rattle.scope.specs.Limits.{stated}
use Rattle.scope.specs.Solids.{Tables}
use Rattle.scope.specs.Text.{text}
use Rattle.scope.specs.Answers.{Answer, given, refused, plane_numbers, node_numbers, left}
use Rattle.theory.specs.Text.Trees.{LawfulTables}
use Rattle.tables.specs.declared.Solid.{Solid}
use Rattle.solids.specs.Writing.{wrote, itself}
use Rattle.results.specs.Results.{given_of}

abbrev pub in_room : ℕ → Answer Tables → Answer (List ℕ)
in_room room (given a) = cond (leb (length (text a)) room) (given (text a)) (refused 8)
in_room room (refused k) = refused k

-- the refusal, as a number or as the code has it, and a text of zeros
pub record Refuses {E : Type 0} (k : E) (out out' : List ℕ) (r : Result ℕ E) : Type 0 where
  pub number : r ≡ Err k
  pub text : out' ≡ replicate (length out) 0

pub record Outcome (answer : Answer (List ℕ)) (out out' : List ℕ) (r : Result ℕ ℕ) : Type 0 where
  pub told : r ≡ wrote answer
  pub text : out' ≡ left 0 (length out) itself answer

pub record Gave (answer : Answer Tables) (xs : List ℤ) (ns : List ℕ) (g : Result Solid ℕ) : Type 0 where
  pub told : g ≡ given_of answer
  pub planes : xs ≡ left (pos 0) (length xs) plane_numbers answer
  pub nodes : ns ≡ left 0 (length ns) node_numbers answer
  pub lawful : (a : Tables) → answer ≡ given a → LawfulTables a

pub record WriteIn (g : Result Solid ℕ) (xs : List ℤ) (ns : List ℕ) (w : List ℤ) : Type 0 where
  pub answer : Answer Tables
  pub gave : Gave answer xs ns g
  pub enough : stated ≤ length w

abbrev pub WriteTold : Result Solid ℕ → List ℤ → List ℕ → List ℕ → List ℕ → Result ℕ ℕ → Type 0
WriteTold g xs ns out out' r = (answer : Answer Tables) → Gave answer xs ns g → Outcome (in_room (length out) answer) out out' r

-- tables that have room for a solid's rows
pub record RowsIn (s : Solid) (xs : List ℤ) (ns : List ℕ) : Type 0 where
  pub planes : 4 * s.planes ≤ length xs
  pub nodes : 3 * s.nodes ≤ length ns
  pub few_planes : s.planes ≤ 64
  pub few_nodes : s.nodes ≤ 1000

-- its rows alone, and its root code
pub record RowsLent (s : Solid) (xs : List ℤ) (ns : List ℕ) (ys : List ℤ) (ms : List ℕ) (r : ℕ) : Type 0 where
  pub planes : ys ≡ take (4 * s.planes - 0) xs
  pub nodes : ms ≡ take (3 * s.nodes - 0) ns
  pub root : r ≡ s.root

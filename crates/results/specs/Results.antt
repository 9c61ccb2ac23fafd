-- What a call that gives a solid promises, in document 01's words.
--     Asked, Right       what is asked, a merge or a normal form, and which answer is right
--     rooms              the rows lent for the result
--     given_of           an answer of document 01 as the code's
--     Told               the public call: the answer that is right, the result tables and the work table whole
--     Held, Outcome, Judged, Wiped, ZerosIn   the same on the way
--     Step, Ran, Gives   the frame of the public call: what it gives of a step that puts a solid out
use Rattle.std.specs.Prelude.{◌≡◌, List, ℕ, ◌/◌, ◌≤◌, ◌<◌, ℤ, pos, length, replicate, Result, Ok, Err}
use Rattle.std.specs.Borrow.{MutBor}
use Rattle.scope.specs.Limits.{stated}
use Rattle.scope.specs.Solids.{Tables, tables}
use Rattle.scope.specs.Judging.{Rooms, Lent}
use Rattle.scope.specs.Answers.{Answer, given, refused, plane_numbers, node_numbers, filled, left, MergeAnswer, FormAnswer}
use Rattle.refusals.specs.declared.Refusal.{Refusal}
use Rattle.refusals.specs.declared.Refusal.TheVariants.{NoRoom}
use Rattle.tables.specs.declared.Solid.{Solid}

pub data Asked : Type 0 where
  merge_of : ℕ → Lent → Lent → Asked
  form_of : Lent → Asked

-- with a work table so long, and rooms for the result
abbrev pub Right : Asked → ℕ → Rooms → Answer Tables → Type 0
Right (merge_of o A B) work s = MergeAnswer work s o A B
Right (form_of A) work s = FormAnswer work s A

abbrev pub rooms : List ℤ → List ℕ → Rooms
rooms xs ns = record { plane_rows = length xs / 4; node_rows = length ns / 3 }

-- the counts of the tables and the root code, or the number of the refusal
abbrev pub given_of : Answer Tables → Result Solid ℕ
given_of (given (tables ps es r)) = Ok (record { planes = length ps; nodes = length es; root = r })
given_of (refused k) = Err k

-- ---- the public call

pub record Told (q : Asked) (xs xs' : List ℤ) (ns ns' : List ℕ) (w w' : List ℤ) (r : Result Solid ℕ) : Type 0 where
  pub answer : Answer Tables
  pub exact : Right q (length w) (rooms xs ns) answer
  pub told : r ≡ given_of answer
  pub planes : xs' ≡ left (pos 0) (length xs) plane_numbers answer
  pub nodes : ns' ≡ left 0 (length ns) node_numbers answer
  pub work : w' ≡ replicate (length w) (pos 0)

-- ---- on the way: what stands in the tables is told of an answer that is given; a refusal clears them

pub record Held (a : Tables) (xs : List ℤ) (ns : List ℕ) : Type 0 where
  pub planes : xs ≡ filled (pos 0) (length xs) (plane_numbers a)
  pub nodes : ns ≡ filled 0 (length ns) (node_numbers a)

pub record Outcome (answer : Answer Tables) (xs : List ℤ) (ns : List ℕ) (r : Result Solid ℕ) : Type 0 where
  pub told : r ≡ given_of answer
  pub held : (a : Tables) → answer ≡ given a → Held a xs ns

pub record Judged (q : Asked) (work : ℕ) (xs xs' : List ℤ) (ns ns' : List ℕ) (r : Result Solid ℕ) : Type 0 where
  pub answer : Answer Tables
  pub exact : Right q work (rooms xs ns) answer
  pub outcome : Outcome answer xs' ns' r

-- what was in the tables is gone
pub record Wiped (xs xs' : List ℤ) (ns ns' : List ℕ) : Type 0 where
  pub planes : xs' ≡ replicate (length xs) (pos 0)
  pub nodes : ns' ≡ replicate (length ns) 0

-- tables of zeros
pub record ZerosIn (xs : List ℤ) (ns : List ℕ) : Type 0 where
  pub planes_zero : xs ≡ replicate (length xs) (pos 0)
  pub nodes_zero : ns ≡ replicate (length ns) 0

-- ---- the frame of the public call

-- which answers a step may give, and what it may leave of the three tables lent to it
abbrev pub Step : Type 1
Step = MutBor (List ℤ) → MutBor (List ℕ) → MutBor (List ℤ) → Result Solid Refusal → MutBor (List ℤ) → MutBor (List ℕ) → MutBor (List ℤ) → Type 0

-- a step gave the answer, in tables of zeros; where it is a solid, what it left stands in the tables
pub record Ran (step : Step) (xs xs' : List ℤ) (ns ns' : List ℕ) (w : List ℤ) (r : Result Solid Refusal) : Type 0 where
  pub planes : MutBor (List ℤ)
  pub nodes : MutBor (List ℕ)
  pub work : MutBor (List ℤ)
  pub planes_left : MutBor (List ℤ)
  pub nodes_left : MutBor (List ℕ)
  pub work_left : MutBor (List ℤ)
  pub ran : step planes nodes work r planes_left nodes_left work_left
  pub zeros : Wiped xs planes.now ns nodes.now
  pub lent : work.now ≡ w
  pub solid : (s : Solid) → r ≡ Ok s → (xs' ≡ planes_left.now) × (ns' ≡ nodes_left.now)

pub record Gives (step : Step) (xs xs' : List ℤ) (ns ns' : List ℕ) (w w' : List ℤ) (r : Result Solid Refusal) : Type 0 where
  pub short : length w < stated → r ≡ Err NoRoom
  pub enough : stated ≤ length w → Ran step xs xs' ns ns' w r
  pub refusal : (e : Refusal) → r ≡ Err e → Wiped xs xs' ns ns'
  pub work : w' ≡ replicate (length w) (pos 0)

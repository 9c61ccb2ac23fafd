-- What the steps of the merge and of the normal form of a text promise.
--     WithTold, SolidIn, ResultIn, WorkIn, TablesIn, Holds   the answer, and the tables that are lent on the way
--     OrderIn, Merging, OrderMerged, FormIn, Forming, SolidFormed   a merge and a normal form of solids that stand in tables
use Rattle.std.specs.Prelude.{◌≡◌, List, ℕ, ◌≤◌, ℤ, pos, length, replicate, Result}
use Rattle.scope.specs.Limits.{stated}
use Rattle.scope.specs.Solids.{Tables}
use Rattle.scope.specs.Judging.{accepted}
use Rattle.scope.specs.Answers.{Answer, MergeBy, FormBy, program_rooms}
use Rattle.theory.specs.Text.Trees.{LawfulTables}
use Rattle.tables.specs.declared.Solid.{Solid}
use Rattle.inputs.specs.declared.Order.{Order}
use Rattle.inputs.specs.Orders.{HoldsSolid}
use Rattle.outputs.specs.Outputs.{in_room, Outcome}
use Rattle.texts.specs.Answers.{Job, AnswerTo}

pub record WithTold (job : Job) (t out out' : List ℕ) (r : Result ℕ ℕ) : Type 0 where
  pub answer : Answer (List ℕ)
  pub exact : AnswerTo job t (length out) answer
  pub outcome : Outcome answer out out' r

-- 64 plane rows and 1,000 node rows for a solid that is read
pub record SolidIn (ap : List ℤ) (an : List ℕ) : Type 0 where
  pub planes : length ap ≡ 256
  pub nodes : length an ≡ 3000

-- 128 plane rows and 1,000 node rows for the result, and enough work
pub record ResultIn (xs : List ℤ) (ns : List ℕ) (w : List ℤ) : Type 0 where
  pub planes : length xs ≡ 512
  pub nodes : length ns ≡ 3000
  pub enough : stated ≤ length w

pub record WorkIn (w : List ℤ) : Type 0 where
  pub enough : stated ≤ length w
  pub zeros : w ≡ replicate (length w) (pos 0)

-- tables for the operands and for the result, and a work table of zeros
pub record TablesIn (ap : List ℤ) (an : List ℕ) (bp : List ℤ) (bn : List ℕ) (xs : List ℤ) (ns : List ℕ) (w : List ℤ) : Type 0 where
  pub first : SolidIn ap an
  pub second : SolidIn bp bn
  pub result : ResultIn xs ns w
  pub zeros : w ≡ replicate (length w) (pos 0)

-- a lawful solid in tables
pub record Holds (s : Solid) (ap : List ℤ) (an : List ℕ) : Type 0 where
  pub is : Tables
  pub lawful : LawfulTables is
  pub held : HoldsSolid is s ap an

-- ---- a merge

pub record OrderIn (o : Order) (ap : List ℤ) (an : List ℕ) (bp : List ℤ) (bn : List ℕ) (xs : List ℤ) (ns : List ℕ) (w : List ℤ) : Type 0 where
  pub first : Holds o.a ap an
  pub second : Holds o.b bp bn
  pub result : ResultIn xs ns w

pub record Merging (op : ℕ) (a b : Tables) (out out' : List ℕ) (r : Result ℕ ℕ) : Type 0 where
  pub answer : Answer Tables
  pub exact : MergeBy program_rooms op (accepted a) (accepted b) answer
  pub outcome : Outcome (in_room (length out) answer) out out' r

abbrev pub OrderMerged : Order → List ℤ → List ℕ → List ℤ → List ℕ → List ℕ → List ℕ → Result ℕ ℕ → Type 0
OrderMerged o ap an bp bn out out' r = (a : Holds o.a ap an) (b : Holds o.b bp bn) → Merging o.op a.is b.is out out' r

-- ---- a normal form

pub record FormIn (s : Solid) (ap : List ℤ) (an : List ℕ) (xs : List ℤ) (ns : List ℕ) (w : List ℤ) : Type 0 where
  pub solid : Holds s ap an
  pub result : ResultIn xs ns w

pub record Forming (a : Tables) (out out' : List ℕ) (r : Result ℕ ℕ) : Type 0 where
  pub answer : Answer Tables
  pub exact : FormBy program_rooms (accepted a) answer
  pub outcome : Outcome (in_room (length out) answer) out out' r

abbrev pub SolidFormed : Solid → List ℤ → List ℕ → List ℕ → List ℕ → Result ℕ ℕ → Type 0
SolidFormed s ap an out out' r = (a : Holds s ap an) → Forming a.is out out' r

-- What the steps of reading an order promise.
--     LastIn, LastTold     a solid after which nothing may follow
--     after_operation      judging what stands below an operation
--     KnownIn, KnownTold   the operation and the two solids
use Rattle.std.specs.Prelude.{◌≡◌, List, ℕ, ◌≤◌, ℤ, pos, length, drop, replicate, Result, Ok, Err}
use Rattle.scope.specs.Solids.{Tables}
use Rattle.scope.specs.Text.{frames}
use Rattle.scope.specs.Judging.{fresh, read_solid, accepted, refusal, finish, MergeInput, order, order_refused, known, with_operation}
use Rattle.scope.specs.Answers.{operand_rooms}
use Rattle.tables.specs.declared.Solid.{Solid}
use Rattle.inputs.specs.declared.Order.{Order}
use Rattle.inputs.specs.Orders.{OrderIn, HoldsSolid}

-- ---- the last solid, from `from` on, where line l is

-- what is given: tables of zeros with room for every operand; the work table may hold anything
pub record LastIn (t : List ℕ) (from l : ℕ) (xs : List ℤ) (ns : List ℕ) (w : List ℤ) : Type 0 where
  pub inside : from ≤ length t
  pub line : l ≤ 65536
  pub plane_room : length xs ≡ 256
  pub node_room : length ns ≡ 3000
  pub work_room : 1064 ≤ length w
  pub planes : xs ≡ replicate (length xs) (pos 0)
  pub nodes : ns ≡ replicate (length ns) 0

pub record LastRead (t : List ℕ) (from l : ℕ) (s : Solid) (xs : List ℤ) (ns : List ℕ) : Type 0 where
  pub is : Tables
  pub held : HoldsSolid is s xs ns
  pub sound : finish (read_solid operand_rooms fresh l (frames (drop from t))) ≡ accepted is

abbrev pub LastTold : List ℕ → ℕ → ℕ → List ℤ → List ℕ → Result Solid (ℕ × ℕ) → Type 0
LastTold t from l xs ns (Ok s) = LastRead t from l s xs ns
LastTold t from l xs ns (Err (k, j)) = finish (read_solid operand_rooms fresh l (frames (drop from t))) ≡ refusal k j

-- ---- operation, A and B

-- an operation that stands on line 1, and the text from `from` on, where line 2 is
abbrev pub after_operation : List ℕ → ℕ → ℕ → MergeInput
after_operation t from op = with_operation operand_rooms (known op) op (frames (drop from t))

pub record KnownIn (t : List ℕ) (from : ℕ) (ap : List ℤ) (an : List ℕ) (bp : List ℤ) (bn : List ℕ) (w : List ℤ) : Type 0 where
  pub inside : from ≤ length t
  pub lent : OrderIn ap an bp bn w

-- x is what judging gives
pub record KnownHeld (x : MergeInput) (ap : List ℤ) (an : List ℕ) (bp : List ℤ) (bn : List ℕ) (op : ℕ) (s u : Solid) : Type 0 where
  pub first : Tables
  pub second : Tables
  pub judged : x ≡ order op first second
  pub first_held : HoldsSolid first s ap an
  pub second_held : HoldsSolid second u bp bn

abbrev pub KnownTold : MergeInput → List ℤ → List ℕ → List ℤ → List ℕ → Result Order (ℕ × ℕ) → Type 0
KnownTold x ap an bp bn (Ok o) = KnownHeld x ap an bp bn o.op o.a o.b
KnownTold x ap an bp bn (Err (k, l)) = x ≡ order_refused k l

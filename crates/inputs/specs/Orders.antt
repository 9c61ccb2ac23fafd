-- What reading an order promises, by scope's `judge_merge`.
--     OrderIn            tables of zeros with room for every operand
--     OrderHeld          the operation and the tables of the two solids, and where they stand
--     OrderTold          the order of the text, or its refusal
use Rattle.std.specs.Prelude.{◌≡◌, List, ℕ, ◌≤◌, ℤ, pos, length, Result, Ok, Err}
use Rattle.scope.specs.Solids.{Tables}
use Rattle.scope.specs.Judging.{order, order_refused, judge_merge}
use Rattle.scope.specs.Answers.{plane_numbers, node_numbers, filled, operand_rooms}
use Rattle.tables.specs.declared.Solid.{Solid}
use Rattle.lines.specs.Reading.{Blank, solid_of}
use Rattle.inputs.specs.declared.Order.{Order}

-- tables of 64 plane rows and 1,000 node rows, all zeros, and a work table of zeros
pub record OrderIn (ap : List ℤ) (an : List ℕ) (bp : List ℤ) (bn : List ℕ) (w : List ℤ) : Type 0 where
  pub a_planes : length ap ≡ 256
  pub a_nodes : length an ≡ 3000
  pub b_planes : length bp ≡ 256
  pub b_nodes : length bn ≡ 3000
  pub work_room : 1064 ≤ length w
  pub a_blank : Blank ap an w
  pub b_blank : Blank bp bn w

-- tables hold a solid's rows, then zeros
pub record HoldsSolid (a : Tables) (s : Solid) (xs : List ℤ) (ns : List ℕ) : Type 0 where
  pub counts : s ≡ solid_of a
  pub planes : xs ≡ filled (pos 0) (length xs) (plane_numbers a)
  pub nodes : ns ≡ filled 0 (length ns) (node_numbers a)

pub record OrderHeld (t : List ℕ) (ap : List ℤ) (an : List ℕ) (bp : List ℤ) (bn : List ℕ) (op : ℕ) (s u : Solid) : Type 0 where
  pub first : Tables
  pub second : Tables
  pub judged : judge_merge operand_rooms t ≡ order op first second
  pub first_held : HoldsSolid first s ap an
  pub second_held : HoldsSolid second u bp bn

abbrev pub OrderTold : List ℕ → List ℤ → List ℕ → List ℤ → List ℕ → Result Order (ℕ × ℕ) → Type 0
OrderTold t ap an bp bn (Ok o) = OrderHeld t ap an bp bn o.op o.a o.b
OrderTold t ap an bp bn (Err (k, l)) = judge_merge operand_rooms t ≡ order_refused k l

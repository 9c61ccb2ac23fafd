-- The answers of the calls as numbers: the number of the refusal, or 0, and what is counted, zeros after a refusal.
--     Counts, Counted                a solid's counts and root code, with the number
--     given_as, read_as              of a solid
--     told                           a number, and one thing that is told
--     written_as, section_as, place_as, point_as   of a text, of a section, of a point: 1 is IN, 2 is OUT, 3 is ON
use Rattle.std.specs.Prelude.{◌≡◌, ℕ, Option, Some, None, Result, Ok, Err}
use Rattle.tables.specs.declared.Solid.{Solid}
use Rattle.points.specs.declared.Place.{Place}
use Rattle.points.specs.declared.Place.TheVariants.{In, Out, On}

pub record Counts : Type 0 where
  pub number : ℕ
  pub planes : ℕ
  pub nodes : ℕ
  pub root : ℕ

abbrev refused : ℕ → Counts
refused k = record { number = k; planes = 0; nodes = 0; root = 0 }

abbrev pub given_as : Result Solid ℕ → Counts
given_as (Ok s) = record { number = 0; planes = s.planes; nodes = s.nodes; root = s.root }
given_as (Err k) = refused k

abbrev pub read_as : Result Solid (ℕ × ℕ) → Counts
read_as (Ok s) = given_as (Ok s)
read_as (Err (k, l)) = refused k

pub record Counted (c : Counts) (k p n r : ℕ) : Type 0 where
  pub number : k ≡ c.number
  pub planes : p ≡ c.planes
  pub nodes : n ≡ c.nodes
  pub root : r ≡ c.root

-- the number, and what is told: o after a refusal
abbrev pub told : {A : Type 0} → A → Result A ℕ → ℕ × A
told o (Ok x) = (0, x)
told o (Err k) = (k, o)

abbrev pub written_as : Result ℕ ℕ → ℕ × ℕ
written_as = told 0

abbrev pub section_as : Result (Option ℕ) ℕ → ℕ × ℕ
section_as (Ok (Some n)) = (0, n)
section_as (Ok None) = (0, 0)
section_as (Err k) = (k, 0)

abbrev pub place_as : Place → ℕ
place_as In = 1
place_as Out = 2
place_as On = 3

abbrev pub point_as : Result Place ℕ → ℕ × ℕ
point_as (Ok p) = (0, place_as p)
point_as (Err k) = (k, 0)

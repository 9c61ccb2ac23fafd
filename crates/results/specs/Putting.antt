-- The rows of a tree, put out as the tables of a solid.
--     RowsOf              what a walk left: a tree's rows with the numbers of the joined list, in a table of zeros; or 8
--     PutIn, PutTold      the solid that comes of them
use Rattle.std.specs.Prelude.{◌≡◌, List, ℕ, ◌≤◌, ℤ, pos, length, replicate, Result}
use Rattle.whole.specs.Members.{◌∈◌}
use Rattle.scope.specs.Planes.{Plane}
use Rattle.scope.specs.Solids.{Tree, planes}
use Rattle.scope.specs.Answers.{flat_planes, tree_answer}
use Rattle.theory.specs.Planes.Lists.{Ascending}
use Rattle.walks.specs.Standing.{list}
use Rattle.walks.specs.Putting.{Walked, Emitted}
use Rattle.tables.specs.declared.Solid.{Solid}
use Rattle.results.specs.Results.{rooms, Outcome}

-- an ascending list of at most 128 planes
pub record InOrder (xs : List ℤ) : Type 0 where
  pub table : xs ≡ flat_planes (list xs)
  pub order : Ascending (list xs)
  pub few : length (list xs) ≤ 128

pub record RowsOf (xs : List ℤ) (blank ns : List ℕ) (w : Walked) (s : Tree) : Type 0 where
  pub in_order : InOrder xs
  pub sub : (p : Plane) → p ∈ planes s → p ∈ list xs
  pub zero : blank ≡ replicate (length blank) 0
  pub long : length ns ≡ length blank
  pub emitted : Emitted (list xs) blank ns 0 s w

pub record PutIn (xs planes : List ℤ) (ns : List ℕ) (w : Walked) : Type 0 where
  pub blank : List ℕ
  pub tree : Tree
  pub rows : RowsOf xs blank ns w tree
  pub zeros : planes ≡ replicate (length planes) (pos 0)

abbrev pub PutTold : List ℤ → List ℤ → List ℤ → List ℕ → List ℕ → Walked → Result Solid ℕ → Type 0
PutTold xs planes planes' ns ns' w r = (blank : List ℕ) (s : Tree) → RowsOf xs blank ns w s → Outcome (tree_answer (rooms planes blank) s) planes' ns' r

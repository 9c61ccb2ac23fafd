-- Two solids in lent tables, and the room that a call needs.
--     SoundIn
use Rattle.std.specs.Prelude.{List, ℕ, ◌≤◌, ℤ, length}
use Rattle.scope.specs.Solids.{Tree}
use Rattle.tables.specs.declared.LentSolid.{LentSolid}
use Rattle.tables.specs.Promises.{SolidOf}
use Rattle.results.specs.Results.{ZerosIn}

-- two solids, tables of zeros, and room for a path
pub record SoundIn (a b : LentSolid) (xs : List ℤ) (ns : List ℕ) (path : List ℤ) : Type 0 where
  pub first : Tree
  pub first_solid : SolidOf a.planes.now a.nodes.now a.root first
  pub second : Tree
  pub second_solid : SolidOf b.planes.now b.nodes.now b.root second
  pub zeros : ZerosIn xs ns
  pub path_room : 1152 ≤ length path

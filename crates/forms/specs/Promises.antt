-- What the normal form promises, in document 01's words.
--     NormalTold             the public call: the one answer that the definitions give, the result tables and the work table whole
--     BothTold, SingleIn, SingleTold, JudgedTold   the same on the way, for an operation of two solids and for one
use Rattle.std.specs.Prelude.{◌≡◌, List, ℕ, ◌≤◌, ℤ, length, Result}
use Rattle.scope.specs.Solids.{Tree}
use Rattle.scope.specs.Cells.{box, Operation, operate}
use Rattle.scope.specs.Normal.{both, Normal, NormalForm}
use Rattle.scope.specs.Answers.{tree_answer}
use Rattle.theory.specs.Text.Lent.{lent}
use Rattle.tables.specs.declared.LentSolid.{LentSolid}
use Rattle.tables.specs.declared.Solid.{Solid}
use Rattle.tables.specs.Promises.{SolidOf}
use Rattle.results.specs.Results.{form_of, rooms, Told, Outcome, Judged, ZerosIn}

abbrev pub NormalTold : List ℤ → List ℕ → ℕ → List ℤ → List ℤ → List ℕ → List ℕ → List ℤ → List ℤ → Result Solid ℕ → Type 0
NormalTold ap an ar xs xs' ns ns' w w' r = Told (form_of (lent ap an ar)) xs xs' ns ns' w w' r

-- ---- on the way

abbrev pub BothTold : Operation → LentSolid → LentSolid → List ℤ → List ℤ → List ℕ → List ℕ → Result Solid ℕ → Type 0
BothTold o a b xs xs' ns ns' r = (A B s : Tree) → SolidOf a.planes.now a.nodes.now a.root A → SolidOf b.planes.now b.nodes.now b.root B → Normal (both (operate o) A B) box s → Outcome (tree_answer (rooms xs ns) s) xs' ns' r

-- a solid, tables of zeros, and room for a path
pub record SingleIn (a : LentSolid) (xs : List ℤ) (ns : List ℕ) (path : List ℤ) : Type 0 where
  pub tree : Tree
  pub solid : SolidOf a.planes.now a.nodes.now a.root tree
  pub zeros : ZerosIn xs ns
  pub path_room : 1152 ≤ length path

abbrev pub SingleTold : LentSolid → List ℤ → List ℤ → List ℕ → List ℕ → Result Solid ℕ → Type 0
SingleTold a xs xs' ns ns' r = (A s : Tree) → SolidOf a.planes.now a.nodes.now a.root A → NormalForm A s → Outcome (tree_answer (rooms xs ns) s) xs' ns' r

abbrev pub JudgedTold : ℕ → LentSolid → List ℤ → List ℤ → List ℕ → List ℕ → Result Solid ℕ → Type 0
JudgedTold work a xs xs' ns ns' r = Judged (form_of (lent a.planes.now a.nodes.now a.root)) work xs xs' ns ns' r

-- What the merge promises, in document 01's words.
--     MergeTold              the public call: the one answer that the definitions give, the result tables and the work table whole
--     SoundTold, JudgedTold  the same on the way
use Rattle.std.specs.Prelude.{◌≡◌, List, ℕ, ℤ, Result}
use Rattle.scope.specs.Solids.{Tree}
use Rattle.scope.specs.Cells.{Operation, Merged}
use Rattle.scope.specs.Answers.{tree_answer}
use Rattle.theory.specs.Text.Lent.{lent}
use Rattle.tables.specs.declared.LentSolid.{LentSolid}
use Rattle.tables.specs.declared.Solid.{Solid}
use Rattle.tables.specs.Promises.{SolidOf}
use Rattle.results.specs.Results.{merge_of, rooms, Told, Outcome, Judged}

abbrev pub MergeTold : ℕ → List ℤ → List ℕ → ℕ → List ℤ → List ℕ → ℕ → List ℤ → List ℤ → List ℕ → List ℕ → List ℤ → List ℤ → Result Solid ℕ → Type 0
MergeTold op ap an ar bp bn br xs xs' ns ns' w w' r = Told (merge_of op (lent ap an ar) (lent bp bn br)) xs xs' ns ns' w w' r

-- ---- on the way

abbrev pub SoundTold : Operation → LentSolid → LentSolid → List ℤ → List ℤ → List ℕ → List ℕ → Result Solid ℕ → Type 0
SoundTold o a b xs xs' ns ns' r = (A B s : Tree) → SolidOf a.planes.now a.nodes.now a.root A → SolidOf b.planes.now b.nodes.now b.root B → Merged o A B s → Outcome (tree_answer (rooms xs ns) s) xs' ns' r

abbrev pub JudgedTold : ℕ → ℕ → LentSolid → LentSolid → List ℤ → List ℤ → List ℕ → List ℕ → Result Solid ℕ → Type 0
JudgedTold work op a b xs xs' ns ns' r = Judged (merge_of op (lent a.planes.now a.nodes.now a.root) (lent b.planes.now b.nodes.now b.root)) work xs xs' ns ns' r

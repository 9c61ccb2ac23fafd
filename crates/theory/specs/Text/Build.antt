-- The tree of tables: rows are added one by one, and the last tree is the root's. Only tables that are accepted have one that means something; `tables_tree` says that it is theirs.
use Rattle.std.specs.Prelude.{cond, List, [], ◌∷◌, ℕ, suc, eqb}
use Rattle.std.proofs.Math.Option.{Option, none, some}
use Rattle.scope.specs.Planes.{Plane}
use Rattle.scope.specs.Solids.{IN, OUT, Tree, leaf, Entry, Tables, tables}
use Rattle.scope.specs.Judging.{Sub, tree, add_row}

abbrev pub build_on : Option (List Sub) → (List Sub → Option (List Sub)) → Option (List Sub)
build_on (some st) k = k st
build_on none k = none

unfoldable pub build : List Plane → ℕ → List Sub → List Entry → Option (List Sub)
build ps r st [] = some st
build ps r st (e ∷ es) = build_on (add_row ps r st e) (λ st'. build ps (suc r) st' es)

abbrev pub root_tree : ℕ → List Sub → Tree
root_tree r [] = cond (eqb r 65535) (leaf IN) (leaf OUT)
root_tree r (t ∷ st) = tree t

abbrev pub root_of : ℕ → Option (List Sub) → Tree
root_of r (some st) = root_tree r st
root_of r none = leaf OUT

unfoldable pub tree_of : Tables → Tree
tree_of (tables ps es r) = root_of r (build ps 0 [] es)

-- The merge of two sound solids, from the answers of its parts.
--     walk_in       what the walk is given
--     merged_rows   what it leaves: the rows of the merged tree
--     put_in        and these are put out
use mathlib.Core.Path.{◌≡◌, refl}
use mathlib.Core.List.{List}
use Prim.Native.Nat.{ℕ, ◌*◌}
use native.Mathlib.Omega.{arith}
use denote.Ref.{Bor}
use lib.IntN.{ℤ}
use lib.ListN.{length, take}
use Rattle.std.specs.Prelude.{None}
use Rattle.scope.specs.Solids.{Tree}
use Rattle.scope.specs.Cells.{box, Merged}
use Rattle.theory.specs.Theorems.{merge, merge_planes}
use Rattle.tables.specs.declared.LentSolid.{LentSolid}
use Rattle.tables.specs.Promises.{SolidOf}
use Rattle.cells.specs.Paths.{at_box}
use Rattle.lists.specs.declared.JoinedList.{JoinedList}
use Rattle.lists.specs.Lists.{JoinTold}
use Rattle.walks.specs.declared.Turn.{Turn}
use Rattle.walks.specs.declared.operations.Operation as operations
use Rattle.walks.specs.Marks.{operation_of}
use Rattle.walks.specs.Putting.{Walked}
use Rattle.walks.specs.Walks.{SideIn, Did}
use Rattle.results.specs.Putting.{RowsOf, PutIn}
use Rattle.results.specs.Operands.{SoundIn}
use Rattle.results.proofs.Operands.{stands_a, stands_b, joined_in_order, joined_has, both_rows, ground_in}

module _ (op : operations.Operation) {a b : LentSolid} {xs : List ℤ} {ns : List ℕ} {path : List ℤ} (h : SoundIn a b xs ns path) {l : JoinedList} (j : JoinTold a.planes.now b.planes.now l) (list : Bor (List ℤ)) (e : list.now ≡ take (4 * l.count) l.planes) (numbers : Bor (List ℕ)) (f : numbers.now ≡ l.numbers) where
  abbrev turn : Turn
  turn = record { op = op; root = b.root; above = None }

  pub walk_in : SideIn (both_rows a b list numbers) turn path 0 ns 0 a.root
  walk_in =
      let s = h.first_solid in
      let u = h.second_solid in
      record {
        grounds = ground_in h j e refl;
        here = record { tree = h.first; stands = stands_a s u j e f; second = h.second; second_stands = stands_b s u j e f; cell = box; on = at_box };
        room = record { rows = omega arith; few = omega arith };
      }

  module _ {path' : List ℤ} {ns' : List ℕ} {z : Walked} (d : Did (both_rows a b list numbers) turn path path' 0 ns ns' 0 a.root z) (en : length ns' ≡ length ns) where
    pub merged_rows : {A B s : Tree} → SolidOf a.planes.now a.nodes.now a.root A → SolidOf b.planes.now b.nodes.now b.root B → Merged (operation_of op) A B s → RowsOf list.now ns ns' z s
    merged_rows {A} {B} {s} u v w = record {
      in_order = joined_in_order u v j e f;
      sub = λ p m. joined_has u v j e f p (merge_planes (operation_of op) u.lawful v.lawful w p m);
      zero = h.zeros.nodes_zero;
      long = en;
      emitted = d.emitted A B s box (stands_a u v j e f) (stands_b u v j e f) at_box w;
    }

    pub put_in : PutIn list.now xs ns' z
    put_in =
        let s = merge (operation_of op) h.first_solid.lawful h.second_solid.lawful in
        record { blank = ns; tree = s.0; rows = merged_rows h.first_solid h.second_solid s.1; zeros = h.zeros.planes_zero }

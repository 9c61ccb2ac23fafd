-- The normal form of an operation of two sound solids, from the answers of its parts.
--     borders_in, boundary_few   what the listing of the boundary planes is given, and how many they are
--     cell_in              what the form of the box is given
--     form_rows, put_in    what it leaves: the rows of the form; and these are put out
use mathlib.Core.Path.{◌≡◌, refl, sym, subst}
use mathlib.Core.List.{List}
use Prim.Native.Nat.{ℕ, ◌*◌, ◌≤◌}
use native.Mathlib.Omega.{arith}
use denote.Ref.{Bor}
use lib.IntN.{ℤ}
use lib.ListN.{length, take}
use Rattle.scope.specs.Solids.{Tree}
use Rattle.scope.specs.Cells.{box, operate}
use Rattle.scope.specs.Normal.{Normal}
use Rattle.theory.specs.Theorems.{form_both}
use Rattle.theory.specs.Forms.Normal.{normal_planes}
use Rattle.tables.specs.declared.LentSolid.{LentSolid}
use Rattle.tables.specs.Promises.{SolidOf}
use Rattle.cells.specs.Paths.{at_box}
use Rattle.lists.specs.declared.JoinedList.{JoinedList}
use Rattle.lists.specs.Lists.{JoinTold}
use Rattle.walks.specs.declared.rows.Operands.{Operands}
use Rattle.walks.specs.declared.operations.Operation as operations
use Rattle.walks.specs.Marks.{operation_of}
use Rattle.walks.specs.Putting.{Walked}
use Rattle.borders.specs.declared.Pair.{Pair}
use Rattle.borders.specs.Bounded.{PairIs, pair_space, Bounded}
use Rattle.borders.specs.Borders.{BordersIn, BordersTold}
use Rattle.splits.specs.Splits.{Given, CellIn, Formed}
use Rattle.results.specs.Putting.{InOrder, RowsOf, PutIn}
use Rattle.results.specs.Operands.{SoundIn}
use Rattle.results.proofs.Operands.{stands_a, stands_b, joined_in_order, joined_has, joined_from, both_rows, ground_in}

module _ (op : operations.Operation) {a b : LentSolid} {xs : List ℤ} {ns : List ℕ} {path : List ℤ} (h : SoundIn a b xs ns path) {l : JoinedList} (j : JoinTold a.planes.now b.planes.now l) (list : Bor (List ℤ)) (e : list.now ≡ take (4 * l.count) l.planes) (numbers : Bor (List ℕ)) (f : numbers.now ≡ l.numbers) where
  abbrev rows : Operands
  rows = both_rows a b list numbers

  abbrev pair : Pair
  pair = record { op = op; ar = a.root; br = b.root }

  pair_is : {A B : Tree} → SolidOf a.planes.now a.nodes.now a.root A → SolidOf b.planes.now b.nodes.now b.root B → PairIs rows pair A B
  pair_is u v = record { first_stands = stands_a u v j e f; second_stands = stands_b u v j e f }

  order : InOrder list.now
  order = joined_in_order h.first_solid h.second_solid j e f

  pub borders_in : {bs : List ℕ} → 128 ≤ length bs → BordersIn rows pair path bs
  borders_in room = record {
    grounds = ground_in h j e refl;
    order = order.order;
    tree_a = h.first;
    tree_b = h.second;
    pair_is = pair_is h.first_solid h.second_solid;
    members = joined_from h.first_solid h.second_solid j e f;
    room = room;
  }

  pub boundary_few : {bs' : List ℕ} {k : ℕ} → BordersTold rows pair bs' k → k ≤ 128
  boundary_few q = omega (arith, q.few, order.few)

  module _ {bs' : List ℕ} {k : ℕ} (q : BordersTold rows pair bs' k) {bs : List ℕ} (ek : bs ≡ take k bs') {path' : List ℤ} where
    box_given : {A B : Tree} → SolidOf a.planes.now a.nodes.now a.root A → SolidOf b.planes.now b.nodes.now b.root B → Given rows bs pair path' 0 0 A B box
    box_given {A} {B} u v =
        let p = pair_is u v in
        let d = subst (Bounded (pair_space pair A B) list.now) (sym ek) (q.bounded A B p (joined_from u v j e f)) in
        record { stood = record { pair = p; on = at_box }; bounded = d; rest = λ p x y. d.all p x }

    pub cell_in : length path' ≡ length path → CellIn rows bs pair path' 0 ns 0 0
    cell_in ep = record { grounds = ground_in h j e ep; ordered = order.order; tree_a = h.first; tree_b = h.second; cell = box; given = box_given h.first_solid h.second_solid; room = record { rows = omega arith; few = omega arith } }

    module _ {path'' : List ℤ} {ns' : List ℕ} {z : Walked} (d : Formed rows bs pair path' path'' 0 ns ns' 0 0 z) (en : length ns' ≡ length ns) where
      pub form_rows : (A B s : Tree) → SolidOf a.planes.now a.nodes.now a.root A → SolidOf b.planes.now b.nodes.now b.root B → Normal (pair_space pair A B) box s → RowsOf list.now ns ns' z s
      form_rows A B s u v w = record {
        in_order = joined_in_order u v j e f;
        sub = λ p m. joined_has u v j e f p (normal_planes (pair_space pair A B) w p m).member;
        zero = h.zeros.nodes_zero;
        long = en;
        emitted = d.emitted A B s box (box_given u v) w;
      }

      pub put_in : PutIn list.now xs ns' z
      put_in =
          let w = form_both (operate (operation_of op)) h.first_solid.lawful h.second_solid.lawful in
          record { blank = ns; tree = w.0; rows = form_rows h.first h.second w.0 h.first_solid h.second_solid w.1; zeros = h.zeros.planes_zero }

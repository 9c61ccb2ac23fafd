-- The mark of a cell, told by the merge in it, which has no room for a row.
--     on_within                 the cell of a path is within the box
--     kind_done, kind_refused   a mark is that of a uniform cell, and a refusal means a mixed one
--     mark_done, mark_refused   so of what the code answers
use mathlib.Core.Path.{◌≡◌, refl, sym, ap, subst}
use mathlib.Core.Bool.{true, false}
use mathlib.Core.List.{List}
use Prim.Native.Nat.{ℕ, ◌≤◌}
use native.Mathlib.Omega.{arith}
use lib.IntN.{ℤ}
use lib.ListN.{length}
use Rattle.std.specs.Prelude.{Option, Some, None, Result, Ok, Err}
use Rattle.std.specs.Result.{result_ok}
use Rattle.whole.specs.Tests.{differ}
use Rattle.refusals.specs.declared.Refusal.{Refusal}
use Rattle.refusals.specs.Numbers.{numbered}
use Rattle.scope.specs.Planes.{Plane, Point, Lawful}
use Rattle.scope.specs.Solids.{Tree, rows, code}
use Rattle.scope.specs.Cells.{Inside, box, MergedIn, operate}
use Rattle.theory.specs.Planes.Lawful.{lawful_nonzero}
use Rattle.theory.specs.Planes.General.{Nonzero}
use Rattle.theory.specs.Cells.Box.{tail}
use Rattle.theory.specs.Cells.Reached.{Cell, whole, ahead, behind, decided}
use Rattle.theory.specs.Cells.Walk.{EachPlane, merged_some}
use Rattle.theory.specs.Cells.Uniform as theory
use Rattle.theory.specs.Cells.Uniform.{Split, in_out, out_in, under_front, under_back, one, two, merged_kind, leaf_uniform, split_mixed}
use Rattle.cells.specs.Paths.{OnPath, at_box, below}
use Rattle.walks.specs.declared.Turn.{Turn}
use Rattle.walks.specs.declared.rows.Operands.{Operands}
use Rattle.walks.specs.Marks.{operation_of}
use Rattle.walks.specs.Standing.{list, Stands}
use Rattle.walks.specs.Putting.{Walked as Answer, Emitted}
use Rattle.walks.specs.Walks.{In, Did}
use Rattle.walks.proofs.Emits.{got, lost}
use Rattle.walks.proofs.Ways.{on_inside}
use Rattle.walks.specs.Walks.{Ground}
use Rattle.borders.specs.declared.Pair.{Pair}
use Rattle.borders.specs.Bounded.{pair_space}
use Rattle.borders.proofs.Rows.{tree_lawful}
use Rattle.splits.specs.Splits.{Stood, MarkIs, is_uniform, is_mixed, MarkTold}

-- ---- a cell on a path

on_cell : {xs path : List ℤ} {d : ℕ} {c : List Plane} → OnPath (In xs) path d c → Cell Lawful c
on_cell at_box = whole
on_cell (below h true g q e w l) = ahead q.lawful (on_cell h)
on_cell (below h false g q e w l) = behind q.lawful (on_cell h)

pub on_within : {xs path : List ℤ} {d : ℕ} {c : List Plane} → OnPath (In xs) path d c → (X : Point) → Inside c X → Inside box X
on_within at_box X i = i
on_within (below h s g q e w l) X i = on_within h X (tail i)

-- ---- the mark

split_rows : {r : Tree} → Split r → 1 ≤ rows r
unfolding rows
split_rows in_out = omega arith
split_rows out_in = omega arith
split_rows (under_front s) = omega arith
split_rows (under_back s) = omega arith

abbrev turn_of : Pair → Turn
turn_of t = record { op = t.op; root = t.br; above = None }

module _ {o : Operands} {t : Pair} {path : List ℤ} {depth : ℕ} where
  module _ (g : Ground o.planes.now path) {A B : Tree} {c : List Plane} (s : Stood o t path depth A B c) where
    lawful : {ns : List ℕ} {k e : ℕ} {u : Tree} → Stands o.planes.now o.numbers.now ns k e u → EachPlane Lawful u
    lawful = tree_lawful g.lawful

    thick : {ns : List ℕ} {k e : ℕ} {u : Tree} → Stands o.planes.now o.numbers.now ns k e u → EachPlane Nonzero u
    thick x = record { each = λ p m. lawful_nonzero ((lawful x).each p m) }

    -- the merge in the cell
    merged : (r : Tree) × MergedIn (operate (operation_of t.op)) c A B r
    merged = let X = on_inside s.on in merged_some (operate (operation_of t.op)) B Lawful (λ p l. lawful_nonzero l) decided (lawful s.pair.second_stands) A c X.0 (lawful s.pair.first_stands) (on_cell s.on) X.1

    -- its tree was put out into a table of one number: a leaf has no rows, and any other tree has one at least
    by_done : {r : Tree} {out out' : List ℕ} {z : Answer} {m n : ℕ} → MergedIn (operate (operation_of t.op)) c A B r → length out ≡ 1 → Emitted (list o.planes.now) out out' 0 r z → z ≡ Ok (m, n) → theory.Kind r → MarkIs (pair_space t A B) c (Some m)
    unfolding code
    by_done w l e f (one m) = subst (λ m. MarkIs (pair_space t A B) c (Some m)) (sym (got f e).code_is) (is_uniform m (leaf_uniform (operate (operation_of t.op)) (thick s.pair.first_stands) (thick s.pair.second_stands) w))
    by_done w l e f (two d) = absurd (omega (arith, l, split_rows d, (got f e).within.rows))

    by_refused : {r : Tree} {out out' : List ℕ} {z : Answer} {n : ℕ} → MergedIn (operate (operation_of t.op)) c A B r → Emitted (list o.planes.now) out out' 0 r z → z ≡ Err n → theory.Kind r → MarkIs (pair_space t A B) c None
    unfolding rows
    by_refused w e f (one m) = absurd (lost f e (record { rows = omega arith; few = omega arith }))
    by_refused w e f (two d) = is_mixed (split_mixed (operate (operation_of t.op)) (thick s.pair.first_stands) (thick s.pair.second_stands) w d)

  module _ (g : Ground o.planes.now path) {path' : List ℤ} {out out' : List ℕ} (l : length out ≡ 1) where
    put_out : {z : Answer} → Did o (turn_of t) path path' depth out out' 0 t.ar z → {A B : Tree} {c : List Plane} (s : Stood o t path depth A B c) → Emitted (list o.planes.now) out out' 0 (merged g s).0 z
    put_out d {A} {B} {c} s = d.emitted A B (merged g s).0 c s.pair.first_stands s.pair.second_stands s.on (merged g s).1

    -- whatever the walk answers
    pub kind_done : {z : Answer} → Did o (turn_of t) path path' depth out out' 0 t.ar z → {m n : ℕ} → z ≡ Ok (m, n) → MarkTold o t path path' depth (Some m)
    kind_done d f = record { kept = record { rows = d.kept }; told = λ A B c s. by_done g s (merged g s).1 l (put_out d s) f (merged_kind (operate (operation_of t.op)) B (merged g s).1) }

    pub kind_refused : {z : Answer} → Did o (turn_of t) path path' depth out out' 0 t.ar z → {n : ℕ} → z ≡ Err n → MarkTold o t path path' depth None
    kind_refused d f = record { kept = record { rows = d.kept }; told = λ A B c s. by_refused g s (merged g s).1 (put_out d s) f (merged_kind (operate (operation_of t.op)) B (merged g s).1) }

    -- as the code answers
    pub mark_done : (r : Result (ℕ × ℕ) Refusal) {m n : ℕ} → Did o (turn_of t) path path' depth out out' 0 t.ar (numbered r) → result_ok r ≡ Some (m, n) → MarkTold o t path path' depth (Some m)
    mark_done (Ok p) {m} {n} d e =
        let i : p ≡ (m, n) = cc in
        kind_done d (ap Ok i)
    mark_done (Err k) d e = differ (cc)

    pub mark_refused : (r : Result (ℕ × ℕ) Refusal) {y : Option ℕ} → Did o (turn_of t) path path' depth out out' 0 t.ar (numbered r) → result_ok r ≡ None → y ≡ None → MarkTold o t path path' depth y
    mark_refused (Ok p) d e i = differ (cc)
    mark_refused (Err k) d e i = rw i (kind_refused d refl)

-- `tables::grow` meets its contract. The back child is taken first, and the front child from what it leaves; together they have at most a thousand rows. Assumes nothing.
use mathlib.Core.Path.{◌≡◌, sym, ap, ◌∙◌}
use Prim.Native.Nat.{ℕ, suc, ◌+◌, ◌-◌, ◌≤◌}
use native.Mathlib.Omega.{arith}
use mathlib.Core.List.{List, ◌∷◌}
use mathlib.Core.Option.{some}
use lib.IntN.{ℤ}
use lib.ListN.{length, take}
use Rattle.std.specs.Prelude.{Option as Maybe, Some, None}
use Rattle.std.proofs.lemmas.List.{length-take-le}
use Rattle.theory.specs.Text.Counts.{counted, size_child, size_back, size_front}
use Rattle.tables.specs.Work.{stack, sizes_in, total}
use Rattle.tables.specs.Promises.{counted_in}
use Rattle.tables.specs.declared.Child.{Child}
use Rattle.tables.proofs.Stacks.{child_left, sizes_take, child_take}
use Rattle.tables.proofs.grow.Goals as goal

module _ (ts : List ℤ) (r front back : ℕ) {due : ℕ} (b : Child) (u : due ≡ r - 1) (h : size_child due back (sizes_in ts) ≡ counted b.rows (stack ts b.below)) where
  -- what the back child leaves
  left : (b.rows + total (stack ts b.below) ≤ total (sizes_in ts)) × (b.below ≤ length ts)
  left = child_left due back ts (length ts) b.rows b.below h

  -- the front child, from what the back child leaves
  fronted : {j : ℕ} (o : Maybe Child) → j ≡ due - b.rows → size_child j front (sizes_in (take b.below ts)) ≡ counted_in (take b.below ts) o → size_back r front (size_child (r - 1) back (sizes_in ts)) ≡ size_front b.rows (counted_in ts o)
  fronted {j} o e k =
      ap (λ i. size_back r front (size_child i back (sizes_in ts))) (sym u) ∙ ap (size_back r front) h
      ∙ ap (λ i. size_front b.rows (size_child (i - b.rows) front (stack ts b.below))) (sym u)
      ∙ ap (size_front b.rows) (ap (λ i. size_child i front (stack ts b.below)) (sym e) ∙ child_take ts b.below left.1 j front o k)

  -- both have together at most as many rows as stand
  both : (j : ℕ) (f : Child) → total (sizes_in ts) ≤ 1000 → size_child j front (sizes_in (take b.below ts)) ≡ counted f.rows (stack (take b.below ts) f.below) → f.rows + b.rows ≤ 1000
  both j f q k =
      let m = child_left j front (take b.below ts) (length (take b.below ts)) f.rows f.below k in
      omega (arith, q, left.0, m.0, ap total (sizes_take ts b.below left.1))

pub slice_bounds-take_child-end : goal.slice_bounds-take_child-end
slice_bounds-take_child-end c =
    let a = c.args in
    let b = c.in_ok-b.b in
    omega (arith, length-take-le b.below a.trees.now (left a.trees.now a.r a.front a.back b c.saturating_sub-due.ensures c.in_ok-b.ensures).1)

pub returns-in_err-f : goal.returns-in_err-f
returns-in_err-f c =
    let a = c.args in
    rw c.from_residual-in_err-f.ensures (fronted a.trees.now a.r a.front a.back c.in_ok-b.b c.saturating_sub-due.ensures c.in_ok-b.ensures None c.saturating_sub.ensures c.in_err-f.ensures)

pub overflow_add-result : goal.overflow_add-result
overflow_add-result c =
    let a = c.args in
    record { fits = omega (arith, both a.trees.now a.r a.front a.back c.in_ok-b.b c.saturating_sub-due.ensures c.in_ok-b.ensures _ c.in_ok-f.f c.requires c.in_ok-f.ensures) }

pub overflow_add-result-2 : goal.overflow_add-result-2
overflow_add-result-2 c =
    let a = c.args in
    record { fits = omega (arith, both a.trees.now a.r a.front a.back c.in_ok-b.b c.saturating_sub-due.ensures c.in_ok-b.ensures _ c.in_ok-f.f c.requires c.in_ok-f.ensures) }

pub returns : goal.returns
returns c =
    let a = c.args in
    let f = c.in_ok-f.f in
    let e : suc (f.rows + c.in_ok-b.b.rows) ≡ f.rows + c.in_ok-b.b.rows + 1 = omega arith in
    fronted a.trees.now a.r a.front a.back c.in_ok-b.b c.saturating_sub-due.ensures c.in_ok-b.ensures (Some f) c.saturating_sub.ensures c.in_ok-f.ensures
    ∙ ap (λ j. some (j ∷ stack a.trees.now f.below)) e

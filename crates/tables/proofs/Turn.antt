-- One row more, and what stands after it.
use mathlib.Core.Path.{refl, sym, ap, ◌∙◌}
use mathlib.Core.List.{List}
use Prim.Native.Nat.{ℕ, ◌+◌, ◌*◌}
use native.Mathlib.Numerals.{add-one}
use lib.Dec.{eqb}
use lib.IntN.{ℤ}
use lib.ListN.{get_or}
use Rattle.whole.specs.Tests.{◌or◌}
use Rattle.scope.specs.Judging.{uses}
use Rattle.theory.specs.Text.Uses.{uses_end}
use Rattle.theory.specs.Text.Counts.{size_row}
use Rattle.tables.specs.Rows.{entry_at, entries_to}
use Rattle.tables.specs.Work.{stack, runs, run_on}
use Rattle.tables.specs.Promises.{Stands, Standing, NodesReady}
use Rattle.tables.specs.declared.Solid.{Solid}

-- no row stands yet
pub none_standing : {ns : List ℕ} {s : Solid} {w : List ℤ} → NodesReady ns s w → Standing ns s.planes 0 w 0
unfolding runs stack uses entries_to
none_standing h = record { rows = refl; marks = h.clear }

-- a row that stands
pub row_standing : {ns : List ℕ} {n i : ℕ} {w : List ℤ} {d : ℕ} {w' : List ℤ} {e : ℕ} → Standing ns n i w d → Stands ns n i w d w' e → Standing ns n (i + 1) w' e
unfolding runs entries_to
row_standing {ns} {n} {i} {w} {d} {w'} {e} h k = rw (add-one i) (record {
  rows = ap (λ o. run_on o (λ ks. size_row n i ks (entry_at ns i))) h.rows ∙ k.row;
  marks = λ j l. k.marks j l ∙ ap (λ b. b or eqb j (get_or ns (3 * i) 0)) (h.marks j l) ∙ sym (uses_end j (get_or ns (3 * i) 0) (get_or ns (3 * i + 1) 0) (get_or ns (3 * i + 2) 0) (entries_to ns i));
})

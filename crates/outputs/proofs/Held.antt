-- The rows that tables hold.
--     held_room     they have room
--     held_lent, rows_lent     lent, they are judged as the solid
use mathlib.Core.Path.{◌≡◌, sym, ap, ◌∙◌}
use mathlib.Core.List.{List}
use Prim.Native.Nat.{ℕ, ◌-◌, ◌*◌, ◌≤◌}
use native.Mathlib.Omega.{arith}
use lib.IntN.{ℤ, pos}
use lib.ListN.{length, take, replicate, length-append, length-replicate}
use lib.Seq.{take-append_seam}
use Rattle.scope.specs.Solids.{Tables, tables}
use Rattle.scope.specs.Judging.{accepted, judge_lent}
use Rattle.scope.specs.Answers.{flat_planes, flat_nodes, filled}
use Rattle.theory.specs.Text.Filled.{planes_count, nodes_count}
use Rattle.theory.specs.Text.Lent.{lent, lent_accepted}
use Rattle.theory.specs.Text.Trees.{LawfulTables}
use Rattle.tables.specs.declared.Solid.{Solid}
use Rattle.inputs.specs.Orders.{HoldsSolid}
use Rattle.outputs.specs.Outputs.{RowsIn, RowsLent}

first : {A : Type 0} (o : A) (n k : ℕ) (xs ys : List A) → ys ≡ filled o n xs → length xs ≡ k → take (k - 0) ys ≡ xs
first o n k xs ys e l = ap (λ i. take i ys) {x = k - 0} {y = k} (omega arith) ∙ (λ i. take (sym l i) (e i)) ∙ take-append_seam xs (replicate (n - length xs) o)

within : {A : Type 0} (o : A) (xs ys : List A) → ys ≡ filled o (length ys) xs → length xs ≤ length ys
within o xs ys e = omega (arith, ap length e, length-append xs (replicate (length ys - length xs) o), length-replicate (length ys - length xs) o)

module _ (s : Solid) (xs : List ℤ) (ns : List ℕ) where
  pub held_room : (a : Tables) → LawfulTables a → HoldsSolid a s xs ns → RowsIn s xs ns
  held_room (tables ps es r) l h =
      let p = ap (λ s. s.planes) h.counts in
      let m = ap (λ s. s.nodes) h.counts in
      record {
        planes = omega (arith, p, planes_count ps, within (pos 0) (flat_planes ps) xs h.planes);
        nodes = omega (arith, m, nodes_count es, within 0 (flat_nodes es) ns h.nodes);
        few_planes = omega (arith, p, l.few_planes);
        few_nodes = omega (arith, m, l.few_rows);
      }

  pub held_lent : (a : Tables) → LawfulTables a → HoldsSolid a s xs ns → judge_lent (lent (take (4 * s.planes - 0) xs) (take (3 * s.nodes - 0) ns) s.root) ≡ accepted a
  held_lent (tables ps es r) l h =
      (λ i. judge_lent (lent (first (pos 0) (length xs) (4 * s.planes) (flat_planes ps) xs h.planes (planes_count ps ∙ ap (λ s. 4 * s.planes) (sym h.counts)) i) (first 0 (length ns) (3 * s.nodes) (flat_nodes es) ns h.nodes (nodes_count es ∙ ap (λ s. 3 * s.nodes) (sym h.counts)) i) (h.counts i).root))
      ∙ lent_accepted ps es r l

  pub rows_lent : {ys : List ℤ} {ms : List ℕ} {k : ℕ} → RowsLent s xs ns ys ms k → (a : Tables) → LawfulTables a → HoldsSolid a s xs ns → judge_lent (lent ys ms k) ≡ accepted a
  rows_lent l a la h = ap judge_lent (λ i. lent (l.planes i) (l.nodes i) (l.root i)) ∙ held_lent a la h

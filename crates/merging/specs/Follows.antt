-- What follows from the promise of the merge.
--     merge_told_unique    no second answer, and no second table, meets it
--     merge_refusal        a number is given only when the definitions give it, and leaves every table all zeros
--     merge_given          demand 2: a solid that is given is the tree that the definition gives, row for row; it answers points as the
--                          operation does, keeps no plane that misses its cell, and has at most n + m + n·m rows
use Rattle.std.specs.Prelude.{◌≡◌, refl, List, ℕ, ◌+◌, ◌*◌, ◌≤◌, ℤ, pos, length, Result, Ok, Err}
use Rattle.scope.specs.Planes.{Point}
use Rattle.scope.specs.Solids.{Tree, rows, planes, Tables, tables_of, answer as answers}
use Rattle.scope.specs.Cells.{Inside, box, Off, Operation, operate, Merged}
use Rattle.scope.specs.Text.{operation_code}
use Rattle.scope.specs.Judging.{accepted, judge_lent}
use Rattle.scope.specs.Answers.{Answer, given, plane_numbers, node_numbers, filled, WithWork, short_work, enough_work, MergeBy, no_operation, a_refused, b_refused, merged}
use Rattle.theory.specs.Answers.{lent_sound, solid_lawful}
use Rattle.theory.specs.Cells.Walk.{Tight}
use Rattle.theory.specs.Text.Lent.{lent}
use Rattle.theory.specs.Theorems.{merge_points, merge_tight, merge_rows}
use Rattle.tables.specs.declared.Solid.{Solid}
use Rattle.results.specs.Results.{merge_of, rooms, given_of}
use Rattle.results.specs.Follows.{told_unique, Refusal, told_refusal, not_refused, tree_given}
use Rattle.merging.specs.Promises.{MergeTold}

module _ {op : ℕ} {pa : List ℤ} {na : List ℕ} {ra : ℕ} {pb : List ℤ} {nb : List ℕ} {rb : ℕ} {xs xs' : List ℤ} {ns ns' : List ℕ} {w w' : List ℤ} where
  pub merge_told_unique : {xs'' : List ℤ} {ns'' : List ℕ} {w'' : List ℤ} {i j : Result Solid ℕ} → MergeTold op pa na ra pb nb rb xs xs' ns ns' w w' i → MergeTold op pa na ra pb nb rb xs xs'' ns ns'' w w'' j → (i ≡ j) × (xs' ≡ xs'') × (ns' ≡ ns'') × (w' ≡ w'')
  merge_told_unique h k = told_unique h k

  pub merge_refusal : {k : ℕ} → MergeTold op pa na ra pb nb rb xs xs' ns ns' w w' (Err k) → Refusal (merge_of op (lent pa na ra) (lent pb nb rb)) xs xs' ns ns' w w' k
  merge_refusal h = told_refusal h

-- ---- a solid

-- a merged solid: its tree, and what the tree is to the operands'
pub record Merges (op : ℕ) (pa : List ℤ) (na : List ℕ) (ra : ℕ) (pb : List ℤ) (nb : List ℕ) (rb : ℕ) (xs xs' : List ℤ) (ns ns' : List ℕ) (s : Solid) : Type 0 where
  pub operation : Operation
  pub op_is : operation_code operation ≡ op
  pub first : Tree
  pub first_is : judge_lent (lent pa na ra) ≡ accepted (tables_of first)
  pub second : Tree
  pub second_is : judge_lent (lent pb nb rb) ≡ accepted (tables_of second)
  pub tree : Tree
  pub right : Merged operation first second tree
  pub counts : Ok s ≡ given_of (given (tables_of tree))
  pub plane_rows : xs' ≡ filled (pos 0) (length xs) (plane_numbers (tables_of tree))
  pub node_rows : ns' ≡ filled 0 (length ns) (node_numbers (tables_of tree))
  pub points : (X : Point) → Inside box X → Off (planes first) X → Off (planes second) X → answers tree X ≡ operate operation (answers first X) (answers second X)
  pub tight : Tight box tree
  pub few : rows tree ≤ rows first + rows second + rows first * rows second

module _ {op : ℕ} {pa : List ℤ} {na : List ℕ} {ra : ℕ} {pb : List ℤ} {nb : List ℕ} {rb : ℕ} {xs xs' : List ℤ} {ns ns' : List ℕ} {w w' : List ℤ} {s : Solid} where
  pub merge_given : MergeTold op pa na ra pb nb rb xs xs' ns ns' w w' (Ok s) → Merges op pa na ra pb nb rb xs xs' ns ns' s
  merge_given h = with_work h.answer h.exact refl
    where
      by : (a : Answer Tables) → MergeBy (rooms xs ns) op (judge_lent (lent pa na ra)) (judge_lent (lent pb nb rb)) a → h.answer ≡ a → Merges op pa na ra pb nb rb xs xs' ns ns' s
      by _ (no_operation n) f = absurd (not_refused h f)
      by _ (a_refused k e) f = absurd (not_refused h f)
      by _ (b_refused t k e g) f = absurd (not_refused h f)
      by _ (merged x A B t eo ea eb m) f =
          let lA = solid_lawful (lent_sound (lent pa na ra)) ea in
          let lB = solid_lawful (lent_sound (lent pb nb rb)) eb in
          let g = tree_given h t f in
          record {
            operation = x;
            op_is = eo;
            first = A;
            first_is = ea;
            second = B;
            second_is = eb;
            tree = t;
            right = m;
            counts = g.counts;
            plane_rows = g.plane_rows;
            node_rows = g.node_rows;
            points = merge_points x lA lB m;
            tight = merge_tight x lA lB m;
            few = merge_rows x lA lB m;
          }

      with_work : (a : Answer Tables) → WithWork (length w) (MergeBy (rooms xs ns) op (judge_lent (lent pa na ra)) (judge_lent (lent pb nb rb))) a → h.answer ≡ a → Merges op pa na ra pb nb rb xs xs' ns ns' s
      with_work _ (short_work n) f = absurd (not_refused h f)
      with_work _ (enough_work t m) f = by _ m f

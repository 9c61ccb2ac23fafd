-- The refusals of a merge in their order.
--     work_short, not_known, a_not, b_not, both_sound   the answer at each way out
--     sound_in                        what the merge of two sound solids is given
use mathlib.Core.Path.{◌≡◌, refl, sym, subst}
use mathlib.Core.Logic.{◌≢◌}
use mathlib.Core.List.{List}
use Prim.Native.Nat.{ℕ, ◌≤◌, ◌<◌}
use lib.Dec.{T}
use borrow.Author.Tests.{lt-leb}
use lib.IntN.{ℤ}
use lib.ListN.{length}
use Rattle.scope.specs.Limits.{stated}
use Rattle.scope.specs.Cells.{Operation, union, intersection, difference}
use Rattle.scope.specs.Text.{operation_code}
use Rattle.scope.specs.Judging.{known, judge_lent}
use Rattle.scope.specs.Answers.{refused, tree_answer, short_work, enough_work, no_operation, a_refused, b_refused, merged}
use Rattle.theory.specs.Theorems.{merge}
use Rattle.theory.specs.Text.Lent.{lent}
use Rattle.theory.specs.Text.MergeInput.{operation_of}
use Rattle.std.specs.Prelude.{Result, Ok, Err}
use Rattle.tables.specs.declared.LentSolid.{LentSolid}
use Rattle.tables.specs.declared.Solid.{Solid}
use Rattle.tables.specs.Promises.{judgement}
use Rattle.tables.proofs.Soundness.{rows_refused, rows_sound}
use Rattle.results.specs.Results.{rooms, ZerosIn}
use Rattle.results.specs.Operands.{SoundIn}
use Rattle.results.proofs.Calls.{nothing_held, enough}
use Rattle.merging.specs.Promises.{SoundTold, JudgedTold}

-- ---- the way to the answer

code_known : (o : Operation) → T (known (operation_code o))
unfolding known
code_known union = tt
code_known intersection = tt
code_known difference = tt

abbrev judged_as : LentSolid → Result Solid (ℕ × ℕ)
judged_as a = judgement a.planes.now a.nodes.now a.root (judge_lent (lent a.planes.now a.nodes.now a.root))

is_known : {op : ℕ} (o : Operation) → op ≡ operation_code o → T (known op)
is_known o e = subst (λ n. T (known n)) (sym e) (code_known o)

pub work_short : {work op : ℕ} (a b : LentSolid) {xs xs' : List ℤ} {ns ns' : List ℕ} → work < stated → JudgedTold work op a b xs xs' ns ns' (Err 8)
work_short {work} a b h = record { answer = refused 8; exact = short_work (λ t. subst T (lt-leb stated work h) t); outcome = nothing_held 8 }

module _ {work op : ℕ} (a b : LentSolid) {xs : List ℤ} {ns : List ℕ} (w : stated ≤ work) where
  pub not_known : {xs' : List ℤ} {ns' : List ℕ} → ((o : Operation) → op ≢ operation_code o) → JudgedTold work op a b xs xs' ns ns' (Err 7)
  not_known n = record { answer = refused 7; exact = enough_work (enough work w) (no_operation (λ t. let o = operation_of op t in absurd (n o.0 (sym o.1)))); outcome = nothing_held 7 }

  module _ (o : Operation) (eo : op ≡ operation_code o) where
    pub a_not : {xs' : List ℤ} {ns' : List ℕ} {k l : ℕ} → Err (k, l) ≡ judged_as a → JudgedTold work op a b xs xs' ns ns' (Err k)
    a_not {k = k} e = record { answer = refused k; exact = enough_work (enough work w) (a_refused (is_known o eo) (rows_refused a.planes.now a.nodes.now a.root e refl)); outcome = nothing_held k }

    module _ {s : Solid} (ea : Ok s ≡ judged_as a) where
      pub b_not : {xs' : List ℤ} {ns' : List ℕ} {k l : ℕ} → Err (k, l) ≡ judged_as b → JudgedTold work op a b xs xs' ns ns' (Err k)
      b_not {k = k} e =
          let sa = rows_sound a.planes.now a.nodes.now a.root ea refl in
          record { answer = refused k; exact = enough_work (enough work w) (b_refused sa.tree (is_known o eo) sa.accepts (rows_refused b.planes.now b.nodes.now b.root e refl)); outcome = nothing_held k }

      pub both_sound : {xs' : List ℤ} {ns' : List ℕ} {u : Solid} {r : Result Solid ℕ} → Ok u ≡ judged_as b → SoundTold o a b xs xs' ns ns' r → JudgedTold work op a b xs xs' ns ns' r
      both_sound eb f =
          let sa = rows_sound a.planes.now a.nodes.now a.root ea refl in
          let sb = rows_sound b.planes.now b.nodes.now b.root eb refl in
          let m = merge o sa.held.lawful sb.held.lawful in
          record {
            answer = tree_answer (rooms xs ns) m.0;
            exact = enough_work (enough work w) (merged o sa.tree sb.tree m.0 (sym eo) sa.accepts sb.accepts m.1);
            outcome = f sa.tree sb.tree m.0 sa.held sb.held m.1;
          }

pub sound_in : (a b : LentSolid) {s u : Solid} → Ok s ≡ judged_as a → Ok u ≡ judged_as b → {xs path : List ℤ} {ns : List ℕ} → ZerosIn xs ns → 1152 ≤ length path → SoundIn a b xs ns path
sound_in a b ea eb z r =
    let sa = rows_sound a.planes.now a.nodes.now a.root ea refl in
    let sb = rows_sound b.planes.now b.nodes.now b.root eb refl in
    record { first = sa.tree; first_solid = sa.held; second = sb.tree; second_solid = sb.held; zeros = z; path_room = r }

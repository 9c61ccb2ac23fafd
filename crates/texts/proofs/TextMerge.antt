-- From an order to its text: the solids that stand in tables, their merge, and what is written.
--     merged_right, merge_gave, merging_told   what the merge gave is that of the two solids, and is written
--     order_refused, order_held, order_merged   what comes of the text
use mathlib.Core.Path.{◌≡◌, subst}
use mathlib.Core.List.{List}
use Prim.Native.Nat.{ℕ, ◌/◌}
use native.Mathlib.Omega.{arith}
use lib.IntN.{ℤ}
use lib.ListN.{length}
use Rattle.scope.specs.Judging.{accepted, judge_merge}
use Rattle.scope.specs.Judging as judging
use Rattle.scope.specs.Answers.{refused, MergeBy, operand_rooms, program_rooms}
use Rattle.theory.specs.Answers.{sound_tables}
use Rattle.theory.specs.Text.MergeInput.{merge_read}
use Rattle.tables.specs.declared.Solid.{Solid}
use Rattle.std.specs.Prelude.{Result}
use Rattle.merging.specs.Promises as merge
use Rattle.inputs.specs.declared.Order.{Order}
use Rattle.inputs.specs.Orders.{OrderHeld}
use Rattle.outputs.specs.Outputs.{in_room, Refuses, Gave, RowsLent, WriteTold}
use Rattle.outputs.proofs.Held.{rows_lent}
use Rattle.texts.specs.Answers.{merging, unread, merged_text}
use Rattle.texts.specs.Steps.{WithTold, ResultIn, Holds, Merging, OrderMerged}
use Rattle.texts.specs.Lawful.{merge_lawful}
use Rattle.texts.proofs.Calls.{from_work, result_gave, refusal_told}

-- ---- the merge's answer

module _ {op : ℕ} {s u : Solid} {pa : List ℤ} {na : List ℕ} {pb : List ℤ} {nb : List ℕ} (a : Holds s pa na) (b : Holds u pb nb) {ya yb : List ℤ} {ma mb : List ℕ} {ra rb : ℕ} (la : RowsLent s pa na ya ma ra) (lb : RowsLent u pb nb yb mb rb)
    {xs xs' : List ℤ} {ns ns' : List ℕ} {w w' : List ℤ} {m : Result Solid ℕ} (i : ResultIn xs ns w) (h : merge.MergeTold op ya ma ra yb mb rb xs xs' ns ns' w w' m) where
  pub merged_right : MergeBy program_rooms op (accepted a.is) (accepted b.is) h.answer
  merged_right = subst (λ x. x) (λ j. MergeBy (record { plane_rows = plane_rows j; node_rows = node_rows j }) op (rows_lent s pa na la a.is a.lawful a.held j) (rows_lent u pb nb lb b.is b.lawful b.held j) h.answer) (from_work i.enough h.exact)
    where
      plane_rows : length xs / 4 ≡ 128
      plane_rows = omega (arith, i.planes)

      node_rows : length ns / 3 ≡ 1000
      node_rows = omega (arith, i.nodes)

  pub merge_gave : length xs' ≡ length xs → length ns' ≡ length ns → Gave h.answer xs' ns' m
  merge_gave = result_gave h (λ c e. merge_lawful (sound_tables a.lawful) (sound_tables b.lawful) merged_right e)

  pub merging_told : length xs' ≡ length xs → length ns' ≡ length ns → {out out' : List ℕ} {r : Result ℕ ℕ} → WriteTold m xs' ns' out out' r → Merging op a.is b.is out out' r
  merging_told lx ln f = record { answer = h.answer; exact = merged_right; outcome = f h.answer (merge_gave lx ln) }

-- ---- the text

pub order_refused : {t : List ℕ} {k l : ℕ} {out out' : List ℕ} {r : Result ℕ ℕ} → judge_merge operand_rooms t ≡ judging.order_refused k l → Refuses k out out' r → WithTold merging t out out' r
order_refused {k = k} h f = record { answer = refused k; exact = unread h; outcome = refusal_told f }

module _ {t : List ℕ} {pa : List ℤ} {na : List ℕ} {pb : List ℤ} {nb : List ℕ} {o : Order} (h : OrderHeld t pa na pb nb o.op o.a o.b) where
  abbrev pub order_held : Holds o.a pa na × Holds o.b pb nb
  order_held = let l = (merge_read operand_rooms t o.op h.first h.second h.judged).lawful in (record { is = h.first; lawful = l.lawful_a; held = h.first_held }, record { is = h.second; lawful = l.lawful_b; held = h.second_held })

  pub order_merged : {out out' : List ℕ} {r : Result ℕ ℕ} → OrderMerged o pa na pb nb out out' r → WithTold merging t out out' r
  order_merged {out} f = let g = f order_held.0 order_held.1 in record { answer = in_room (length out) g.answer; exact = merged_text h.judged g.exact; outcome = g.outcome }

-- The stages of judging lent tables, as the code passes them: the counts, the planes, the nodes, the line after them. At each way out the answer is that of document 01.
use mathlib.Core.Path.{◌≡◌, refl, sym, ap, ◌∙◌}
use mathlib.Core.Bool.{Bool, true, false, not}
use mathlib.Core.List.{List, []}
use mathlib.Core.Option.{none}
use mathlib.Core.Logic.{◌≢◌}
use Prim.Native.Nat.{ℕ, ◌+◌, ◌/◌, ◌%◌, ◌≤◌, ◌<◌}
use native.Mathlib.Omega.{arith}
use lib.Dec.{leb}
use lib.IntN.{ℤ, pos}
use lib.ListN.{length, replicate, get_or-replicate}
use borrow.Author.Tests.{leb-true}
use Rattle.std.specs.Prelude.{⊤, Result, Ok, Err}
use Rattle.whole.specs.Tests.{◌and◌, differ, and_true}
use Rattle.scope.specs.Limits.{most_planes, most_nodes}
use Rattle.scope.specs.Planes.{is_zero}
use Rattle.scope.specs.Judging.{State, root_ok, in_rooms, head_by, judge_head, busy, judge_lent}
use Rattle.theory.specs.Text.Lent.{lent, lent_rooms}
use Rattle.tables.specs.Work.{marked}
use Rattle.tables.specs.Promises.{judged, plane_judged, on_line, counts, close_judged, judgement, PlaneRefused, NodesReady, Standing, NodeRefused}
use Rattle.tables.specs.declared.Solid.{Solid}
use Rattle.tables.proofs.Lent.{sound_or, BeforePlane, head_stop, head_go, planes_stop, planes_left, planes_go, nodes_begin, nodes_stop, close}

head_small : (a b c : Bool) (s : State) → judged (head_by a b c s) ≡ Ok tt → a ≡ true
head_small false b c s e = differ (cc)
head_small true b c s e = refl

module _ (xs : List ℤ) (ns : List ℕ) (root : ℕ) where
  -- the counts are taken
  pub record Begun : Type 0 where
    pub few_planes : length xs / 4 ≤ 64
    pub few_rows : length ns / 3 ≤ 1000
    pub before : BeforePlane xs ns root 0

  abbrev answer : Result Solid (ℕ × ℕ)
  answer = judgement xs ns root (judge_lent (lent xs ns root))

  pub begun : judged (judge_head (lent_rooms xs ns) (length xs / 4) (length ns / 3) root) ≡ Ok tt → Begun
  unfolding judge_head
  begun e =
      let g = and_true (leb (length xs / 4) most_planes) (leb (length ns / 3) most_nodes) (head_small (leb (length xs / 4) most_planes and leb (length ns / 3) most_nodes) (root_ok (length ns / 3) root) (in_rooms (lent_rooms xs ns) (length xs / 4) (length ns / 3)) (busy (length xs / 4) (length ns / 3) root none [] [] []) e) in
      record { few_planes = leb-true (length xs / 4) most_planes g.0; few_rows = leb-true (length ns / 3) most_nodes g.1; before = head_go xs ns root e }

  pub begun_not : (o : Result ⊤ ℕ) {p : ℕ × ℕ} → o ≡ judged (judge_head (lent_rooms xs ns) (length xs / 4) (length ns / 3) root) → Err p ≡ on_line 1 o → Err p ≡ answer
  begun_not (Ok u) h e = differ (cc)
  begun_not (Err k) {p} h e = let f : p ≡ (k, 1) = cc in ap Err f ∙ ap (judgement xs ns root) (sym (head_stop xs ns root k (sym h)))

  -- the planes are taken
  pub record Planed : Type 0 where
    pub begins : Begun
    pub fine : (i : ℕ) → i < length xs / 4 → plane_judged xs i ≡ Ok tt

  pub planed_not : {k l : ℕ} → Begun → PlaneRefused xs (length xs / 4) k l → Err (k, l) ≡ answer
  planed_not b f = ap (judgement xs ns root) (sym (planes_stop xs ns root b.before f))

  module _ (p : Planed) where
    -- numbers left over
    pub left_over : length xs % 4 ≢ 0 → Err (2, 2 + length xs / 4) ≡ answer
    left_over h = ap (judgement xs ns root) (sym (planes_left xs ns root p.fine p.begins.before h))

    pub nodes_ready : NodesReady ns (counts xs ns root) (replicate 1064 (pos 0))
    unfolding marked
    nodes_ready =
        record {
          rows = omega arith;
          few_rows = p.begins.few_rows;
          few_planes = p.begins.few_planes;
          room = omega arith;
          clear = λ k l. ap (λ v. not (is_zero v)) (get_or-replicate 1064 (1000 + k) (pos 0) (pos 0) (omega arith));
        }

    module _ (whole : length xs % 4 ≡ 0) where
      -- a row that falls
      pub nodes_not : {k l : ℕ} → NodeRefused ns (length xs / 4) (length ns / 3) k l → Err (k, l) ≡ answer
      nodes_not f = ap (judgement xs ns root) (sym (nodes_stop xs ns root (nodes_begin xs ns root (planes_go xs ns root p.fine p.begins.before whole)) f))

      -- the line after the nodes
      pub closed : (w : List ℤ) (d : ℕ) → Standing ns (length xs / 4) (length ns / 3) w d → sound_or (counts xs ns root) (close_judged ns (counts xs ns root) w d) ≡ answer
      closed w d s = close xs ns root w d p.begins.few_planes s (nodes_begin xs ns root (planes_go xs ns root p.fine p.begins.before whole))

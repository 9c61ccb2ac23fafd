-- A solid's lines together: head, planes, nodes, end; and what may follow.
--     rows_no_node, rows_no_end, rows_end                   the rows below a head
--     head_read, head_refused                               the head
--     HeadTaken, head_taken                                 counts within the limits and the rows lent
--     finish_read, finish_more                              what follows the end
use mathlib.Core.Path.{◌≡◌, refl, ap, ◌∙◌}
use mathlib.Core.Bool.{Bool, true, false}
use mathlib.Core.List.{List, [], ◌∷◌}
use mathlib.Core.Logic.{◌≢◌}
use mathlib.Core.Option.{Option, none}
use Rattle.std.specs.Prelude.{⊤, Result, Ok, Err}
use Prim.Native.Nat.{ℕ, suc, ◌+◌, ◌≤◌}
use native.Mathlib.Omega.{arith}
use lib.Dec.{leb}
use borrow.Author.Tests.{leb-true}
use lib.IntN.{ℤ}
use lib.ListN.{length, drop}
use Rattle.whole.specs.Tests.{◌and◌, and_true, differ}
use Rattle.scope.specs.Limits.{most_planes, most_nodes}
use Rattle.scope.specs.Planes.{Plane}
use Rattle.scope.specs.Solids.{Tables, tables}
use Rattle.scope.specs.Text.{Frame, bad, other, operation, head, plane, node_row, end, frames}
use Rattle.scope.specs.Judging.{Rooms, State, fresh, busy, go, done, all_used, one_tree, root_ok, in_rooms, head_by, judge_head, step, Reading, read, refused, read_solid, accepted, refusal, finish}
use Rattle.frames.specs.Follows.{head_refuses, end_refuses}
use Rattle.frames.specs.Promises.{Follows, bad_follows, more_follows}
use Rattle.tables.specs.declared.Solid.{Solid}
use Rattle.tables.specs.Rows.{last_before}
use Rattle.tables.proofs.Stacks.{one_deep, used_marks}
use Rattle.tables.specs.Work.{all_marked}
use Rattle.tables.specs.Promises.{judged, end_judged}
use Rattle.frames.specs.declared.Cursor.{Cursor}
use Rattle.lines.specs.Lines.{HeadLine, no_head, bad_head, EndLine, end_taken, no_end, bad_end}
use Rattle.lines.specs.Reading.{PlanesSoFar, NodesOver, NodesTold, RowsRead, RowsTold}
use Rattle.lines.proofs.Lines.{line_goes, line_ends, line_refused, as_step, head_step, end_step}

-- ---- the rows below a head

module _ (l : ℕ) (s : Solid) {t : List ℕ} {from : ℕ} {xs : List ℤ} (few : s.planes ≤ 64) {at : ℕ} (p : PlanesSoFar t from l s.planes xs s.planes at) where
  -- what is left to judge after the planes
  planes_left : (a : Rooms) → read_solid a (busy s.planes s.nodes s.root none [] [] []) l (frames (drop from t)) ≡ read_solid a (busy 0 s.nodes s.root (last_before xs s.planes) p.planes [] []) (l + s.planes) (frames (drop at t))
  planes_left a = p.goes a s.nodes s.root 0 (omega arith)

  pub rows_no_node : (ns : List ℕ) (w : List ℤ) {k j : ℕ} → NodesTold t at (l + s.planes) s.planes s.nodes ns w (Err (k, j)) → RowsTold t from l s xs ns (Err (k, j))
  rows_no_node ns w h a = planes_left a ∙ h p.planes p.count a s.root _

  module _ {ns : List ℕ} {w : List ℤ} {next d : ℕ} (q : NodesOver p.planes t at (l + s.planes) s.nodes ns w s.nodes next d) where
    nodes_left : (a : Rooms) → read_solid a (busy s.planes s.nodes s.root none [] [] []) l (frames (drop from t)) ≡ read_solid a (busy 0 0 s.root (last_before xs s.planes) p.planes q.entries q.trees) (l + s.planes + s.nodes) (frames (drop next t))
    nodes_left a = planes_left a ∙ q.goes a s.root 0 _ (omega arith)

    -- the end, judged as the code has judged it
    ending : {j : Result ⊤ ℕ} → end_judged (all_marked w s.planes) (leb d 1) ≡ j → (a : Rooms) (o : Option Plane) → step a (busy 0 0 s.root o p.planes q.entries q.trees) end ≡ as_step j (done (tables p.planes q.entries s.root))
    unfolding step
    ending e a o =
        end_step (all_used (length p.planes) q.entries) (one_tree q.trees) (tables p.planes q.entries s.root)
        ∙ ap (λ j. as_step j (done (tables p.planes q.entries s.root))) ((λ u. end_judged ((ap (λ j. all_used j q.entries) p.count ∙ used_marks w q.entries s.planes few q.marks) u) (one_deep w d q.trees q.stands u)) ∙ e)

    pub rows_end : {c : Cursor} → EndLine t next s.planes w d (Ok c) → RowsRead t from l s xs ns c.at (l + s.planes + s.nodes + 1)
    rows_end (end_taken {c = c} h e) = record {
      planes = p.planes;
      entries = q.entries;
      plane_count = p.count;
      node_count = q.count;
      plane_table = p.table;
      node_table = q.table;
      inside = h.inside;
      line = refl;
      reading = λ a. nodes_left a ∙ line_ends a _ (l + s.planes + s.nodes) h.first (ending e a _) ∙ ap (λ j. read (tables p.planes q.entries s.root) j (frames (drop c.at t))) line;
    }
      where
        line : suc (l + s.planes + s.nodes) ≡ l + s.planes + s.nodes + 1
        line = omega arith

    pub rows_no_end : {k : ℕ} → EndLine t next s.planes w d (Err k) → RowsTold t from l s xs ns (Err (k, l + s.planes + s.nodes))
    rows_no_end (no_end h) = λ a. nodes_left a ∙ end_refuses a (l + s.planes + s.nodes) (frames (drop next t)) s.root (last_before xs s.planes) p.planes q.entries q.trees h
    rows_no_end (bad_end h e) = λ a. nodes_left a ∙ line_refused a _ (l + s.planes + s.nodes) h.first (ending e a _)

-- ---- the head

-- the head, judged as the code has judged it
module _ (a : Rooms) (l n m r : ℕ) {fs gs : List Frame} (e : fs ≡ head n m r ∷ gs) where
  abbrev below : State
  below = busy n m r none [] [] []

  opened : {j : Result ⊤ ℕ} → judged (judge_head a n m r) ≡ j → step a fresh (head n m r) ≡ as_step j (go below)
  unfolding step judge_head
  opened h = head_step (leb n most_planes and leb m most_nodes) (root_ok m r) (in_rooms a n m) below ∙ ap (λ j. as_step j (go below)) h

  pub head_read : judged (judge_head a n m r) ≡ Ok tt → read_solid a fresh l fs ≡ read_solid a below (suc l) gs
  head_read h = line_goes a fresh l e (opened h)

pub head_refused : (a : Rooms) (l : ℕ) {t : List ℕ} {at k : ℕ} → HeadLine t at a (Err k) → read_solid a fresh l (frames (drop at t)) ≡ refused k l
head_refused a l (no_head h) = head_refuses a l _ h
head_refused a l (bad_head {n = n} {m = m} {r = r} h e) = line_refused a fresh l h.first (opened a l n m r h.first e)

head_small : (x y z : Bool) (c : State) → judged (head_by x y z c) ≡ Ok tt → (x ≡ true) × (z ≡ true)
head_small false y z c e = differ (cc e)
head_small true false z c e = differ (cc e)
head_small true true false c e = differ (cc e)
head_small true true true c e = (refl, refl)

pub record HeadTaken (a : Rooms) (n m : ℕ) : Type 0 where
  pub few_planes : n ≤ 64
  pub few_nodes : m ≤ 1000
  pub plane_room : n ≤ a.plane_rows
  pub node_room : m ≤ a.node_rows

pub head_taken : (a : Rooms) (n m r : ℕ) → judged (judge_head a n m r) ≡ Ok tt → HeadTaken a n m
unfolding judge_head
head_taken a n m r e =
    let h = head_small (leb n most_planes and leb m most_nodes) (root_ok m r) (in_rooms a n m) (busy n m r none [] [] []) e in
    let f = and_true (leb n most_planes) (leb m most_nodes) h.0 in
    let g = and_true (leb n a.plane_rows) (leb m a.node_rows) h.1 in
    record { few_planes = leb-true n most_planes f.0; few_nodes = leb-true m most_nodes f.1; plane_room = leb-true n a.plane_rows g.0; node_room = leb-true m a.node_rows g.1 }

-- ---- after the end

pub finish_read : {x : Reading} {a : Tables} {l : ℕ} {fs : List Frame} → x ≡ read a l fs → fs ≡ [] → finish x ≡ accepted a
finish_read {a = a} {l = l} e h = ap finish e ∙ ap (λ fs. finish (read a l fs)) h

pub finish_more : {x : Reading} {a : Tables} {l : ℕ} {fs : List Frame} {k : ℕ} → x ≡ read a l fs → Follows fs k → finish x ≡ refusal k l
finish_more {a = a} {l = l} e (bad_follows h) = ap finish e ∙ ap (λ fs. finish (read a l fs)) h
finish_more {a = a} {l = l} e (more_follows {f = f} {gs = gs} h n) = ap finish e ∙ ap (λ fs. finish (read a l fs)) h ∙ by f n
  where
    by : (f : Frame) → f ≢ bad → finish (read a l (f ∷ gs)) ≡ refusal 2 l
    by bad n = absurd (n refl)
    by other n = refl
    by (operation o) n = refl
    by (head i j r) n = refl
    by (plane p) n = refl
    by (node_row e) n = refl
    by end n = refl

pub finish_refused : {x : Reading} {k l : ℕ} → x ≡ refused k l → finish x ≡ refusal k l
finish_refused e = ap finish e

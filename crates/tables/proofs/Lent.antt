-- Lent tables, judged as if written out and read: what is left to judge after each row, and the verdict at the first row that falls.
--     head_stop, head_go             the counts
--     planes_stop, planes_left, planes_go   a plane that falls, numbers left over, all planes taken
--     nodes_begin, nodes_stop, close a row that falls, and the line after all rows
use mathlib.Core.Path.{◌≡◌, refl, sym, ap, ◌∙◌}
use mathlib.Core.Bool.{Bool, true, false, cond}
use mathlib.Core.List.{List, [], ◌∷◌}
use mathlib.Core.Logic.{◌≢◌}
use mathlib.Core.Option.{Option, none, some}
use Prim.Native.Nat.{ℕ, zero, suc, ◌+◌, ◌*◌, ◌-◌, ◌/◌, ◌%◌, ◌≤◌, ◌<◌}
use native.Mathlib.Omega.{arith}
use lib.Dec.{T, leb, eqb, eqb→eq}
use lib.IntN.{ℤ, pos}
use lib.ListN.{length, get_or, drop, length-append, length-drop, drop_of_length-le}
use lib.Seq.{drop-cons}
use Rattle.std.specs.Prelude.{⊤, Result, Ok, Err}
use Rattle.whole.specs.Tests.{◌and◌, differ, eq_test}
use Rattle.scope.specs.Limits.{most_planes, most_nodes}
use Rattle.scope.specs.Planes.{Fault, fault}
use Rattle.scope.specs.Solids.{tables}
use Rattle.scope.specs.Text.{Frame, other, plane, node_row, end}
use Rattle.scope.specs.Judging.{Sub, add_row, all_used, Rooms, State, fresh, busy, go, stop, head_by, judge_head, root_ok, in_rooms, follows, plane_by, row_by, end_by, step, next, read_solid, refusal, finish, plane_table, node_table, judge_lent}
use Rattle.theory.specs.Text.Counts.{sizes, size_row, sizes_of, row_size}
use Rattle.theory.specs.Text.Lent.{lent, lent_rooms}
use Rattle.tables.specs.Rows.{plane_at, entry_at, planes_to, entries_to, last_before}
use Rattle.tables.proofs.Stacks.{one_deep, used_marks}
use Rattle.tables.specs.Work.{stack, all_marked, runs, run_on}
use Rattle.tables.specs.declared.Solid.{Solid}
use Rattle.tables.specs.Promises.{judged, plane_judged, end_judged, on_line, counts, close_judged, judgement, PlaneRefused, Standing, NodeRefused}

-- ---- rows of a table, one by one

take4 : {A : Type 0} (z : A) (xs : List A) (j : ℕ) → j + 3 < length xs → drop j xs ≡ get_or xs j z ∷ get_or xs (j + 1) z ∷ get_or xs (j + 2) z ∷ get_or xs (j + 3) z ∷ drop (j + 4) xs
take4 z xs j h =
    let e₁ : suc j ≡ j + 1 = omega arith in
    let e₂ : suc (j + 1) ≡ j + 2 = omega arith in
    let e₃ : suc (j + 2) ≡ j + 3 = omega arith in
    let e₄ : suc (j + 3) ≡ j + 4 = omega arith in
    drop-cons xs j z (omega arith) ∙ ap (λ l. get_or xs j z ∷ l) (ap (λ i. drop i xs) e₁
    ∙ drop-cons xs (j + 1) z (omega arith) ∙ ap (λ l. get_or xs (j + 1) z ∷ l) (ap (λ i. drop i xs) e₂
    ∙ drop-cons xs (j + 2) z (omega arith) ∙ ap (λ l. get_or xs (j + 2) z ∷ l) (ap (λ i. drop i xs) e₃
    ∙ drop-cons xs (j + 3) z h ∙ ap (λ l. get_or xs (j + 3) z ∷ l) (ap (λ i. drop i xs) e₄))))

take3 : {A : Type 0} (z : A) (xs : List A) (j : ℕ) → j + 2 < length xs → drop j xs ≡ get_or xs j z ∷ get_or xs (j + 1) z ∷ get_or xs (j + 2) z ∷ drop (j + 3) xs
take3 z xs j h =
    let e₁ : suc j ≡ j + 1 = omega arith in
    let e₂ : suc (j + 1) ≡ j + 2 = omega arith in
    let e₃ : suc (j + 2) ≡ j + 3 = omega arith in
    drop-cons xs j z (omega arith) ∙ ap (λ l. get_or xs j z ∷ l) (ap (λ i. drop i xs) e₁
    ∙ drop-cons xs (j + 1) z (omega arith) ∙ ap (λ l. get_or xs (j + 1) z ∷ l) (ap (λ i. drop i xs) e₂
    ∙ drop-cons xs (j + 2) z h ∙ ap (λ l. get_or xs (j + 2) z ∷ l) (ap (λ i. drop i xs) e₃)))

plane_row : (xs : List ℤ) (i : ℕ) (fs : List Frame) → 4 * i + 3 < length xs → plane_table (drop (4 * i) xs) fs ≡ plane (plane_at xs i) ∷ plane_table (drop (4 * suc i) xs) fs
unfolding plane_table
plane_row xs i fs h = let e : 4 * i + 4 ≡ 4 * suc i = omega arith in ap (λ l. plane_table l fs) (take4 (pos 0) xs (4 * i) h) ∙ ap (λ j. plane (plane_at xs i) ∷ plane_table (drop j xs) fs) e

node_line : (ns : List ℕ) (i : ℕ) (fs : List Frame) → 3 * i + 2 < length ns → node_table (drop (3 * i) ns) fs ≡ node_row (entry_at ns i) ∷ node_table (drop (3 * suc i) ns) fs
unfolding node_table
node_line ns i fs h = let e : 3 * i + 3 ≡ 3 * suc i = omega arith in ap (λ l. node_table l fs) (take3 0 ns (3 * i) h) ∙ ap (λ j. node_row (entry_at ns i) ∷ node_table (drop j ns) fs) e

planes_over : (l : List ℤ) (fs : List Frame) → 0 < length l → length l < 4 → plane_table l fs ≡ other ∷ fs
unfolding plane_table
planes_over [] fs h k = absurd (omega arith)
planes_over (a ∷ []) fs h k = refl
planes_over (a ∷ b ∷ []) fs h k = refl
planes_over (a ∷ b ∷ c ∷ []) fs h k = refl
planes_over (a ∷ b ∷ c ∷ d ∷ l) fs h k = absurd (omega arith)

nodes_over : (l : List ℕ) (fs : List Frame) → 0 < length l → length l < 3 → node_table l fs ≡ other ∷ fs
unfolding node_table
nodes_over [] fs h k = absurd (omega arith)
nodes_over (a ∷ []) fs h k = refl
nodes_over (a ∷ b ∷ []) fs h k = refl
nodes_over (a ∷ b ∷ c ∷ l) fs h k = absurd (omega arith)

planes_count : (xs : List ℤ) (i : ℕ) → length (planes_to xs i) ≡ i
unfolding planes_to
planes_count xs zero = refl
planes_count xs (suc i) = simp length-append (omega (arith, planes_count xs i))

entries_count : (ns : List ℕ) (i : ℕ) → length (entries_to ns i) ≡ i
unfolding entries_to
entries_count ns zero = refl
entries_count ns (suc i) = simp length-append (omega (arith, entries_count ns i))

-- ---- what a judged step says of the step

head_goes : (a b c : Bool) (s : State) → judged (head_by a b c s) ≡ Ok tt → head_by a b c s ≡ go s
head_goes false b c s e = differ (cc)
head_goes true false c s e = differ (cc)
head_goes true true false s e = differ (cc)
head_goes true true true s e = refl

head_stops : (a b c : Bool) (s : State) (k : ℕ) → judged (head_by a b c s) ≡ Err k → head_by a b c s ≡ stop k
head_stops false b c s k e = let f : ◌≡◌ {A = ℕ} 3 k = cc in ap stop f
head_stops true false c s k e = let f : ◌≡◌ {A = ℕ} 6 k = cc in ap stop f
head_stops true true false s k e = let f : ◌≡◌ {A = ℕ} 8 k = cc in ap stop f
head_stops true true true s k e = differ (cc)

plane_goes : (o : Option Fault) (b : Bool) (s : State) → judged (plane_by o b fresh) ≡ Ok tt → plane_by o b s ≡ go s
plane_goes (some f) b s e = differ (cc)
plane_goes none false s e = differ (cc)
plane_goes none true s e = refl

plane_stops : (o : Option Fault) (b : Bool) (s : State) (k : ℕ) → judged (plane_by o b fresh) ≡ Err k → plane_by o b s ≡ stop k
plane_stops (some f) b s k e = let f : ◌≡◌ {A = ℕ} 4 k = cc in ap stop f
plane_stops none false s k e = let f : ◌≡◌ {A = ℕ} 5 k = cc in ap stop f
plane_stops none true s k e = differ (cc)

-- a solid, or the refusal of one of its lines
abbrev pub sound_or : Solid → Result ⊤ (ℕ × ℕ) → Result Solid (ℕ × ℕ)
sound_or s (Ok u) = Ok s
sound_or s (Err r) = Err r

-- ---- the tables

module _ (xs : List ℤ) (ns : List ℕ) (root : ℕ) where
  abbrev pub n : ℕ
  n = length xs / 4

  abbrev pub m : ℕ
  m = length ns / 3

  abbrev R : Rooms
  R = lent_rooms xs ns

  abbrev nodes_left : List Frame
  nodes_left = node_table ns (end ∷ [])

  -- what is left to judge before plane i
  pub record BeforePlane (i : ℕ) : Type 0 where
    pub left : judge_lent (lent xs ns root) ≡ finish (read_solid R (busy (n - i) m root (last_before xs i) (planes_to xs i) [] []) (2 + i) (plane_table (drop (4 * i) xs) nodes_left))

  -- ---- the head

  pub head_stop : (k : ℕ) → judged (judge_head R n m root) ≡ Err k → judge_lent (lent xs ns root) ≡ refusal k 1
  unfolding judge_lent read_solid step judge_head
  head_stop k e = ap (λ x. finish (next x (λ c. read_solid R c 2 (plane_table xs nodes_left)) 1 (plane_table xs nodes_left))) (head_stops (leb n most_planes and leb m most_nodes) (root_ok m root) (in_rooms R n m) (busy n m root none [] [] []) k e)

  pub head_go : judged (judge_head R n m root) ≡ Ok tt → BeforePlane 0
  unfolding judge_lent read_solid step judge_head planes_to
  head_go e =
      let f : n ≡ n - 0 = omega arith in
      record {
        left = ap (λ x. finish (next x (λ c. read_solid R c 2 (plane_table xs nodes_left)) 1 (plane_table xs nodes_left))) (head_goes (leb n most_planes and leb m most_nodes) (root_ok m root) (in_rooms R n m) (busy n m root none [] [] []) e)
            ∙ ap (λ i. finish (read_solid R (busy i m root none [] [] []) 2 (plane_table xs nodes_left))) f;
      }

  -- ---- planes

  inside : (i : ℕ) → i < n → 4 * i + 3 < length xs
  inside i h = omega arith

  -- what a step on plane i leads to
  plane_next : (i : ℕ) → i < n → BeforePlane i → judge_lent (lent xs ns root)
      ≡ finish (next (plane_by (fault (plane_at xs i)) (follows (last_before xs i) (plane_at xs i)) (busy (n - suc i) m root (some (plane_at xs i)) (planes_to xs (suc i)) [] [])) (λ c. read_solid R c (suc (2 + i)) (plane_table (drop (4 * suc i) xs) nodes_left)) (2 + i) (plane_table (drop (4 * suc i) xs) nodes_left))
  unfolding read_solid step planes_to
  plane_next i h b =
      let e : n - i ≡ suc (n - suc i) = omega arith in
      b.left ∙ (λ t. finish (read_solid R (busy (e t) m root (last_before xs i) (planes_to xs i) [] []) (2 + i) (plane_row xs i nodes_left (inside i h) t)))

  plane_go : (i : ℕ) → i < n → plane_judged xs i ≡ Ok tt → BeforePlane i → BeforePlane (suc i)
  plane_go i h e b =
      let f : suc (2 + i) ≡ 2 + suc i = omega arith in
      record {
        left = plane_next i h b ∙ ap (λ x. finish (next x (λ c. read_solid R c (suc (2 + i)) (plane_table (drop (4 * suc i) xs) nodes_left)) (2 + i) (plane_table (drop (4 * suc i) xs) nodes_left))) (plane_goes (fault (plane_at xs i)) (follows (last_before xs i) (plane_at xs i)) (busy (n - suc i) m root (some (plane_at xs i)) (planes_to xs (suc i)) [] []) e)
            ∙ ap (λ l. finish (read_solid R (busy (n - suc i) m root (some (plane_at xs i)) (planes_to xs (suc i)) [] []) l (plane_table (drop (4 * suc i) xs) nodes_left))) f;
      }

  plane_stop : (i k : ℕ) → i < n → plane_judged xs i ≡ Err k → BeforePlane i → judge_lent (lent xs ns root) ≡ refusal k (2 + i)
  plane_stop i k h e b = plane_next i h b ∙ ap (λ x. finish (next x (λ c. read_solid R c (suc (2 + i)) (plane_table (drop (4 * suc i) xs) nodes_left)) (2 + i) (plane_table (drop (4 * suc i) xs) nodes_left))) (plane_stops (fault (plane_at xs i)) (follows (last_before xs i) (plane_at xs i)) (busy (n - suc i) m root (some (plane_at xs i)) (planes_to xs (suc i)) [] []) k e)

  planes_taken : (i : ℕ) → i ≤ n → ((j : ℕ) → j < i → plane_judged xs j ≡ Ok tt) → BeforePlane 0 → BeforePlane i
  planes_taken zero h f b = b
  planes_taken (suc i) h f b = plane_go i (omega arith) (f i (omega arith)) (planes_taken i (omega arith) (λ j l. f j (omega arith)) b)

  -- the first plane that falls
  pub planes_stop : {k l : ℕ} → BeforePlane 0 → PlaneRefused xs n k l → judge_lent (lent xs ns root) ≡ refusal k l
  planes_stop {k} {l} b r = let h = r.inside in plane_stop r.row k h r.here (planes_taken r.row (omega arith) r.earlier b) ∙ ap (refusal k) (sym r.line)

  module _ (fine : (j : ℕ) → j < n → plane_judged xs j ≡ Ok tt) (b : BeforePlane 0) where
    all_planes : judge_lent (lent xs ns root) ≡ finish (read_solid R (busy 0 m root (last_before xs n) (planes_to xs n) [] []) (2 + n) (plane_table (drop (4 * n) xs) nodes_left))
    all_planes =
        let e : n - n ≡ 0 = omega arith in
        (planes_taken n (omega arith) fine b).left ∙ ap (λ j. finish (read_solid R (busy j m root (last_before xs n) (planes_to xs n) [] []) (2 + n) (plane_table (drop (4 * n) xs) nodes_left))) e

    -- numbers left over
    pub planes_left : length xs % 4 ≢ 0 → judge_lent (lent xs ns root) ≡ refusal 2 (2 + n)
    unfolding read_solid step
    planes_left h =
        all_planes ∙ ap (λ fs. finish (read_solid R (busy 0 m root (last_before xs n) (planes_to xs n) [] []) (2 + n) fs)) (planes_over (drop (4 * n) xs) nodes_left (simp length-drop (omega arith)) (simp length-drop (omega arith)))
        ∙ by m
      where
        by : (j : ℕ) → finish (read_solid R (busy 0 j root (last_before xs n) (planes_to xs n) [] []) (2 + n) (other ∷ nodes_left)) ≡ refusal 2 (2 + n)
        by zero = refl
        by (suc j) = refl

    -- none left over
    pub planes_go : length xs % 4 ≡ 0 → judge_lent (lent xs ns root) ≡ finish (read_solid R (busy 0 m root (last_before xs n) (planes_to xs n) [] []) (2 + n) nodes_left)
    unfolding plane_table
    planes_go h = all_planes ∙ ap (λ l. finish (read_solid R (busy 0 m root (last_before xs n) (planes_to xs n) [] []) (2 + n) (plane_table l nodes_left))) (drop_of_length-le xs {i = 4 * n} (omega arith))

  -- ---- nodes

  -- what is left to judge before row i, with the trees st standing
  pub record BeforeNode (i : ℕ) (st : List Sub) : Type 0 where
    pub left : judge_lent (lent xs ns root) ≡ finish (read_solid R (busy 0 (m - i) root (last_before xs n) (planes_to xs n) (entries_to ns i) st) (2 + n + i) (node_table (drop (3 * i) ns) (end ∷ [])))

  pub nodes_begin : judge_lent (lent xs ns root) ≡ finish (read_solid R (busy 0 m root (last_before xs n) (planes_to xs n) [] []) (2 + n) nodes_left) → BeforeNode 0 []
  unfolding entries_to
  nodes_begin e =
      let f : m ≡ m - 0 = omega arith in
      let g : 2 + n ≡ 2 + n + 0 = omega arith in
      record { left = e ∙ (λ t. finish (read_solid R (busy 0 (f t) root (last_before xs n) (planes_to xs n) [] []) (g t) nodes_left)) }

  -- what a step on row i leads to
  node_next : (i : ℕ) (st : List Sub) → i < m → BeforeNode i st → judge_lent (lent xs ns root)
      ≡ finish (next (row_by (add_row (planes_to xs n) (length (entries_to ns i)) st (entry_at ns i)) (λ s. busy 0 (m - suc i) root (last_before xs n) (planes_to xs n) (entries_to ns (suc i)) s)) (λ c. read_solid R c (suc (2 + n + i)) (node_table (drop (3 * suc i) ns) (end ∷ []))) (2 + n + i) (node_table (drop (3 * suc i) ns) (end ∷ [])))
  unfolding read_solid step entries_to
  node_next i st h b =
      let e : m - i ≡ suc (m - suc i) = omega arith in
      b.left ∙ (λ t. finish (read_solid R (busy 0 (e t) root (last_before xs n) (planes_to xs n) (entries_to ns i) st) (2 + n + i) (node_line ns i (end ∷ []) (omega arith) t)))

  node_go : (i : ℕ) (st st' : List Sub) → i < m → add_row (planes_to xs n) (length (entries_to ns i)) st (entry_at ns i) ≡ some st' → BeforeNode i st → BeforeNode (suc i) st'
  node_go i st st' h e b =
      let f : suc (2 + n + i) ≡ 2 + n + suc i = omega arith in
      record {
        left = node_next i st h b ∙ ap (λ o. finish (next (row_by o (λ s. busy 0 (m - suc i) root (last_before xs n) (planes_to xs n) (entries_to ns (suc i)) s)) (λ c. read_solid R c (suc (2 + n + i)) (node_table (drop (3 * suc i) ns) (end ∷ []))) (2 + n + i) (node_table (drop (3 * suc i) ns) (end ∷ [])))) e
            ∙ ap (λ l. finish (read_solid R (busy 0 (m - suc i) root (last_before xs n) (planes_to xs n) (entries_to ns (suc i)) st') l (node_table (drop (3 * suc i) ns) (end ∷ [])))) f;
      }

  node_stop : (i : ℕ) (st : List Sub) → i < m → add_row (planes_to xs n) (length (entries_to ns i)) st (entry_at ns i) ≡ none → BeforeNode i st → judge_lent (lent xs ns root) ≡ refusal 6 (2 + n + i)
  node_stop i st h e b = node_next i st h b ∙ ap (λ o. finish (next (row_by o (λ s. busy 0 (m - suc i) root (last_before xs n) (planes_to xs n) (entries_to ns (suc i)) s)) (λ c. read_solid R c (suc (2 + n + i)) (node_table (drop (3 * suc i) ns) (end ∷ []))) (2 + n + i) (node_table (drop (3 * suc i) ns) (end ∷ [])))) e

  -- the trees whose sizes stand after i rows
  record Trees (i : ℕ) (ks : List ℕ) : Type 0 where
    trees : List Sub
    sized : sizes trees ≡ ks
    before : BeforeNode i trees

  -- a row over trees is the row over their sizes
  row_sizes : (i : ℕ) (st : List Sub) (ks : List ℕ) → sizes st ≡ ks → sizes_of (add_row (planes_to xs n) (length (entries_to ns i)) st (entry_at ns i)) ≡ size_row n i ks (entry_at ns i)
  row_sizes i st ks e = row_size (planes_to xs n) (length (entries_to ns i)) st (entry_at ns i) ∙ (λ t. size_row (planes_count xs n t) (entries_count ns i t) (e t) (entry_at ns i))

  one_more : (i : ℕ) (ks js : List ℕ) → i < m → Trees i ks → size_row n i ks (entry_at ns i) ≡ some js → Trees (suc i) js
  one_more i ks js h t e = by (add_row (planes_to xs n) (length (entries_to ns i)) t.trees (entry_at ns i)) refl (row_sizes i t.trees ks t.sized ∙ e)
    where
      by : (o : Option (List Sub)) → add_row (planes_to xs n) (length (entries_to ns i)) t.trees (entry_at ns i) ≡ o → sizes_of o ≡ some js → Trees (suc i) js
      by none f g = differ (cc)
      by (some st) f g = record { trees = st; sized = cc; before = node_go i t.trees st h f t.before }

  nodes_taken : BeforeNode 0 [] → (i : ℕ) (ks : List ℕ) → i ≤ m → runs ns n i ≡ some ks → Trees i ks
  unfolding runs
  nodes_taken b zero ks h e = let f : ◌≡◌ {A = List ℕ} [] ks = cc in record { trees = []; sized = f; before = b }
  nodes_taken b (suc i) ks h e = by (runs ns n i) refl e (λ js g. nodes_taken b i js (omega arith) g)
    where
      by : (o : Option (List ℕ)) → runs ns n i ≡ o → run_on o (λ js. size_row n i js (entry_at ns i)) ≡ some ks → ((js : List ℕ) → runs ns n i ≡ some js → Trees i js) → Trees (suc i) ks
      by none g e r = differ (cc)
      by (some js) g e r = one_more i js ks (omega arith) (r js g) e

  -- the first row that falls
  pub nodes_stop : {k l : ℕ} → BeforeNode 0 [] → NodeRefused ns n m k l → judge_lent (lent xs ns root) ≡ refusal k l
  nodes_stop {k} {l} b r =
      let h = r.inside in
      let t = nodes_taken b r.row r.sizes (omega arith) r.earlier in
      node_stop r.row t.trees h (fell (add_row (planes_to xs n) (length (entries_to ns r.row)) t.trees (entry_at ns r.row)) (row_sizes r.row t.trees r.sizes t.sized ∙ r.here)) t.before
      ∙ (λ j. refusal (sym r.number j) (sym r.line j))
    where
      fell : (o : Option (List Sub)) → sizes_of o ≡ none → o ≡ none
      fell none e = refl
      fell (some st) e = differ (cc)

  -- ---- the line after the nodes

  module _ (w : List ℤ) (d : ℕ) (few : n ≤ 64) (s : Standing ns n m w d) (b : BeforeNode 0 []) where
    stand : Trees m (stack w d)
    stand = nodes_taken b m (stack w d) (omega arith) s.rows

    all_nodes : judge_lent (lent xs ns root) ≡ finish (read_solid R (busy 0 0 root (last_before xs n) (planes_to xs n) (entries_to ns m) stand.trees) (2 + n + m) (node_table (drop (3 * m) ns) (end ∷ [])))
    all_nodes =
        let e : m - m ≡ 0 = omega arith in
        stand.before.left ∙ ap (λ j. finish (read_solid R (busy 0 j root (last_before xs n) (planes_to xs n) (entries_to ns m) stand.trees) (2 + n + m) (node_table (drop (3 * m) ns) (end ∷ [])))) e

    nodes_over_2 : length ns % 3 ≢ 0 → judge_lent (lent xs ns root) ≡ refusal 2 (2 + n + m)
    unfolding read_solid step
    nodes_over_2 h = all_nodes ∙ ap (λ fs. finish (read_solid R (busy 0 0 root (last_before xs n) (planes_to xs n) (entries_to ns m) stand.trees) (2 + n + m) fs)) (nodes_over (drop (3 * m) ns) (end ∷ []) (simp length-drop (omega arith)) (simp length-drop (omega arith)))

    nodes_whole : length ns % 3 ≡ 0 → judge_lent (lent xs ns root) ≡ finish (next (end_by (all_marked w n) (leb d 1) (tables (planes_to xs n) (entries_to ns m) root)) (λ c. read_solid R c (suc (2 + n + m)) []) (2 + n + m) [])
    unfolding read_solid step node_table
    nodes_whole h =
        all_nodes ∙ ap (λ l. finish (read_solid R (busy 0 0 root (last_before xs n) (planes_to xs n) (entries_to ns m) stand.trees) (2 + n + m) (node_table l (end ∷ [])))) (drop_of_length-le ns {i = 3 * m} (omega arith))
        ∙ (λ t. finish (next (end_by ((ap (λ j. all_used j (entries_to ns m)) (planes_count xs n) ∙ used_marks w (entries_to ns m) n few s.marks) t) (one_deep w d stand.trees stand.sized t) (tables (planes_to xs n) (entries_to ns m) root)) (λ c. read_solid R c (suc (2 + n + m)) []) (2 + n + m) []))

    ended : (a c : Bool) → sound_or (counts xs ns root) (on_line (2 + n + m) (end_judged a c)) ≡ judgement xs ns root (finish (next (end_by a c (tables (planes_to xs n) (entries_to ns m) root)) (λ c. read_solid R c (suc (2 + n + m)) []) (2 + n + m) []))
    ended false c = refl
    ended true false = refl
    ended true true = refl

    -- numbers left over, a plane that no row uses, rows outside the root's tree; or the solid
    pub close : sound_or (counts xs ns root) (close_judged ns (counts xs ns root) w d) ≡ judgement xs ns root (judge_lent (lent xs ns root))
    close = by (eqb (length ns % 3) 0) (eq_test (length ns % 3) 0) (eqb→eq (length ns % 3) 0)
      where
        by : (c : Bool) → (length ns % 3 ≡ 0 → T c) → (T c → length ns % 3 ≡ 0) → sound_or (counts xs ns root) (on_line (2 + n + m) (cond c (end_judged (all_marked w n) (leb d 1)) (Err 2))) ≡ judgement xs ns root (judge_lent (lent xs ns root))
        by true f g = ended (all_marked w n) (leb d 1) ∙ ap (judgement xs ns root) (sym (nodes_whole (g tt)))
        by false f g = ap (judgement xs ns root) (sym (nodes_over_2 f))

-- The rules of one line: what is due in a state, and what becomes of a frame there. `step` computes exactly these rules.
--     Due                            the kind of frame that is due
--     Why, why, stops, one_number    why a line is refused, in the words of the table of document 01; it has that number and no other
--     Goes, goes, takes              a line that is taken, and the state after it
--     Ends, ends, finishes           an end line that is taken, and the tables read
--     BadCode, BadRow                what is against the rules in a row
use Rattle.std.specs.Prelude.{◌≡◌, Bool, true, false, cond, not, List, [], ◌∷◌, ◌++◌, ◌≢◌, T, eqb, length}
use Rattle.std.proofs.Math.Path.{refl}
use Rattle.std.proofs.Common.{ap, subst, ◌∙◌, arith, leb→le, le→leb}
use Rattle.std.proofs.Math.Option.{Option, none, some}
use Prim.Native.Nat.{ℕ, zero, suc, ◌-◌, ◌≤◌, ◌<◌}
use Rattle.std.proofs.Math.Dec.{leb, nleb→lt}
use Rattle.std.proofs.Math.ListN.{get_elem?}
use Rattle.whole.specs.Tests.{◌and◌, differ, is_true, is_false, true_is, eq_false, and_split, and_make, eq_test}
use Rattle.whole.specs.Members.{elem_at, elem_small}
use Rattle.scope.specs.Limits.{most_planes, most_nodes}
use Rattle.scope.specs.Planes.{Plane, Lawful, Fault, fault, before}
use Rattle.scope.specs.Solids.{IN, OUT, Tree, leaf, rows, Entry, entry, Tables, tables}
use Rattle.scope.specs.Text.{Frame, bad, other, operation, head, plane, node_row, end}
use Rattle.scope.specs.Judging.{Sub, tree, Child, child, against, due_row, take_child, with_front, with_back, with_plane, add_row, uses, all_used, one_tree, root_ok, Rooms, State, fresh, busy, Step, go, done, stop, in_rooms, head_by, judge_head, follows, plane_by, row_by, end_by, step}
use Rattle.theory.specs.Planes.Order.{Before}
use Rattle.theory.specs.Planes.Faults.{fault_none, lawful_of, fault_unlawful}
use Rattle.theory.specs.Text.Uses.{all_used_get, some_unused}

-- ---- rows against the rules

-- a code that is neither a mark nor the row that is due
pub record BadCode (due : ℕ) (st : List Sub) (c : ℕ) : Type 0 where
  pub no_in : c ≢ 65535
  pub no_out : c ≢ 65534
  pub no_row : st ≢ [] → c ≢ due

-- no such plane; a back code or a front code against the rules
pub data BadRow (ps : List Plane) (r : ℕ) (st : List Sub) : Entry → Type 0 where
  no_plane : {n f b : ℕ} → length ps ≤ n → BadRow ps r st (entry n f b)
  bad_back : {n f b : ℕ} → BadCode (r - 1) st b → BadRow ps r st (entry n f b)
  bad_front : {n f b : ℕ} {B : Tree} {st' : List Sub} → take_child (r - 1) b st ≡ child B st' → BadCode (r - 1 - rows B) st' f → BadRow ps r st (entry n f b)

bad_code : (due c : ℕ) (st : List Sub) → take_child due c st ≡ against → BadCode due st c
unfolding take_child
bad_code due c st = by (eqb c 65535) (eqb c 65534) st (eq_test c 65535) (eq_test c 65534)
  where
    at : (t : Sub) (st : List Sub) (b : Bool) → (c ≡ due → T b) → c ≢ 65535 → c ≢ 65534 → cond b (child (tree t) st) against ≡ against → BadCode due (t ∷ st) c
    at t st true h f g e = differ (cc)
    at t st false h f g e = record { no_in = f; no_out = g; no_row = λ k. h }

    by : (b₁ b₂ : Bool) (st : List Sub) → (c ≡ 65535 → T b₁) → (c ≡ 65534 → T b₂) → cond b₁ (child (leaf IN) st) (cond b₂ (child (leaf OUT) st) (due_row due c st)) ≡ against → BadCode due st c
    by true b₂ st f g e = differ (cc)
    by false true st f g e = differ (cc)
    by false false [] f g e = record { no_in = f; no_out = g; no_row = λ k. absurd (k refl) }
    by false false (t ∷ st) f g e = at t st (eqb c due) (eq_test c due) f g e

code_against : (due c : ℕ) (st : List Sub) → BadCode due st c → take_child due c st ≡ against
unfolding take_child
code_against due c st b = rw (eq_false c 65535 b.no_in, eq_false c 65534 b.no_out) (by st b.no_row)
  where
    by : (st : List Sub) → (st ≢ [] → c ≢ due) → due_row due c st ≡ against
    by [] h = refl
    by (t ∷ st) h = ap (λ b. cond b (child (tree t) st) against) (eq_false c due (h (λ e. differ (cc))))

row_bad : (ps : List Plane) (r : ℕ) (st : List Sub) (e : Entry) → add_row ps r st e ≡ none → BadRow ps r st e
unfolding add_row
row_bad ps r st (entry n f b) = at_plane (get_elem? ps n) refl
  where
    at_front : (p : Plane) (B : Tree) (st₁ : List Sub) → take_child (r - 1) b st ≡ child B st₁ → (c : Child) → take_child (r - 1 - rows B) f st₁ ≡ c → with_front p B c ≡ none → BadRow ps r st (entry n f b)
    at_front p B st₁ h (child F st₂) k e = differ (cc)
    at_front p B st₁ h against k e = bad_front h (bad_code (r - 1 - rows B) f st₁ k)

    at_back : (p : Plane) (c : Child) → take_child (r - 1) b st ≡ c → with_back r p f c ≡ none → BadRow ps r st (entry n f b)
    at_back p (child B st₁) h e = at_front p B st₁ h (take_child (r - 1 - rows B) f st₁) refl e
    at_back p against h e = bad_back (bad_code (r - 1) b st h)

    outside_of : (b : Bool) → (T b → length ps ≤ n) → (T (not b) → n < length ps) → get_elem? ps n ≡ none → length ps ≤ n
    outside_of true f g e = f tt
    outside_of false f g e = let x = elem_at ps n (g tt) in differ (cc x.1)

    at_plane : (o : Option Plane) → get_elem? ps n ≡ o → with_plane r st f b o ≡ none → BadRow ps r st (entry n f b)
    at_plane none h e = no_plane (outside_of (leb (length ps) n) (leb→le (length ps) n) (nleb→lt (length ps) n) h)
    at_plane (some p) h e = at_back p (take_child (r - 1) b st) refl e

row_against : (ps : List Plane) (r : ℕ) (st : List Sub) (e : Entry) → BadRow ps r st e → add_row ps r st e ≡ none
unfolding add_row
row_against ps r st (entry n f b) (no_plane h) = by (get_elem? ps n) refl
  where
    by : (o : Option Plane) → get_elem? ps n ≡ o → with_plane r st f b o ≡ none
    by none e = refl
    by (some p) e = absurd (omega (arith, elem_small ps n {p = p} e))
row_against ps r st (entry n f b) (bad_back h) = by (get_elem? ps n)
  where
    by : (o : Option Plane) → with_plane r st f b o ≡ none
    by none = refl
    by (some p) = ap (with_back r p f) (code_against (r - 1) b st h)
row_against ps r st (entry n f b) (bad_front {B = B} {st' = st'} e h) = by (get_elem? ps n)
  where
    by : (o : Option Plane) → with_plane r st f b o ≡ none
    by none = refl
    by (some p) = ap (with_back r p f) e ∙ ap (with_front p B) (code_against (r - 1 - rows B) f st' h)

-- ---- the rules

-- what is due: a head, so many planes, so many nodes, an end
pub data Due : State → Frame → Type 0 where
  due_head : {n m r : ℕ} → Due fresh (head n m r)
  due_plane : {n m r : ℕ} {l : Option Plane} {ps : List Plane} {es : List Entry} {st : List Sub} {p : Plane} → Due (busy (suc n) m r l ps es st) (plane p)
  due_node : {m r : ℕ} {l : Option Plane} {ps : List Plane} {es : List Entry} {st : List Sub} {e : Entry} → Due (busy 0 (suc m) r l ps es st) (node_row e)
  due_end : {r : ℕ} {l : Option Plane} {ps : List Plane} {es : List Entry} {st : List Sub} → Due (busy 0 0 r l ps es st) end

-- why a line is refused
pub data Why (s : Rooms) : State → Frame → ℕ → Type 0 where
  malformed : {c : State} → Why s c bad 1
  not_due : {c : State} {f : Frame} → ¬ Due c f → f ≢ bad → Why s c f 2
  over : {n m r : ℕ} → (n ≤ most_planes → m ≤ most_nodes → ⊥) → Why s fresh (head n m r) 3
  bad_root : {n m r : ℕ} → n ≤ most_planes → m ≤ most_nodes → ¬ T (root_ok m r) → Why s fresh (head n m r) 6
  no_room : {n m r : ℕ} → n ≤ most_planes → m ≤ most_nodes → T (root_ok m r) → (n ≤ s.plane_rows → m ≤ s.node_rows → ⊥) → Why s fresh (head n m r) 8
  unlawful : {n m r : ℕ} {l : Option Plane} {ps : List Plane} {es : List Entry} {st : List Sub} {p : Plane} → ¬ Lawful p → Why s (busy (suc n) m r l ps es st) (plane p) 4
  not_after : {n m r : ℕ} {q : Plane} {ps : List Plane} {es : List Entry} {st : List Sub} {p : Plane} → Lawful p → ¬ Before q p → Why s (busy (suc n) m r (some q) ps es st) (plane p) 5
  bad_row : {m r : ℕ} {l : Option Plane} {ps : List Plane} {es : List Entry} {st : List Sub} {e : Entry} → BadRow ps (length es) st e → Why s (busy 0 (suc m) r l ps es st) (node_row e) 6
  unused : {r : ℕ} {l : Option Plane} {ps : List Plane} {es : List Entry} {st : List Sub} (k : ℕ) → k < length ps → ¬ T (uses k es) → Why s (busy 0 0 r l ps es st) end 5
  outside : {r : ℕ} {l : Option Plane} {ps : List Plane} {es : List Entry} {t u : Sub} {st : List Sub} → T (all_used (length ps) es) → Why s (busy 0 0 r l ps es (t ∷ u ∷ st)) end 6

-- a line that is taken, and the state after it
pub data Goes (s : Rooms) : State → Frame → State → Type 0 where
  head_goes : {n m r : ℕ} → n ≤ most_planes → m ≤ most_nodes → T (root_ok m r) → n ≤ s.plane_rows → m ≤ s.node_rows → Goes s fresh (head n m r) (busy n m r none [] [] [])
  plane_goes : {n m r : ℕ} {l : Option Plane} {ps : List Plane} {es : List Entry} {st : List Sub} {p : Plane} → Lawful p → T (follows l p) → Goes s (busy (suc n) m r l ps es st) (plane p) (busy n m r (some p) (ps ++ (p ∷ [])) es st)
  row_goes : {m r : ℕ} {l : Option Plane} {ps : List Plane} {es : List Entry} {st st' : List Sub} {e : Entry} → add_row ps (length es) st e ≡ some st' → Goes s (busy 0 (suc m) r l ps es st) (node_row e) (busy 0 m r l ps (es ++ (e ∷ [])) st')

-- an end line that is taken, and the tables read
pub data Ends : State → Frame → Tables → Type 0 where
  all_there : {r : ℕ} {l : Option Plane} {ps : List Plane} {es : List Entry} {st : List Sub} → T (all_used (length ps) es) → T (one_tree st) → Ends (busy 0 0 r l ps es st) end (tables ps es r)

data Judged (s : Rooms) (c : State) (f : Frame) : Step → Type 0 where
  going : {c' : State} → Goes s c f c' → Judged s c f (go c')
  ending : {a : Tables} → Ends c f a → Judged s c f (done a)
  refusing : {n : ℕ} → Why s c f n → Judged s c f (stop n)

-- ---- each line is judged by them

-- two counts against two limits
module _ (n N m M : ℕ) where
  counts_true : n ≤ N → m ≤ M → (leb n N and leb m M) ≡ true
  counts_true h k = is_true (leb n N and leb m M) (and_make (leb n N) (leb m M) (le→leb n N h) (le→leb m M k))

  counts_in : T (leb n N and leb m M) → (n ≤ N) × (m ≤ M)
  counts_in t = let x = and_split (leb n N) (leb m M) t in (leb→le n N x.0, leb→le m M x.1)

  counts_out : (leb n N and leb m M) ≡ false → n ≤ N → m ≤ M → ⊥
  counts_out e h k = differ (cc (counts_true h k))

  counts_false : (n ≤ N → m ≤ M → ⊥) → (leb n N and leb m M) ≡ false
  counts_false h = is_false (leb n N and leb m M) (λ t. let u = counts_in t in h u.0 u.1)

module _ (s : Rooms) where
  judged_head : (n m r : ℕ) (b c d : Bool) → (leb n most_planes and leb m most_nodes) ≡ b → root_ok m r ≡ c → in_rooms s n m ≡ d → Judged s fresh (head n m r) (head_by b c d (busy n m r none [] [] []))
  judged_head n m r false c d h i j = refusing (over (counts_out n most_planes m most_nodes h))
  judged_head n m r true false d h i j = let x = counts_in n most_planes m most_nodes (true_is (leb n most_planes and leb m most_nodes) h) in refusing (bad_root x.0 x.1 (λ t. subst T i t))
  judged_head n m r true true false h i j = let x = counts_in n most_planes m most_nodes (true_is (leb n most_planes and leb m most_nodes) h) in refusing (no_room x.0 x.1 (true_is (root_ok m r) i) (counts_out n s.plane_rows m s.node_rows j))
  judged_head n m r true true true h i j =
      let x = counts_in n most_planes m most_nodes (true_is (leb n most_planes and leb m most_nodes) h) in
      let y = counts_in n s.plane_rows m s.node_rows (true_is (in_rooms s n m) j) in
      going (head_goes x.0 x.1 (true_is (root_ok m r) i) y.0 y.1)

  judged_plane : (n m r : ℕ) (l : Option Plane) (ps : List Plane) (es : List Entry) (st : List Sub) (p : Plane) (o : Option Fault) (b : Bool) → fault p ≡ o → follows l p ≡ b
      → Judged s (busy (suc n) m r l ps es st) (plane p) (plane_by o b (busy n m r (some p) (ps ++ (p ∷ [])) es st))
  judged_plane n m r l ps es st p (some f) b h i = refusing (unlawful (fault_unlawful p f h))
  judged_plane n m r none ps es st p none false h i = differ (cc)
  judged_plane n m r (some q) ps es st p none false h i = refusing (not_after (lawful_of p h) (λ x. subst T i x.is))
  judged_plane n m r l ps es st p none true h i = going (plane_goes (lawful_of p h) (true_is (follows l p) i))

  judged_row : (m r : ℕ) (l : Option Plane) (ps : List Plane) (es : List Entry) (st : List Sub) (e : Entry) (o : Option (List Sub)) → add_row ps (length es) st e ≡ o
      → Judged s (busy 0 (suc m) r l ps es st) (node_row e) (row_by o (λ st'. busy 0 m r l ps (es ++ (e ∷ [])) st'))
  judged_row m r l ps es st e none h = refusing (bad_row (row_bad ps (length es) st e h))
  judged_row m r l ps es st e (some st') h = going (row_goes h)

  judged_end : (r : ℕ) (l : Option Plane) (ps : List Plane) (es : List Entry) (st : List Sub) (b : Bool) → all_used (length ps) es ≡ b → Judged s (busy 0 0 r l ps es st) end (end_by b (one_tree st) (tables ps es r))
  judged_end r l ps es st false h = let x = some_unused (length ps) es h in refusing (unused x.0 x.1 x.2)
  judged_end r l ps es [] true h = ending (all_there (true_is (all_used (length ps) es) h) tt)
  judged_end r l ps es (t ∷ []) true h = ending (all_there (true_is (all_used (length ps) es) h) tt)
  judged_end r l ps es (t ∷ u ∷ st) true h = refusing (outside (true_is (all_used (length ps) es) h))

  no : (c : State) (f : Frame) → ¬ Due c f → f ≢ bad → Judged s c f (stop 2)
  no c f h g = refusing (not_due h g)

  judged : (c : State) (f : Frame) → Judged s c f (step s c f)
  unfolding step judge_head
  judged fresh bad = refusing malformed
  judged fresh other = no fresh other (λ d. elim d [ ]) (λ e. differ (cc))
  judged fresh (operation o) = no fresh (operation o) (λ d. elim d [ ]) (λ e. differ (cc))
  judged fresh (head n m r) = judged_head n m r (leb n most_planes and leb m most_nodes) (root_ok m r) (in_rooms s n m) refl refl refl
  judged fresh (plane p) = no fresh (plane p) (λ d. elim d [ ]) (λ e. differ (cc))
  judged fresh (node_row e) = no fresh (node_row e) (λ d. elim d [ ]) (λ e. differ (cc))
  judged fresh end = no fresh end (λ d. elim d [ ]) (λ e. differ (cc))
  judged (busy (suc n) m r l ps es st) bad = refusing malformed
  judged (busy (suc n) m r l ps es st) other = no (busy (suc n) m r l ps es st) other (λ d. elim d [ ]) (λ e. differ (cc))
  judged (busy (suc n) m r l ps es st) (operation o) = no (busy (suc n) m r l ps es st) (operation o) (λ d. elim d [ ]) (λ e. differ (cc))
  judged (busy (suc n) m r l ps es st) (head i j k) = no (busy (suc n) m r l ps es st) (head i j k) (λ d. elim d [ ]) (λ e. differ (cc))
  judged (busy (suc n) m r l ps es st) (plane p) = judged_plane n m r l ps es st p (fault p) (follows l p) refl refl
  judged (busy (suc n) m r l ps es st) (node_row e) = no (busy (suc n) m r l ps es st) (node_row e) (λ d. elim d [ ]) (λ e. differ (cc))
  judged (busy (suc n) m r l ps es st) end = no (busy (suc n) m r l ps es st) end (λ d. elim d [ ]) (λ e. differ (cc))
  judged (busy zero (suc m) r l ps es st) bad = refusing malformed
  judged (busy zero (suc m) r l ps es st) other = no (busy zero (suc m) r l ps es st) other (λ d. elim d [ ]) (λ e. differ (cc))
  judged (busy zero (suc m) r l ps es st) (operation o) = no (busy zero (suc m) r l ps es st) (operation o) (λ d. elim d [ ]) (λ e. differ (cc))
  judged (busy zero (suc m) r l ps es st) (head i j k) = no (busy zero (suc m) r l ps es st) (head i j k) (λ d. elim d [ ]) (λ e. differ (cc))
  judged (busy zero (suc m) r l ps es st) (plane p) = no (busy zero (suc m) r l ps es st) (plane p) (λ d. elim d [ ]) (λ e. differ (cc))
  judged (busy zero (suc m) r l ps es st) (node_row e) = judged_row m r l ps es st e (add_row ps (length es) st e) refl
  judged (busy zero (suc m) r l ps es st) end = no (busy zero (suc m) r l ps es st) end (λ d. elim d [ ]) (λ e. differ (cc))
  judged (busy zero zero r l ps es st) bad = refusing malformed
  judged (busy zero zero r l ps es st) other = no (busy zero zero r l ps es st) other (λ d. elim d [ ]) (λ e. differ (cc))
  judged (busy zero zero r l ps es st) (operation o) = no (busy zero zero r l ps es st) (operation o) (λ d. elim d [ ]) (λ e. differ (cc))
  judged (busy zero zero r l ps es st) (head i j k) = no (busy zero zero r l ps es st) (head i j k) (λ d. elim d [ ]) (λ e. differ (cc))
  judged (busy zero zero r l ps es st) (plane p) = no (busy zero zero r l ps es st) (plane p) (λ d. elim d [ ]) (λ e. differ (cc))
  judged (busy zero zero r l ps es st) (node_row e) = no (busy zero zero r l ps es st) (node_row e) (λ d. elim d [ ]) (λ e. differ (cc))
  judged (busy zero zero r l ps es st) end = judged_end r l ps es st (all_used (length ps) es) refl

  module _ (c : State) (f : Frame) where
    -- a line that is refused breaks the rule of that number
    pub why : (n : ℕ) → step s c f ≡ stop n → Why s c f n
    why n e = by (rw e at (judged c f))
      where
        by : Judged s c f (stop n) → Why s c f n
        by (refusing w) = w

    -- a line that is taken is by the rules
    pub goes : (c' : State) → step s c f ≡ go c' → Goes s c f c'
    goes c' e = by (rw e at (judged c f))
      where
        by : Judged s c f (go c') → Goes s c f c'
        by (going g) = g

    -- so is an end
    pub ends : (a : Tables) → step s c f ≡ done a → Ends c f a
    ends a e = by (rw e at (judged c f))
      where
        by : Judged s c f (done a) → Ends c f a
        by (ending x) = x

-- ---- and no line otherwise

-- a frame that is not due is refused with 2
off : {s : Rooms} {c : State} {f : Frame} {x : Step} → ¬ Due c f → f ≢ bad → Judged s c f x → x ≡ stop 2
off h g (going (head_goes _ _ _ _ _)) = absurd (h due_head)
off h g (going (plane_goes _ _)) = absurd (h due_plane)
off h g (going (row_goes _)) = absurd (h due_node)
off h g (ending (all_there _ _)) = absurd (h due_end)
off h g (refusing malformed) = absurd (g refl)
off h g (refusing (not_due _ _)) = refl
off h g (refusing (over _)) = absurd (h due_head)
off h g (refusing (bad_root _ _ _)) = absurd (h due_head)
off h g (refusing (no_room _ _ _ _)) = absurd (h due_head)
off h g (refusing (unlawful _)) = absurd (h due_plane)
off h g (refusing (not_after _ _)) = absurd (h due_plane)
off h g (refusing (bad_row _)) = absurd (h due_node)
off h g (refusing (unused _ _ _)) = absurd (h due_end)
off h g (refusing (outside _)) = absurd (h due_end)

bad_1 : (s : Rooms) (c : State) → step s c bad ≡ stop 1
unfolding step
bad_1 s fresh = refl
bad_1 s (busy (suc n) m r l ps es st) = refl
bad_1 s (busy zero (suc m) r l ps es st) = refl
bad_1 s (busy zero zero r l ps es st) = refl

some_fault : (p : Plane) → ¬ Lawful p → (b : Bool) (c : State) → plane_by (fault p) b c ≡ stop 4
some_fault p h b c = by (fault p) refl
  where
    by : (o : Option Fault) → fault p ≡ o → plane_by o b c ≡ stop 4
    by none e = absurd (h (lawful_of p e))
    by (some f) e = refl

-- a line that breaks a rule is refused with its number
pub stops : {s : Rooms} {c : State} {f : Frame} {n : ℕ} → Why s c f n → step s c f ≡ stop n
unfolding step judge_head
stops {s} {c} malformed = bad_1 s c
stops {s} {c} {f} (not_due h g) = off h g (judged s c f)
stops {s} (over {n = n} {m = m} {r = r} h) = ap (λ b. head_by b (root_ok m r) (in_rooms s n m) (busy n m r none [] [] [])) (counts_false n most_planes m most_nodes h)
stops {s} (bad_root {n = n} {m = m} {r = r} i j h) = λ t. head_by (counts_true n most_planes m most_nodes i j t) (is_false (root_ok m r) h t) (in_rooms s n m) (busy n m r none [] [] [])
stops {s} (no_room {n = n} {m = m} {r = r} i j k h) = λ t. head_by (counts_true n most_planes m most_nodes i j t) (is_true (root_ok m r) k t) (counts_false n s.plane_rows m s.node_rows h t) (busy n m r none [] [] [])
stops (unlawful {n = n} {m = m} {r = r} {l = l} {ps = ps} {es = es} {st = st} {p = p} h) = some_fault p h (follows l p) (busy n m r (some p) (ps ++ (p ∷ [])) es st)
stops (not_after {n = n} {m = m} {r = r} {q = q} {ps = ps} {es = es} {st = st} {p = p} h k) = λ t. plane_by (fault_none p h t) (is_false (before q p) (λ x. k (record { is = x })) t) (busy n m r (some p) (ps ++ (p ∷ [])) es st)
stops (bad_row {m = m} {r = r} {l = l} {ps = ps} {es = es} {st = st} {e = e} h) = ap (λ o. row_by o (λ st'. busy zero m r l ps (es ++ (e ∷ [])) st')) (row_against ps (length es) st e h)
stops (unused {r = r} {ps = ps} {es = es} {st = st} k i h) = ap (λ b. end_by b (one_tree st) (tables ps es r)) (is_false (all_used (length ps) es) (λ t. h (all_used_get (length ps) es t k i)))
stops (outside {r = r} {ps = ps} {es = es} {t = t} {u = u} {st = st} h) = ap (λ b. end_by b (one_tree (t ∷ u ∷ st)) (tables ps es r)) (is_true (all_used (length ps) es) h)

-- so a line has one number
pub one_number : {s : Rooms} {c : State} {f : Frame} {m n : ℕ} → Why s c f m → Why s c f n → m ≡ n
one_number a b = cc (stops a, stops b)

-- a line that may go goes, and an end that may end ends
pub takes : {s : Rooms} {c c' : State} {f : Frame} → Goes s c f c' → step s c f ≡ go c'
unfolding step judge_head
takes {s} (head_goes {n = n} {m = m} {r = r} h i k u v) = λ t. head_by (counts_true n most_planes m most_nodes h i t) (is_true (root_ok m r) k t) (counts_true n s.plane_rows m s.node_rows u v t) (busy n m r none [] [] [])
takes (plane_goes {n = n} {m = m} {r = r} {l = l} {ps = ps} {es = es} {st = st} {p = p} h k) = λ t. plane_by (fault_none p h t) (is_true (follows l p) k t) (busy n m r (some p) (ps ++ (p ∷ [])) es st)
takes (row_goes {m = m} {r = r} {l = l} {ps = ps} {es = es} {e = e} h) = ap (λ o. row_by o (λ st'. busy zero m r l ps (es ++ (e ∷ [])) st')) h

-- so does an end
pub finishes : (s : Rooms) {c : State} {f : Frame} {a : Tables} → Ends c f a → step s c f ≡ done a
unfolding step
finishes s (all_there {r = r} {ps = ps} {es = es} {st = st} h k) = λ t. end_by (is_true (all_used (length ps) es) h t) (is_true (one_tree st) k t) (tables ps es r)

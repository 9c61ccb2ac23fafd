-- What holds of every state that lines lead to: the invariant of a loop over lines.
--     Busy, Sound             planes lawful and ascending, rows standing, counts within limits and rooms, the root code by the rules
--     step_sound              a line that is taken keeps it
--     Passed, passed_sound    so do lines that are taken, one after another
--     lines_to, step_lines    the lines that led to a state are its head, planes and nodes
--     busy_stands, rows_outside   the trees that stand; where two stand at the end, the root's tree has fewer rows than there are
use Rattle.std.specs.Prelude.{◌≡◌, refl, List, [], ◌∷◌, ◌++◌, ◌⊎◌, ℕ, zero, suc, ◌+◌, ◌≤◌, ◌<◌, T, length}
use Rattle.std.proofs.Common.{sym, ap, subst, ◌∙◌, inl, inr, arith, length-append}
use Rattle.std.proofs.Math.Option.{Option, none, some}
use Rattle.whole.specs.Members.{◌∈◌, here, there, in_either}
use Rattle.scope.specs.Limits.{most_planes, most_nodes}
use Rattle.scope.specs.Planes.{Plane, Lawful}
use Rattle.scope.specs.Solids.{rows, Entry}
use Rattle.scope.specs.Text.{Frame, head, plane, node_row, plane_frames, node_frames}
use Rattle.scope.specs.Judging.{Sub, sub, tree, add_row, root_ok, Rooms, State, fresh, busy, go, follows, step}
use Rattle.theory.specs.Text.Build.{build_on, build}
use Rattle.theory.specs.Planes.Order.{Before, before_trans}
use Rattle.theory.specs.Planes.Lists.{Ascending, empty, next}
use Rattle.theory.specs.Text.Stacks.{Stands, stands_none, build_cons, build_stands}
use Rattle.theory.specs.Text.Rules.{Goes, head_goes, plane_goes, row_goes, goes}

-- ---- the invariant

-- no rows before the last plane
abbrev pub Waiting : ℕ → List Entry → List Sub → Type 0
Waiting zero es st = Unit
Waiting (suc n) es st = (es ≡ []) × (st ≡ [])

-- l is the last plane, and q is that one or stands before it
pub record Last (l : Option Plane) (q : Plane) : Type 0 where
  pub plane : Plane
  pub is : l ≡ some plane
  pub order : (q ≡ plane) ⊎ Before q plane

-- n planes and m nodes are still due
pub record Busy (s : Rooms) (n m r : ℕ) (l : Option Plane) (ps : List Plane) (es : List Entry) (st : List Sub) : Type 0 where
  pub each : (p : Plane) → p ∈ ps → Lawful p
  pub strictly : Ascending ps
  pub last : (p : Plane) → p ∈ ps → Last l p
  pub built : build ps 0 [] es ≡ some st
  pub waiting : Waiting n es st
  pub few_planes : length ps + n ≤ most_planes
  pub few_rows : length es + m ≤ most_nodes
  pub plane_room : length ps + n ≤ s.plane_rows
  pub node_room : length es + m ≤ s.node_rows
  pub root : T (root_ok (length es + m) r)

abbrev pub Sound : Rooms → State → Type 0
Sound s fresh = Unit
Sound s (busy n m r l ps es st) = Busy s n m r l ps es st

-- ---- one plane or row more

ascending_end : {ps : List Plane} (p : Plane) → Ascending ps → ((q : Plane) → q ∈ ps → Before q p) → Ascending (ps ++ (p ∷ []))
ascending_end p empty h = next {p = p} {ps = []} (λ q m. elim m [ ]) empty
ascending_end p (next {p = q} {ps = ps} b a) h = next below (ascending_end p a (λ r m. h r (there m)))
  where
    only : {r : Plane} → r ∈ (p ∷ []) → Before q r
    only {r = r} (there x5) = elim x5 [ ]
    only (here e) = subst (λ i. Before q i) (sym e) (h q (here refl))

    below : (r : Plane) → r ∈ (ps ++ (p ∷ [])) → Before q r
    below r m = elim (in_either ps (p ∷ []) m) [ inl m ↦ b r m | inr m ↦ only m ]

build_end : (ps : List Plane) (k : ℕ) (st : List Sub) (es : List Entry) (d : Entry) (st₁ st₂ : List Sub) → build ps k st es ≡ some st₁ → add_row ps (k + length es) st₁ d ≡ some st₂ → build ps k st (es ++ (d ∷ [])) ≡ some st₂
unfolding build
build_end ps k st [] d st₁ st₂ h a = let x : st ≡ st₁ = cc in let y : k + 0 ≡ k = omega arith in rw (x, sym y) (ap (λ o. build_on o (λ st'. build ps (suc (k + 0)) st' [])) a)
build_end ps k st (e ∷ es) d st₁ st₂ h a =
    let x = build_cons ps k st e es st₁ h in
    let more : suc k + length es ≡ k + suc (length es) = omega arith in
    ap (λ o. build_on o (λ st'. build ps (suc k) st' (es ++ (d ∷ [])))) x.1 ∙ build_end ps (suc k) x.0 es d st₁ st₂ x.2 (rw more a)

length_end : {A : Type 0} (xs : List A) (x : A) (n : ℕ) → length (xs ++ (x ∷ [])) + n ≡ length xs + suc n
length_end xs x n = simp length-append (omega arith)

head_sound : (s : Rooms) (n m r : ℕ) → n ≤ most_planes → m ≤ most_nodes → T (root_ok m r) → n ≤ s.plane_rows → m ≤ s.node_rows → Busy s n m r none [] [] []
unfolding build
head_sound s n m r h k t u v = record {
  each = λ p k. elim k [ ];
  strictly = empty;
  last = λ p k. elim k [ ];
  built = refl;
  waiting = wait n;
  few_planes = omega arith;
  few_rows = omega arith;
  plane_room = omega arith;
  node_room = omega arith;
  root = let e : 0 + m ≡ m = omega arith in rw e t;
}
  where
    wait : (n : ℕ) → Waiting n [] []
    wait zero = tt
    wait (suc n) = (refl, refl)

plane_sound : (s : Rooms) (n m r : ℕ) (l : Option Plane) (ps : List Plane) (es : List Entry) (st : List Sub) (p : Plane) → Busy s (suc n) m r l ps es st → Lawful p → T (follows l p) → Busy s n m r (some p) (ps ++ (p ∷ [])) es st
unfolding build
plane_sound s n m r l ps es st p b h t = record {
  each = λ q k. elim (in_either ps (p ∷ []) k) [ inl k ↦ b.each q k | inr k ↦ subst Lawful (sym (same k)) h ];
  strictly = ascending_end p b.strictly earlier;
  last = λ q k. elim (in_either ps (p ∷ []) k) [ inl k ↦ record { plane = p; is = refl; order = inr (earlier q k) } | inr k ↦ record { plane = p; is = refl; order = inl (same k) } ];
  built = rw (b.waiting.0, b.waiting.1) refl;
  waiting = wait n;
  few_planes = rw (length_end ps p n) b.few_planes;
  few_rows = b.few_rows;
  plane_room = rw (length_end ps p n) b.plane_room;
  node_room = b.node_room;
  root = b.root;
}
  where
    wait : (n : ℕ) → Waiting n es st
    wait zero = tt
    wait (suc n) = b.waiting

    same : {q : Plane} → q ∈ (p ∷ []) → q ≡ p
    same {q = q} (there x3) = elim x3 [ ]
    same (here e) = e

    after : (q x : Plane) → l ≡ some x → (q ≡ x) ⊎ Before q x → Before q p
    after q x e o = let f : Before x p = record { is = subst (λ i. T (follows i p)) e t } in elim o [ inl d ↦ subst (λ i. Before i p) (sym d) f | inr d ↦ before_trans d f ]

    earlier : (q : Plane) → q ∈ ps → Before q p
    earlier q k = let x = b.last q k in after q x.plane x.is x.order

row_sound : (s : Rooms) (m r : ℕ) (l : Option Plane) (ps : List Plane) (es : List Entry) (st : List Sub) (d : Entry) (st' : List Sub) → Busy s 0 (suc m) r l ps es st → add_row ps (length es) st d ≡ some st' → Busy s 0 m r l ps (es ++ (d ∷ [])) st'
row_sound s m r l ps es st d st' b h = record {
  each = b.each;
  strictly = b.strictly;
  last = b.last;
  built = let e : 0 + length es ≡ length es = omega arith in build_end ps 0 [] es d st st' b.built (rw e h);
  waiting = tt;
  few_planes = b.few_planes;
  few_rows = rw (length_end es d m) b.few_rows;
  plane_room = b.plane_room;
  node_room = rw (length_end es d m) b.node_room;
  root = rw (length_end es d m) b.root;
}

-- ---- it is kept

go_sound : {s : Rooms} {c c' : State} {f : Frame} → Goes s c f c' → Sound s c → Sound s c'
go_sound {s} (head_goes {n = n} {m = m} {r = r} h i t u v) k = head_sound s n m r h i t u v
go_sound {s} (plane_goes {n = n} {m = m} {r = r} {l = l} {ps = ps} {es = es} {st = st} {p = p} h t) k = plane_sound s n m r l ps es st p k h t
go_sound {s} (row_goes {m = m} {r = r} {l = l} {ps = ps} {es = es} {st = st} {st' = st'} {e = e} h) k = row_sound s m r l ps es st e st' k h

-- a line that is taken keeps the invariant
pub step_sound : (s : Rooms) (c : State) (f : Frame) (c' : State) → Sound s c → step s c f ≡ go c' → Sound s c'
step_sound s c f c' k e = go_sound (goes s c f c' e) k

-- lines that are taken, one after another
pub data Passed (s : Rooms) : State → List Frame → State → Type 0 where
  none_yet : {c : State} → Passed s c [] c
  taken : {c c' d : State} {f : Frame} {fs : List Frame} → step s c f ≡ go c' → Passed s c' fs d → Passed s c (f ∷ fs) d

-- so do all lines that are taken
pub passed_sound : {s : Rooms} {c d : State} {fs : List Frame} → Passed s c fs d → Sound s c → Sound s d
passed_sound none_yet k = k
passed_sound {s} (taken {c = c} {c' = c'} {f = f} h r) k = passed_sound r (step_sound s c f c' k h)

-- ---- the lines that led there

-- head, planes and nodes so far
abbrev pub lines_to : State → List Frame
lines_to fresh = []
lines_to (busy n m r l ps es st) = head (length ps + n) (length es + m) r ∷ plane_frames ps (node_frames es [])

-- what follows frames
pub planes_then : (ps : List Plane) (fs gs : List Frame) → plane_frames ps fs ++ gs ≡ plane_frames ps (fs ++ gs)
planes_then [] fs gs = refl
planes_then (p ∷ ps) fs gs = ap (λ i. plane p ∷ i) (planes_then ps fs gs)

planes_end : (ps : List Plane) (p : Plane) (fs : List Frame) → plane_frames (ps ++ (p ∷ [])) fs ≡ plane_frames ps (plane p ∷ fs)
planes_end [] p fs = refl
planes_end (q ∷ ps) p fs = ap (λ i. plane q ∷ i) (planes_end ps p fs)

pub nodes_then : (es : List Entry) (fs gs : List Frame) → node_frames es fs ++ gs ≡ node_frames es (fs ++ gs)
nodes_then [] fs gs = refl
nodes_then (e ∷ es) fs gs = ap (λ i. node_row e ∷ i) (nodes_then es fs gs)

nodes_end : (es : List Entry) (e : Entry) (fs : List Frame) → node_frames (es ++ (e ∷ [])) fs ≡ node_frames es (node_row e ∷ fs)
nodes_end [] e fs = refl
nodes_end (d ∷ es) e fs = ap (λ i. node_row d ∷ i) (nodes_end es e fs)

go_lines : {s : Rooms} {c c' : State} {f : Frame} → Goes s c f c' → Sound s c → lines_to c' ≡ lines_to c ++ (f ∷ [])
go_lines (head_goes {n = n} {m = m} {r = r} h i t u v) k = let x : 0 + n ≡ n = omega arith in let y : 0 + m ≡ m = omega arith in λ i. head (x i) (y i) r ∷ []
go_lines (plane_goes {n = n} {m = m} {r = r} {ps = ps} {es = es} {p = p} h t) k =
    rw k.waiting.0 (λ i. head (length_end ps p n i) (0 + m) r ∷ (planes_end ps p [] ∙ sym (planes_then ps [] (plane p ∷ []))) i)
go_lines (row_goes {m = m} {r = r} {ps = ps} {es = es} {e = e} h) k =
    λ i. head (length ps + 0) (length_end es e m i) r ∷ (ap (plane_frames ps) (nodes_end es e [] ∙ sym (nodes_then es [] (node_row e ∷ []))) ∙ sym (planes_then ps (node_frames es []) (node_row e ∷ []))) i

-- a line that is taken is the next of them
pub step_lines : (s : Rooms) (c : State) (f : Frame) (c' : State) → Sound s c → step s c f ≡ go c' → lines_to c' ≡ lines_to c ++ (f ∷ [])
step_lines s c f c' k e = go_lines (goes s c f c' e) k

-- ---- the trees that stand

-- the trees of a state have exactly the rows read
pub busy_stands : {s : Rooms} {n m r : ℕ} {l : Option Plane} {ps : List Plane} {es : List Entry} {st : List Sub} → Busy s n m r l ps es st → Stands ps st es
busy_stands {ps = ps} {es = es} {st = st} k = build_stands ps [] st [] es k.strictly (stands_none ps) k.built

-- two trees at the end: rows are outside the root's tree, refusal 6
pub rows_outside : {s : Rooms} {n m r : ℕ} {l : Option Plane} {ps : List Plane} {es : List Entry} {t u : Sub} {st : List Sub} → Busy s n m r l ps es (t ∷ u ∷ st) → rows (tree t) < length es
unfolding rows
rows_outside {t = t} {u = sub p f b} k = omega (arith, (busy_stands k).count)

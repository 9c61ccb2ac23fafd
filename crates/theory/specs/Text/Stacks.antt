-- Rows make trees: the trees that stand when rows are read one by one, and the rows that they stand for.
--     last_row, entries_node                          the rows of a tree: those of its front, of its back, its own
--     Stands, stands_none, build_stands               the trees left on the stack have exactly the rows read
--     build_cons                                      rows are read one by one
--     push, build_tree                                the rows of a tree are built into that tree
--     rows_length                                     a tree has as many rows as it has nodes
use Rattle.std.specs.Prelude.{◌≡◌, refl, Bool, true, false, cond, List, [], ◌∷◌, ◌++◌, ℕ, suc, ◌+◌, ◌-◌, ◌≤◌, T, eqb, length}
use Rattle.std.proofs.Common.{sym, ap, subst, ◌∙◌, append_assoc, append-nil, inl, inr, arith, eqb→eq, length-append}
use Rattle.std.proofs.Math.Option.{Option, none, some}
use Rattle.std.proofs.Math.ListN.{get_elem?}
use Rattle.whole.specs.Members.{◌∈◌, here, there, in_left, in_right, in_either, elem_in}
use Rattle.whole.specs.Tests.{eq_true, eq_false, differ}
use Rattle.scope.specs.Planes.{Plane}
use Rattle.scope.specs.Solids.{Mark, IN, OUT, Tree, leaf, node, rows, planes, mark, Row, a_row, code, post, Entry, entry, number, entry_of, entries}
use Rattle.scope.specs.Judging.{Sub, sub, tree, Child, child, against, due_row, take_child, with_front, with_back, with_plane, add_row}
use Rattle.scope.specs.Limits.{most_nodes}
use Rattle.theory.specs.Text.Build.{build_on, build}
use Rattle.theory.specs.Planes.Lists.{Ascending, place_at, place_of}
use Rattle.theory.specs.Text.Rows.{post_length}

-- ---- rows of trees

entries_append : (ps : List Plane) (xs ys : List Row) → entries ps (xs ++ ys) ≡ entries ps xs ++ entries ps ys
entries_append ps [] ys = refl
entries_append ps (x ∷ xs) ys = ap (λ l. entry_of ps x ∷ l) (entries_append ps xs ys)

-- the row of a tree's own node, after the rows below it
abbrev pub last_row : List Plane → ℕ → Plane → Tree → Tree → Entry
last_row ps n p f b = entry_of ps (a_row p (code n f) (code (n + rows f) b))

pub entries_node : (ps : List Plane) (n : ℕ) (p : Plane) (f b : Tree) → entries ps (post n (node p f b)) ≡ (entries ps (post n f) ++ entries ps (post (n + rows f) b)) ++ (last_row ps n p f b ∷ [])
unfolding post
entries_node ps n p f b = simp entries_append

entries_length : (ps : List Plane) (xs : List Row) → length (entries ps xs) ≡ length xs
entries_length ps [] = refl
entries_length ps (x ∷ xs) = ap suc (entries_length ps xs)

-- ---- the trees that stand

-- the rows of a stack of trees, how many they are, and their planes
abbrev pub total : List Sub → ℕ
total [] = 0
total (t ∷ st) = total st + rows (tree t)

abbrev pub forest : List Sub → List Plane
forest [] = []
forest (t ∷ st) = planes (tree t) ++ forest st

abbrev pub unstack : List Plane → List Sub → List Entry
unstack ps [] = []
unstack ps (t ∷ st) = unstack ps st ++ entries ps (post (total st) (tree t))

-- the trees of a stack, and the rows that they stand for
pub record Stands (ps : List Plane) (st : List Sub) (es : List Entry) : Type 0 where
  pub rows_are : unstack ps st ≡ es
  pub count : total st ≡ length es
  pub from : (p : Plane) → p ∈ forest st → p ∈ ps

-- no trees, no rows
pub stands_none : (ps : List Plane) → Stands ps [] []
stands_none ps = record { rows_are = refl; count = refl; from = λ p m. elim m [ ] }

-- the code c takes the tree t from the stack st, and leaves st'
record Took (ps : List Plane) (st : List Sub) (c : ℕ) (t : Tree) (st' : List Sub) : Type 0 where
  count : total st ≡ total st' + rows t
  rows_are : unstack ps st ≡ unstack ps st' ++ entries ps (post (total st') t)
  is : c ≡ number (code (total st') t)
  tree_in : (p : Plane) → p ∈ planes t → p ∈ forest st
  rest_in : (p : Plane) → p ∈ forest st' → p ∈ forest st

took_mark : (ps : List Plane) (st : List Sub) (m : Mark) → Took ps st (number (mark m)) (leaf m) st
unfolding rows post code
took_mark ps st m = record { count = omega arith; rows_are = sym (append-nil (unstack ps st)); is = refl; tree_in = λ p k. elim k [ ]; rest_in = λ p k. k }

took_row : (ps : List Plane) (u : Sub) (st : List Sub) (c : ℕ) → c ≡ total (u ∷ st) - 1 → Took ps (u ∷ st) c (tree u) st
unfolding rows post code
took_row ps (sub p f b) st c e = record { count = refl; rows_are = refl; is = omega arith; tree_in = λ q k. in_left (forest st) k; rest_in = λ q k. in_right (planes (node p f b)) k }

took : (ps : List Plane) (st : List Sub) (due c : ℕ) (t : Tree) (st' : List Sub) → due ≡ total st - 1 → take_child due c st ≡ child t st' → Took ps st c t st'
unfolding take_child
took ps st due c t st' d = go (eqb c 65535) (eqb c 65534) (eqb→eq c 65535) (eqb→eq c 65534) st d
  where
    to : {s : List Sub} {u : Tree} {s' : List Sub} → Took ps s c u s' → child u s' ≡ child t st' → Took ps s c t st'
    to {s} {u} {s'} k e = let x : u ≡ t = cc in let y : s' ≡ st' = cc in subst (λ i. Took ps s c i st') x (subst (λ i. Took ps s c u i) y k)

    at : (s : List Sub) (u : Sub) (b : Bool) → (T b → c ≡ due) → due ≡ total (u ∷ s) - 1 → cond b (child (tree u) s) against ≡ child t st' → Took ps (u ∷ s) c t st'
    at s u true f d e = to (took_row ps u s c (f tt ∙ d)) e
    at s u false f d e = differ (cc)

    go : (b₁ b₂ : Bool) → (T b₁ → c ≡ 65535) → (T b₂ → c ≡ 65534) → (s : List Sub) → due ≡ total s - 1 → cond b₁ (child (leaf IN) s) (cond b₂ (child (leaf OUT) s) (due_row due c s)) ≡ child t st' → Took ps s c t st'
    go true b₂ f g s d e = to (subst (λ i. Took ps s i (leaf IN) s) (sym (f tt)) (took_mark ps s IN)) e
    go false true f g s d e = to (subst (λ i. Took ps s i (leaf OUT) s) (sym (g tt)) (took_mark ps s OUT)) e
    go false false f g [] d e = differ (cc)
    go false false f g (u ∷ s) d e = at s u (eqb c due) (eqb→eq c due) d e

-- a row joins what stands
made : (ps : List Plane) (st st₁ st₂ : List Sub) (es : List Entry) (n f b : ℕ) (p : Plane) (F B : Tree) → Ascending ps → Stands ps st es → get_elem? ps n ≡ some p
    → Took ps st b B st₁ → Took ps st₁ f F st₂ → Stands ps (sub p F B ∷ st₂) (es ++ (entry n f b ∷ []))
unfolding rows
made ps st st₁ st₂ es n f b p F B a s e k l = record { rows_are = rows_are; count = count; from = from }
  where
    back : unstack ps st ≡ unstack ps st₁ ++ entries ps (post (total st₂ + rows F) B)
    back = subst (λ i. unstack ps st ≡ unstack ps st₁ ++ entries ps (post i B)) l.count k.rows_are

    last : last_row ps (total st₂) p F B ≡ entry n f b
    last = λ i. entry (place_of n a e i) (sym l.is i) (sym (k.is ∙ ap (λ j. number (code j B)) l.count) i)

    regroup : (u v w x : List Entry) → u ++ ((v ++ w) ++ x) ≡ ((u ++ v) ++ w) ++ x
    regroup u v w x = simp append_assoc

    rows_are : unstack ps st₂ ++ entries ps (post (total st₂) (node p F B)) ≡ es ++ (entry n f b ∷ [])
    rows_are = ap (λ x. unstack ps st₂ ++ x) (entries_node ps (total st₂) p F B)
        ∙ regroup (unstack ps st₂) (entries ps (post (total st₂) F)) (entries ps (post (total st₂ + rows F) B)) (last_row ps (total st₂) p F B ∷ [])
        ∙ (λ i. (sym l.rows_are i ++ entries ps (post (total st₂ + rows F) B)) ++ (last i ∷ []))
        ∙ ap (λ x. x ++ (entry n f b ∷ [])) (sym back ∙ s.rows_are)

    count : total st₂ + rows (node p F B) ≡ length (es ++ (entry n f b ∷ []))
    count = simp length-append (omega (arith, k.count, l.count, s.count))

    from : (q : Plane) → q ∈ ((p ∷ (planes F ++ planes B)) ++ forest st₂) → q ∈ ps
    from q (here d) = subst (λ i. i ∈ ps) (sym d) (elem_in ps n e)
    from q (there m) = elim (in_either (planes F ++ planes B) (forest st₂) m) [
      | inl m ↦ elim (in_either (planes F) (planes B) m) [ inl m ↦ s.from q (k.rest_in q (l.tree_in q m)) | inr m ↦ s.from q (k.tree_in q m) ]
      | inr m ↦ s.from q (k.rest_in q (l.rest_in q m))
    ]

-- a row that is taken stands
add_stands : (ps : List Plane) (st st' : List Sub) (es : List Entry) (e : Entry) → Ascending ps → Stands ps st es → add_row ps (length es) st e ≡ some st' → Stands ps st' (es ++ (e ∷ []))
unfolding add_row
add_stands ps st st' es (entry n f b) a s = at_plane (get_elem? ps n) refl
  where
    at_front : (p : Plane) (B : Tree) (st₁ : List Sub) → get_elem? ps n ≡ some p → Took ps st b B st₁ → (c : Child) → take_child (length es - 1 - rows B) f st₁ ≡ c → with_front p B c ≡ some st' → Stands ps st' (es ++ (entry n f b ∷ []))
    at_front p B st₁ h k (child F st₂) d e =
        let x : sub p F B ∷ st₂ ≡ st' = cc in
        rw x at (made ps st st₁ st₂ es n f b p F B a s h k (took ps st₁ (length es - 1 - rows B) f F st₂ (omega (arith, k.count, s.count)) d))
    at_front p B st₁ h k against d e = differ (cc)

    at_back : (p : Plane) → get_elem? ps n ≡ some p → (c : Child) → take_child (length es - 1) b st ≡ c → with_back (length es) p f c ≡ some st' → Stands ps st' (es ++ (entry n f b ∷ []))
    at_back p h (child B st₁) d e = at_front p B st₁ h (took ps st (length es - 1) b B st₁ (omega (arith, s.count)) d) (take_child (length es - 1 - rows B) f st₁) refl e
    at_back p h against d e = differ (cc)

    at_plane : (o : Option Plane) → get_elem? ps n ≡ o → with_plane (length es) st f b o ≡ some st' → Stands ps st' (es ++ (entry n f b ∷ []))
    at_plane none h e = differ (cc)
    at_plane (some p) h e = at_back p h (take_child (length es - 1) b st) refl e

-- the first of more rows, and the rest
pub build_cons : (ps : List Plane) (r : ℕ) (st : List Sub) (e : Entry) (es : List Entry) (st' : List Sub) → build ps r st (e ∷ es) ≡ some st'
    → (st₁ : List Sub) × (add_row ps r st e ≡ some st₁) × (build ps (suc r) st₁ es ≡ some st')
unfolding build
build_cons ps r st e es st' = by (add_row ps r st e)
  where
    by : (o : Option (List Sub)) → build_on o (λ st₁. build ps (suc r) st₁ es) ≡ some st' → (st₁ : List Sub) × (o ≡ some st₁) × (build ps (suc r) st₁ es ≡ some st')
    by none h = differ (cc)
    by (some st₁) h = (st₁, refl, h)

-- so do rows, one after another
pub build_stands : (ps : List Plane) (st st' : List Sub) (es fs : List Entry) → Ascending ps → Stands ps st es → build ps (length es) st fs ≡ some st' → Stands ps st' (es ++ fs)
unfolding build
build_stands ps st st' es [] a s e = let x : st ≡ st' = cc in rw append-nil (subst (λ i. Stands ps i es) x s)
build_stands ps st st' es (f ∷ fs) a s e =
    let x = build_cons ps (length es) st f fs st' e in
    let n : length (es ++ (f ∷ [])) ≡ suc (length es) = simp length-append (omega arith) in
    rw append_assoc at (build_stands ps x.0 st' (es ++ (f ∷ [])) fs a (add_stands ps st x.0 es f a s x.1) (rw n x.2))

-- ---- the rows of a tree are built into it

-- a mark has no rows
abbrev pub push : Tree → List Sub → List Sub
push (leaf m) st = st
push (node p f b) st = sub p f b ∷ st

take_push : (due m : ℕ) (t : Tree) (st : List Sub) → m + rows t ≤ most_nodes → due ≡ m + rows t - 1 → take_child due (number (code m t)) (push t st) ≡ child t st
unfolding take_child code rows
take_push due m (leaf IN) st h d = refl
take_push due m (leaf OUT) st h d = refl
take_push due m (node p f b) st h d =
    let e : m + rows f + rows b ≡ due = omega arith in
    rw (eq_false (m + rows f + rows b) 65535 (λ e. omega arith), eq_false (m + rows f + rows b) 65534 (λ e. omega arith), e, eq_true due)

add_made : (ps : List Plane) (p : Plane) (f b : Tree) (st : List Sub) (n : ℕ) → n + suc (rows f + rows b) ≤ most_nodes → p ∈ ps → add_row ps (n + rows f + rows b) (push b (push f st)) (last_row ps n p f b) ≡ some (sub p f b ∷ st)
unfolding add_row
add_made ps p f b st n h m =
    ap (with_plane (n + rows f + rows b) (push b (push f st)) (number (code n f)) (number (code (n + rows f) b))) (place_at m)
    ∙ ap (with_back (n + rows f + rows b) p (number (code n f))) (take_push (n + rows f + rows b - 1) (n + rows f) b (push f st) (omega arith) (omega arith))
    ∙ ap (with_front p b) (take_push (n + rows f + rows b - 1 - rows b) n f st (omega arith) (omega arith))

grow : (ps : List Plane) (t : Tree) (st : List Sub) (n : ℕ) (es : List Entry) → n + rows t ≤ most_nodes → ((p : Plane) → p ∈ planes t → p ∈ ps) → build ps n st (entries ps (post n t) ++ es) ≡ build ps (n + rows t) (push t st) es
unfolding post rows build
grow ps (leaf m) st n es h k = ap (λ i. build ps i st es) (omega arith)
grow ps (node p f b) st n es h k =
    ap (build ps n st) (ap (λ i. i ++ es) (entries_node ps n p f b) ∙ regroup (entries ps (post n f)) (entries ps (post (n + rows f) b)) (last_row ps n p f b ∷ []))
    ∙ grow ps f st n (entries ps (post (n + rows f) b) ++ (last_row ps n p f b ∷ es)) (omega arith) (λ q m. k q (there (in_left (planes b) m)))
    ∙ grow ps b (push f st) (n + rows f) (last_row ps n p f b ∷ es) (omega arith) (λ q m. k q (there (in_right (planes f) m)))
    ∙ ap (λ o. build_on o (λ st'. build ps (suc (n + rows f + rows b)) st' es)) (add_made ps p f b st n h (k p (here refl)))
    ∙ ap (λ i. build ps i (sub p f b ∷ st) es) (omega arith)
  where
    regroup : (u v w : List Entry) → ((u ++ v) ++ w) ++ es ≡ u ++ (v ++ (w ++ es))
    regroup u v w = simp append_assoc

-- the rows of a tree are built into it
pub build_tree : (ps : List Plane) (t : Tree) → rows t ≤ most_nodes → ((p : Plane) → p ∈ planes t → p ∈ ps) → build ps 0 [] (entries ps (post 0 t)) ≡ some (push t [])
unfolding build
build_tree ps t h k = ap (build ps 0 []) (sym (append-nil (entries ps (post 0 t)))) ∙ grow ps t [] 0 [] (omega arith) k

-- a tree has as many entries as nodes
pub rows_length : (ps : List Plane) (t : Tree) → length (entries ps (post 0 t)) ≡ rows t
rows_length ps t = entries_length ps (post 0 t) ∙ post_length 0 t

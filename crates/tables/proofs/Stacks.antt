-- The work table: sizes of trees at its first places, and marks of planes.
use mathlib.Core.Path.{◌≡◌, refl, sym, ap, ◌∙◌}
use mathlib.Core.Bool.{Bool, true, false, cond, not, ◌&&◌}
use mathlib.Core.List.{List, [], ◌∷◌}
use mathlib.Core.Logic.{◌≢◌}
use mathlib.Core.Option.{none, some}
use Prim.Native.Nat.{ℕ, zero, suc, ◌+◌, ◌-◌, ◌≤◌, ◌<◌}
use native.Mathlib.Omega.{arith}
use native.Mathlib.Numerals.{add-one}
use lib.Dec.{T, leb, eqb, eqb→eq}
use lib.IntN.{ℤ, pos, nat_abs}
use lib.ListN.{length, get_or, take, drop, set, length-set, length-drop}
use lib.Seq.{get_or-set_same, get_or-set_other, take-suc}
use borrow.Author.Tests.{lt-ltb, le-ltb, lt-leb}
use Rattle.std.specs.Prelude.{Option as Maybe, Some, None}
use Rattle.std.specs.List.{list_all}
use Rattle.std.proofs.lemmas.List.{get_or-take, get_or-drop, length-take-le}
use Rattle.std.proofs.lemmas.List.Folds.{list_all-append}
use Rattle.whole.specs.Tests.{◌and◌, ◌or◌, differ, eq_false, eq_true, eq_test}
use Rattle.scope.specs.Planes.{is_zero}
use Rattle.scope.specs.Solids.{Entry, entry}
use Rattle.scope.specs.Judging.{Sub, uses, all_used, one_tree}
use Rattle.theory.specs.Text.Counts.{sizes, one_size, one_sizes, Counted, counted, wrong, due_size, size_child, size_front, size_back, size_row}
use Rattle.tables.specs.Work.{stack, sizes_in, total, marked, all_marked}
use Rattle.tables.specs.Promises.{counted_in, grown}
use Rattle.tables.specs.declared.Child.{Child}

-- ---- the child that a code names

module _ (due c : ℕ) (ks : List ℕ) where
  pub child_in : c ≡ 65535 → size_child due c ks ≡ counted 0 ks
  unfolding size_child
  child_in e = rw e refl

  pub child_out : (c ≡ 65535 → ⊥) → c ≡ 65534 → size_child due c ks ≡ counted 0 ks
  unfolding size_child
  child_out n e = rw (eq_false c 65535 n, e) refl

  child_due : (c ≡ 65535 → ⊥) → (c ≡ 65534 → ⊥) → size_child due c ks ≡ due_size due c ks
  unfolding size_child
  child_due n o = rw (eq_false c 65535 n, eq_false c 65534 o) refl

module _ (due c : ℕ) (w : List ℤ) (d : ℕ) (n : c ≡ 65535 → ⊥) (o : c ≡ 65534 → ⊥) where
  pub child_none : d ≡ 0 → size_child due c (stack w d) ≡ wrong
  unfolding stack
  child_none e = rw e (child_due due c [] n o)

  pub child_wrong : (c ≡ due → ⊥) → size_child due c (stack w d) ≡ wrong
  child_wrong k = child_due due c (stack w d) n o ∙ go (stack w d)
    where
      go : (ks : List ℕ) → due_size due c ks ≡ wrong
      go [] = refl
      go (j ∷ ks) = rw (eq_false c due k) refl

  pub child_top : (d ≡ 0 → ⊥) → c ≡ due → size_child due c (stack w d) ≡ counted (nat_abs (get_or w (d - 1) (pos 0))) (stack w (d - 1))
  unfolding stack
  child_top k e = child_due due c (stack w d) n o ∙ go d k
    where
      go : (d : ℕ) → (d ≡ 0 → ⊥) → due_size due c (stack w d) ≡ counted (nat_abs (get_or w (d - 1) (pos 0))) (stack w (d - 1))
      go zero k = absurd (k refl)
      go (suc d) k = let f : suc d - 1 ≡ d = omega arith in rw (f, e, eq_true due) refl

-- a child's rows are among those of the stack
pub child_total : (due c : ℕ) (ks : List ℕ) (k : ℕ) (js : List ℕ) → size_child due c ks ≡ counted k js → (k + total js ≤ total ks) × (length js ≤ length ks)
unfolding size_child total
child_total due c ks k js e = go (eqb c 65535) (eqb c 65534) ks e
  where
    same : (i : ℕ) (is : List ℕ) → counted i is ≡ counted k js → (k + total js ≤ i + total is) × (length js ≤ length is)
    same i is e = let f : k ≡ i = cc in let g : js ≡ is = cc in rw (f, g) (omega arith, omega arith)

    at : (b : Bool) (i : ℕ) (is : List ℕ) → cond b (counted i is) wrong ≡ counted k js → (k + total js ≤ i + total is) × (length js ≤ suc (length is))
    at true i is e = let s = same i is e in (s.0, omega (arith, s.1))
    at false i is e = differ (cc)

    go : (a b : Bool) (ks : List ℕ) → cond a (counted 0 ks) (cond b (counted 0 ks) (due_size due c ks)) ≡ counted k js → (k + total js ≤ total ks) × (length js ≤ length ks)
    go true b ks e = let s = same 0 ks e in (omega (arith, s.0), s.1)
    go false true ks e = let s = same 0 ks e in (omega (arith, s.0), s.1)
    go false false [] e = differ (cc)
    go false false (i ∷ is) e = at (eqb c due) i is e

pub stack_length : (w : List ℤ) (d : ℕ) → length (stack w d) ≡ d
unfolding stack
stack_length w zero = refl
stack_length w (suc d) = ap suc (stack_length w d)

-- what a child leaves of the stack
pub child_left : (due c : ℕ) (w : List ℤ) (d k e : ℕ) → size_child due c (stack w d) ≡ counted k (stack w e) → (k + total (stack w e) ≤ total (stack w d)) × (e ≤ d)
child_left due c w d k e h = let s = child_total due c (stack w d) k (stack w e) h in (s.0, omega (arith, s.1, stack_length w e, stack_length w d))

-- ---- a row over its children

module _ (n r : ℕ) (ks : List ℕ) where
  pub row_far : (p f b : ℕ) → n ≤ p → size_row n r ks (entry p f b) ≡ none
  unfolding size_row
  row_far p f b h = rw (le-ltb p n h) refl

  pub row_near : (p f b : ℕ) → p < n → size_row n r ks (entry p f b) ≡ size_back r f (size_child (r - 1) b ks)
  unfolding size_row
  row_near p f b h = rw (lt-ltb p n h) refl

-- the tree that grows has one row more than its children
pub grown_total : (r f b : ℕ) (ks : List ℕ) (k : ℕ) (js : List ℕ) → size_back r f (size_child (r - 1) b ks) ≡ some (k ∷ js) → (k + total js ≤ suc (total ks)) × (length js ≤ length ks)
grown_total r f b ks k js = back (size_child (r - 1) b ks) refl
  where
    front : (B : ℕ) (is : List ℕ) → size_child (r - 1) b ks ≡ counted B is → (x : Counted) → size_child (r - 1 - B) f is ≡ x → size_front B x ≡ some (k ∷ js) → (k + total js ≤ suc (total ks)) × (length js ≤ length ks)
    front B is h (counted F hs) g e =
        let i : k ≡ suc (F + B) = cc in
        let j : js ≡ hs = cc in
        let u = child_total (r - 1) b ks B is h in
        let v = child_total (r - 1 - B) f is F hs g in
        rw (i, j) (omega (arith, u.0, v.0), omega (arith, u.1, v.1))
    front B is h wrong g e = differ (cc)

    back : (x : Counted) → size_child (r - 1) b ks ≡ x → size_back r f x ≡ some (k ∷ js) → (k + total js ≤ suc (total ks)) × (length js ≤ length ks)
    back (counted B is) h e = front B is h (size_child (r - 1 - B) f is) refl e
    back wrong h e = differ (cc)

pub grown_left : (r f b : ℕ) (w : List ℤ) (d k e : ℕ) → size_back r f (size_child (r - 1) b (stack w d)) ≡ some (k ∷ stack w e) → (k + total (stack w e) ≤ suc (total (stack w d))) × (e ≤ d)
grown_left r f b w d k e h = let s = grown_total r f b (stack w d) k (stack w e) h in (s.0, omega (arith, s.1, stack_length w e, stack_length w d))

-- ---- a slice of the first places

pub stack_take : (w : List ℤ) (k d : ℕ) → d ≤ k → stack (take k w) d ≡ stack w d
unfolding stack
stack_take w k zero h = refl
stack_take w k (suc d) h = λ j. nat_abs (get_or-take k w d (pos 0) (omega arith) j) ∷ stack_take w k d (omega arith) j

module _ (w : List ℤ) (k : ℕ) (h : k ≤ length w) where
  pub sizes_take : sizes_in (take k w) ≡ stack w k
  sizes_take = ap (stack (take k w)) (length-take-le k w h) ∙ stack_take w k k (omega arith)

  -- a child of such a slice, and a tree over two, are those of the table
  pub child_take : (due c : ℕ) (o : Maybe Child) → size_child due c (sizes_in (take k w)) ≡ counted_in (take k w) o → size_child due c (stack w k) ≡ counted_in w o
  child_take due c None e = rw (← sizes_take) e
  child_take due c (Some t) e =
      let l = child_left due c (take k w) (length (take k w)) t.rows t.below e in
      rw (← sizes_take) (e ∙ ap (counted t.rows) (stack_take w k t.below (omega (arith, l.1, length-take-le k w h))))

  pub grown_take : (r f b : ℕ) (o : Maybe Child) → size_back r f (size_child (r - 1) b (sizes_in (take k w))) ≡ grown (take k w) o → size_back r f (size_child (r - 1) b (stack w k)) ≡ grown w o
  grown_take r f b None e = rw (← sizes_take) e
  grown_take r f b (Some t) e =
      let l = grown_left r f b (take k w) (length (take k w)) t.rows t.below e in
      rw (← sizes_take) (e ∙ ap (λ ks. some (t.rows ∷ ks)) (stack_take w k t.below (omega (arith, l.1, length-take-le k w h))))

-- ---- stores

pub stack_other : (w : List ℤ) (i : ℕ) (v : ℤ) (d : ℕ) → d ≤ i → stack (set w i v) d ≡ stack w d
unfolding stack
stack_other w i v zero h = refl
stack_other w i v (suc d) h = λ j. nat_abs (get_or-set_other w i d v (pos 0) (λ e. omega arith) j) ∷ stack_other w i v d (omega arith) j

pub stack_push : (w : List ℤ) (d k : ℕ) → d < length w → stack (set w d (pos k)) (suc d) ≡ k ∷ stack w d
unfolding stack
stack_push w d k h = λ j. nat_abs (get_or-set_same w d (pos k) (pos 0) h j) ∷ stack_other w d (pos k) d (omega arith) j

module _ (w : List ℤ) (d p k : ℕ) (low : d < 1000) (room : 1064 ≤ length w) (few : p < 64) where
  abbrev pub stored : List ℤ
  stored = set (set w d (pos k)) (1000 + p) (pos 1)

  pub stored_stack : stack stored (d + 1) ≡ k ∷ stack w d
  stored_stack = ap (stack stored) (add-one d) ∙ stack_other (set w d (pos k)) (1000 + p) (pos 1) (suc d) (omega arith) ∙ stack_push w d k (omega arith)

  pub stored_rest : (i : ℕ) → 1064 ≤ i → get_or stored i (pos 0) ≡ get_or w i (pos 0)
  stored_rest i h = get_or-set_other (set w d (pos k)) (1000 + p) i (pos 1) (pos 0) (λ e. omega arith) ∙ get_or-set_other w d i (pos k) (pos 0) (λ e. omega arith)

  pub stored_marks : (i : ℕ) → i < 64 → marked stored i ≡ (marked w i or eqb i p)
  unfolding marked
  stored_marks i h = by (eqb i p) (eqb→eq i p) (eq_test i p)
    where
      or_true : (a : Bool) → true ≡ (a or true)
      or_true true = refl
      or_true false = refl

      or_false : (a : Bool) → a ≡ (a or false)
      or_false true = refl
      or_false false = refl

      in_work : 1000 + p < length (set w d (pos k))
      in_work = simp length-set (omega arith)

      by : (b : Bool) → (T b → i ≡ p) → (i ≡ p → T b) → not (is_zero (get_or stored (1000 + i) (pos 0))) ≡ (not (is_zero (get_or w (1000 + i) (pos 0))) or b)
      by true f g =
          let e : i ≡ p = f tt in
          rw e (ap (λ z. not (is_zero z)) (get_or-set_same (set w d (pos k)) (1000 + p) (pos 1) (pos 0) in_work) ∙ or_true (not (is_zero (get_or w (1000 + p) (pos 0)))))
      by false f g =
          let n : i ≢ p = g in
          ap (λ z. not (is_zero z)) (get_or-set_other (set w d (pos k)) (1000 + p) (1000 + i) (pos 1) (pos 0) (λ e. omega arith) ∙ get_or-set_other w d (1000 + i) (pos k) (pos 0) (λ e. omega arith))
          ∙ or_false (not (is_zero (get_or w (1000 + i) (pos 0))))

-- ---- marks

-- a mark is a number that is not zero
abbrev pub is_mark : ℤ → Bool
is_mark z = not (is_zero z)

pub marks_all : (w : List ℤ) (n : ℕ) → 1000 + n ≤ length w → list_all is_mark (take n (drop 1000 w)) ≡ all_marked w n
unfolding all_marked marked
marks_all w zero h = refl
marks_all w (suc n) h =
    ap (list_all is_mark) (take-suc (drop 1000 w) n (pos 0) (simp length-drop (omega arith)))
    ∙ list_all-append is_mark (take n (drop 1000 w)) (get_or (drop 1000 w) n (pos 0) ∷ [])
    ∙ (λ t. marks_all w n (omega arith) t && (is_mark (get_or-drop 1000 w n (pos 0) t) && true))
    ∙ turned (all_marked w n) (marked w n)
  where
    turned : (a b : Bool) → (a && (b && true)) ≡ (b and a)
    turned true true = refl
    turned true false = refl
    turned false true = refl
    turned false false = refl

-- ---- the end: one tree stands, and each plane is used

pub one_deep : (w : List ℤ) (d : ℕ) (st : List Sub) → sizes st ≡ stack w d → one_tree st ≡ leb d 1
unfolding stack
one_deep w d st e = one_sizes st ∙ ap one_size e ∙ by d
  where
    by : (d : ℕ) → one_size (stack w d) ≡ leb d 1
    by zero = refl
    by (suc zero) = refl
    by (suc (suc d)) = sym (lt-leb (suc (suc d)) 1 (omega arith))

pub used_marks : (w : List ℤ) (es : List Entry) (j : ℕ) → j ≤ 64 → ((k : ℕ) → k < 64 → marked w k ≡ uses k es) → all_used j es ≡ all_marked w j
unfolding all_used all_marked
used_marks w es zero h f = refl
used_marks w es (suc j) h f = λ t. sym (f j (omega (arith, h))) t and used_marks w es j (omega (arith, h)) f t

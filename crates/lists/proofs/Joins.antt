-- Two ascending lists of planes, joined plane by plane.
--     ascending_end, place_left, place_last    a plane at the end of an ascending list, and the places in it
--     stays, goes                              a list of which no row is taken, or one
--     first_taken, both_taken, second_taken    one plane more
--     told_sooner                              which plane comes next
--     none_joined, list_rising, all_joined     the start, the rows of an ascending list, and the end
use mathlib.Core.Path.{◌≡◌, refl, sym, ap, subst, ◌∙◌}
use mathlib.Core.Bool.{Bool, true, false}
use mathlib.Core.List.{List, [], ◌∷◌, ◌++◌}
use mathlib.Core.Logic.{⊎_elim}
use mathlib.Core.Option.{some}
use Prim.Native.Nat.{ℕ, zero, suc, ◌+◌, ◌*◌, ◌/◌, ◌≤◌, ◌<◌}
use native.Mathlib.Omega.{arith}
use lib.Dec.{T}
use borrow.Author.Count.{below_more}
use lib.IntN.{ℤ}
use lib.ListN.{length, get_or, get_elem?, set, take, drop, length-append, length-set}
use lib.Seq.{sets, sets-eq, length-sets, take_at, length-take-le, get_or-set_same, get_or-set_other}
use Rattle.whole.specs.Tests.{differ}
use Rattle.whole.specs.Members.{◌∈◌, here, there, in_left, in_right, in_either, elem_in, elem_small, elem_at}
use Rattle.scope.specs.Planes.{Plane, before}
use Rattle.scope.specs.Solids.{place, ascending}
use Rattle.scope.specs.Answers.{flat_planes}
use Rattle.theory.specs.Planes.Order.{Before, before_trans, Ordered, first, level, last, ordered}
use Rattle.theory.specs.Planes.Lists.{Ascending, empty, next, ascending_one, ascending_law, ascending_same, place_at, place_of}
use Rattle.theory.specs.Text.Filled.{planes_end}
use Rattle.planes.specs.Values.{plane, order_by}
use Rattle.planes.specs.Promises.{OrderTold}
use Rattle.planes.specs.declared.Plane as code
use Rattle.std.specs.declared.cmp.Ordering.{Ordering}
use Rattle.tables.specs.Rows.{plane_at, planes_to}
use Rattle.tables.proofs.Flats.{flat_plane}
use Rattle.lists.specs.declared.JoinedList.{JoinedList}
use Rattle.lists.specs.declared.Taken.{Taken}
use Rattle.lists.specs.Lists.{HoldsList, JoinTold}
use Rattle.lists.specs.Steps.{Half, Joining, FirstNext, BothNext, Sooner, Rising, TakeIn, TakeTold, rows_of, rows_of_both}
use Rattle.lists.proofs.Rows.{four, planes_many, planes_back}

-- ---- the end of a list

module _ {A : Type 0} where
  elem_left : (xs ys : List A) (n : ℕ) {a : A} → get_elem? xs n ≡ some a → get_elem? (xs ++ ys) n ≡ some a
  elem_left [] ys n e = differ (cc)
  elem_left (x ∷ xs) ys zero e = e
  elem_left (x ∷ xs) ys (suc n) e = elem_left xs ys n e

  elem_end : (xs : List A) (a : A) → get_elem? (xs ++ (a ∷ [])) (length xs) ≡ some a
  elem_end [] a = refl
  elem_end (x ∷ xs) a = elem_end xs a

  in_end : {p q : A} (xs : List A) {C : Type 0} → p ∈ (xs ++ (q ∷ [])) → (p ∈ xs → C) → (p ≡ q → C) → C
  in_end xs m f g = ⊎_elim f (λ n. elim n [ here e ↦ g e | there k ↦ elim k [ ] ]) (in_either xs _ m)

ascending_end : {ps : List Plane} (q : Plane) → Ascending ps → ((p : Plane) → p ∈ ps → Before p q) → Ascending (ps ++ (q ∷ []))
ascending_end q empty h = next {p = q} {ps = []} (λ p m. elim m [ ]) empty
ascending_end q (next {p = r} {ps = ps} less a) h = next (λ s m. in_end ps m (less s) (λ e. subst (Before r) (sym e) (h r (here refl)))) (ascending_end q a (λ p m. h p (there m)))

module _ (ps : List Plane) (q : Plane) (a : Ascending (ps ++ (q ∷ []))) where
  place_left : (p : Plane) → p ∈ ps → place (ps ++ (q ∷ [])) p ≡ place ps p
  place_left p m = place_of (place ps p) a (elem_left ps (q ∷ []) (place ps p) (place_at m))

  place_last : place (ps ++ (q ∷ [])) q ≡ length ps
  place_last = place_of (length ps) a (elem_end ps q)

-- ---- one of the two lists

module _ {row : ℕ → Plane} {n i : ℕ} {ps : List Plane} {u v : ℕ → ℕ} (q : Plane) (a : Ascending (ps ++ (q ∷ []))) (same : (x : ℕ) → x < i → v x ≡ u x) (h : Half row n i ps u) where
  kept_number : (x : ℕ) → x < i → v x ≡ place (ps ++ (q ∷ [])) (row x)
  kept_number x l = same x l ∙ h.numbers x l ∙ sym (place_left ps q a (row x) (h.taken x l))

  -- its row comes later
  stays : (i < n → Before q (row i)) → Half row n i (ps ++ (q ∷ [])) v
  stays f = record {
    inside = h.inside;
    taken = λ x l. in_left (q ∷ []) (h.taken x l);
    later = λ l p m. in_end ps m (h.later l p) (λ e. subst (λ t. Before t (row i)) (sym e) (f l));
    numbers = kept_number;
  }

  -- its row is taken
  goes : i < n → row i ≡ q → ((x : ℕ) → x + 1 < n → Before (row x) (row (x + 1))) → v i ≡ length ps → Half row n (i + 1) (ps ++ (q ∷ [])) v
  goes l e rises k = record {
    inside = omega arith;
    taken = below_more (λ x. row x ∈ (ps ++ (q ∷ []))) i (λ x c. in_left (q ∷ []) (h.taken x c)) (in_right ps (here e));
    later = λ b p m. in_end ps m (λ m. before_trans (h.later l p m) (rises i b)) (λ d. subst (λ t. Before t (row (i + 1))) (e ∙ sym d) (rises i b));
    numbers = below_more (λ x. v x ≡ place (ps ++ (q ∷ [])) (row x)) i kept_number (k ∙ sym (ap (place (ps ++ (q ∷ []))) e ∙ place_last ps q a));
  }

-- ---- rows of a table

row_in : (xs : List ℤ) (n i : ℕ) → i < n → plane_at xs i ∈ planes_to xs n
unfolding planes_to
row_in xs zero i l = absurd (omega arith)
row_in xs (suc n) i l = below_more (λ x. plane_at xs x ∈ (planes_to xs n ++ (plane_at xs n ∷ []))) n (λ x b. in_left (plane_at xs n ∷ []) (row_in xs n x b)) (in_right (planes_to xs n) (here refl)) i (omega arith)

-- each row in a list, each plane of the rows in it
rows_in : (xs : List ℤ) (n : ℕ) (ps : List Plane) → ((x : ℕ) → x < n → plane_at xs x ∈ ps) → (p : Plane) → p ∈ planes_to xs n → p ∈ ps
unfolding planes_to
rows_in xs zero ps f p m = elim m [ ]
rows_in xs (suc n) ps f p m = in_end (planes_to xs n) m (rows_in xs n ps (λ x l. f x (omega arith)) p) (λ e. subst (λ t. t ∈ ps) (sym e) (f n (omega arith)))

-- ---- one plane more

module _ {a b : List ℤ} {l : JoinedList} {t : Taken} (w : TakeIn a b l t) (joined : List ℤ) (q : Plane) (stored : joined ≡ sets l.planes (4 * l.count) (four q)) where
  grown : List Plane
  grown = w.so_far.list ++ (q ∷ [])

  room : 4 * l.count + 4 ≤ length l.planes
  room = omega (arith, w.so_far.long, w.so_far.few)

  grown_table : take (4 * (l.count + 1)) joined ≡ flat_planes grown
  unfolding grown
  grown_table =
      ap (take (4 * (l.count + 1))) (stored ∙ sets-eq (four q) l.planes (4 * l.count) room)
      ∙ take_at (take (4 * l.count) l.planes ++ four q) (drop (4 * l.count + 4) l.planes) (4 * (l.count + 1)) (length-append (take (4 * l.count) l.planes) (four q) ∙ omega (arith, length-take-le (4 * l.count) l.planes (omega (arith, room))))
      ∙ ap (λ x. x ++ four q) w.so_far.table ∙ sym (planes_end w.so_far.list q)

  abbrev more_of : List ℕ → JoinedList
  more_of numbers = record { planes = joined; numbers = numbers; count = l.count + 1 }

  grown_told : (i j : ℕ) (numbers : List ℕ) → length numbers ≡ length l.numbers → t.a + t.b < i + j → Ascending grown → q ∈ rows_of_both a b
      → Half (plane_at a) (length a / 4) i grown (λ x. get_or numbers x 0) → Half (plane_at b) (length b / 4) j grown (λ x. get_or numbers (64 + x) 0) → TakeTold a b (more_of numbers) t (record { a = i; b = j })
  unfolding grown
  grown_told i j numbers same on o m f g = record {
    so_far = record {
      long = ap length stored ∙ length-sets l.planes (4 * l.count) (four q) ∙ w.so_far.long;
      wide = same ∙ w.so_far.wide;
      list = grown;
      count = length-append w.so_far.list (q ∷ []) ∙ ap (λ n. n + 1) w.so_far.count;
      few = omega (arith, w.so_far.few);
      table = grown_table;
      order = o;
      from = λ p n. in_end w.so_far.list n (w.so_far.from p) (λ e. subst (λ x. x ∈ rows_of_both a b) (sym e) m);
      first = f;
      second = g;
    };
    on = on;
  }

  grown_order : ((p : Plane) → p ∈ w.so_far.list → Before p q) → Ascending grown
  unfolding grown
  grown_order f = ascending_end q w.so_far.order f

  first_in : q ≡ plane_at a t.a → t.a < length a / 4 → q ∈ rows_of_both a b
  first_in e h = in_left (rows_of b) (subst (λ x. x ∈ rows_of a) (sym e) (row_in a (length a / 4) t.a h))

  -- A's row is taken
  pub first_taken : q ≡ plane_at a t.a → FirstNext a t.a b t.b → TakeTold a b (more_of (set l.numbers t.a l.count)) t (record { a = t.a + 1; b = t.b })
  unfolding grown
  first_taken e f =
      let o = grown_order (λ p m. subst (Before p) (sym e) (w.so_far.first.later f.here p m)) in
      grown_told (t.a + 1) t.b (set l.numbers t.a l.count) (simp length-set) (omega arith) o (first_in e f.here)
      (goes q o (λ x h. get_or-set_other l.numbers t.a x l.count 0 (λ d. omega arith)) w.so_far.first f.here (sym e) w.first_rising (get_or-set_same l.numbers t.a l.count 0 (omega arith) ∙ sym w.so_far.count))
      (stays q o (λ x h. get_or-set_other l.numbers t.a (64 + x) l.count 0 (λ d. omega arith)) w.so_far.second (λ h. subst (λ x. Before x (plane_at b t.b)) (sym e) (f.sooner h)))

  -- B's row is taken
  pub second_taken : q ≡ plane_at b t.b → FirstNext b t.b a t.a → TakeTold a b (more_of (set l.numbers (64 + t.b) l.count)) t (record { a = t.a; b = t.b + 1 })
  unfolding grown
  second_taken e f =
      let o = grown_order (λ p m. subst (Before p) (sym e) (w.so_far.second.later f.here p m)) in
      grown_told t.a (t.b + 1) (set l.numbers (64 + t.b) l.count) (simp length-set) (omega arith) o (in_right (rows_of a) (subst (λ x. x ∈ rows_of b) (sym e) (row_in b (length b / 4) t.b f.here)))
      (stays q o (λ x h. get_or-set_other l.numbers (64 + t.b) x l.count 0 (λ d. omega arith)) w.so_far.first (λ h. subst (λ x. Before x (plane_at a t.a)) (sym e) (f.sooner h)))
      (goes q o (λ x h. get_or-set_other l.numbers (64 + t.b) (64 + x) l.count 0 (λ d. omega arith)) w.so_far.second f.here (sym e) w.second_rising (get_or-set_same l.numbers (64 + t.b) l.count 0 (omega arith) ∙ sym w.so_far.count))

  -- both are taken, as one plane
  pub both_taken : q ≡ plane_at a t.a → BothNext a t.a b t.b → TakeTold a b (more_of (set (set l.numbers t.a l.count) (64 + t.b) l.count)) t (record { a = t.a + 1; b = t.b + 1 })
  unfolding grown
  both_taken e f =
      let o = grown_order (λ p m. subst (Before p) (sym e) (w.so_far.first.later f.here p m)) in
      let n = set l.numbers t.a l.count in
      grown_told (t.a + 1) (t.b + 1) (set n (64 + t.b) l.count) (simp length-set) (omega arith) o (first_in e f.here)
      (goes q o (λ x h. get_or-set_other n (64 + t.b) x l.count 0 (λ d. omega arith) ∙ get_or-set_other l.numbers t.a x l.count 0 (λ d. omega arith)) w.so_far.first f.here (sym e) w.first_rising
      (get_or-set_other n (64 + t.b) t.a l.count 0 (λ d. omega arith) ∙ get_or-set_same l.numbers t.a l.count 0 (omega arith) ∙ sym w.so_far.count))
      (goes q o (λ x h. get_or-set_other n (64 + t.b) (64 + x) l.count 0 (λ d. omega arith) ∙ get_or-set_other l.numbers t.a (64 + x) l.count 0 (λ d. omega arith)) w.so_far.second f.there (sym (e ∙ f.same)) w.second_rising
      (get_or-set_same n (64 + t.b) l.count 0 (simp length-set (omega arith)) ∙ sym w.so_far.count))

-- ---- which plane comes next

pub told_sooner : (a b : List ℤ) (t : Taken) (p q : code.Plane) (r : Ordering) → plane p ≡ plane_at a t.a → plane q ≡ plane_at b t.b → t.a < length a / 4 → t.b < length b / 4 → OrderTold p q r → Sooner a b t r
told_sooner a b t p q r e d l m o = subst (Sooner a b t) (sym (o.exact ∙ (λ k. order_by (before (e k) (d k)) (before (d k) (e k))))) (go (before x y) (before y x) (λ k. record { is = k }) (λ k. record { is = k }) (λ k. k.is) (λ k. k.is))
  where
    x : Plane
    x = plane_at a t.a

    y : Plane
    y = plane_at b t.b

    neither : Ordered x y → (Before x y → ⊥) → (Before y x → ⊥) → x ≡ y
    neither (first b) f g = absurd (f b)
    neither (level e) f g = e
    neither (last b) f g = absurd (g b)

    go : (u v : Bool) → (T u → Before x y) → (T v → Before y x) → (Before x y → T u) → (Before y x → T v) → Sooner a b t (order_by u v)
    go true v f g f' g' = record { here = l; sooner = λ _. f tt }
    go false true f g f' g' = record { here = m; sooner = λ _. g tt }
    go false false f g f' g' = record { here = l; there = m; same = neither (ordered x y) f' g' }

-- ---- the start

none_half : (row : ℕ → Plane) (n : ℕ) (u : ℕ → ℕ) → Half row n 0 [] u
none_half row n u = record { inside = omega arith; taken = λ x l. absurd (omega arith); later = λ l p m. elim m [ ]; numbers = λ x l. absurd (omega arith) }

pub none_joined : (a b : List ℤ) (l : JoinedList) → length l.planes ≡ 512 → length l.numbers ≡ 128 → l.count ≡ 0 → Joining a b l 0 0
unfolding flat_planes
none_joined a b l long wide z = record {
  long = long;
  wide = wide;
  list = [];
  count = sym z;
  few = omega (arith, z);
  table = ap (λ n. take (4 * n) l.planes) z;
  order = empty;
  from = λ p m. elim m [ ];
  first = none_half (plane_at a) (length a / 4) (λ x. get_or l.numbers x 0);
  second = none_half (plane_at b) (length b / 4) (λ x. get_or l.numbers (64 + x) 0);
}

-- ---- a table that holds an ascending list

ascending_next : {ps : List Plane} (x : ℕ) {p q : Plane} → Ascending ps → get_elem? ps x ≡ some p → get_elem? ps (suc x) ≡ some q → Before p q
ascending_next x empty e d = differ (cc)
ascending_next zero {p} {q} (next {p = r} {ps = ps} less a) e d = let f : r ≡ p = cc in subst (λ t. Before t q) f (less q (elem_in ps 0 d))
ascending_next (suc x) (next less a) e d = ascending_next x a e d

module _ {xs : List ℤ} {ps : List Plane} (h : HoldsList xs ps) where
  pub list_count : length xs / 4 ≡ length ps
  list_count = planes_many ps h.table

  pub list_few : length xs / 4 ≤ 64
  list_few = omega (arith, list_count, h.few)

  list_at : (x : ℕ) (p : Plane) → get_elem? ps x ≡ some p → plane_at xs x ≡ p
  list_at x p e = ap (λ l. plane_at l x) h.table ∙ flat_plane ps x p e

  list_rows : rows_of xs ≡ ps
  list_rows = planes_back ps h.table

  pub list_rising : Rising xs
  list_rising x l =
      let u = elem_at ps x (omega (arith, list_count, l)) in
      let v = elem_at ps (suc x) (omega (arith, list_count, l)) in
      let e : x + 1 ≡ suc x = omega arith in
      subst (λ y. Before (plane_at xs x) (plane_at xs y)) (sym e) (subst (λ t. Before t (plane_at xs (suc x))) (sym (list_at x u.0 u.1)) (subst (Before u.0) (sym (list_at (suc x) v.0 v.1)) (ascending_next x h.order u.1 v.1)))

-- ---- the end

pub all_joined : (a b : List ℤ) (l : JoinedList) (i j : ℕ) → length a / 4 ≤ i → length b / 4 ≤ j → Joining a b l i j → JoinTold a b l
all_joined a b l i j hi hj s ps qs f g = record {
  count = sym s.count ∙ ap length whole;
  few = omega (arith, s.few, s.first.inside, s.second.inside, list_few f, list_few g);
  table = s.table ∙ ap flat_planes whole;
  wide = omega (arith, s.wide);
  first_numbers = λ x p e. s.first.numbers x (omega (arith, elem_small ps x e, list_count f)) ∙ (λ t. place (whole t) (list_at f x p e t));
  second_numbers = λ x p e. s.second.numbers x (omega (arith, elem_small qs x e, list_count g)) ∙ (λ t. place (whole t) (list_at g x p e t));
}
  where
    to : (p : Plane) → p ∈ rows_of_both a b → p ∈ s.list
    to p m = ⊎_elim (rows_in a (length a / 4) s.list (λ x l. s.first.taken x (omega arith)) p) (rows_in b (length b / 4) s.list (λ x l. s.second.taken x (omega arith)) p) (in_either (rows_of a) (rows_of b) m)

    both : rows_of_both a b ≡ ps ++ qs
    both = λ t. list_rows f t ++ list_rows g t

    whole : s.list ≡ ascending (ps ++ qs)
    whole = ascending_one s.order (ascending_law (ps ++ qs)) (record {
      to = λ p m. (ascending_same (ps ++ qs)).to p (subst (λ l. p ∈ l) both (s.from p m));
      from = λ p m. to p (subst (λ l. p ∈ l) (sym both) ((ascending_same (ps ++ qs)).from p m));
    })

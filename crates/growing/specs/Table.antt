-- The form as it grows in a table: three numbers a row, the place of its plane in the list and two codes; a code is a mark or a later row. A slot is field 1 or 2 of a row.
--     Holds, holds_above, holds_rows     the tree that a slot holds, and the numbers of its rows
--     Effect, More, effect_..            what a change below one slot leaves as it was, and the rows that are new
--     holds_kept, holds_longer           a change elsewhere, and a plane put at the end of the list
--     Made, made_..                      a leaf becomes a row
--     RowAt, put_front, put_back         the tree in front of a row, or behind it, is changed
use Rattle.std.specs.Prelude.{◌≡◌, refl, List, [], ◌∷◌, ◌++◌, ◌≢◌, ◌⊎◌, ℕ, zero, suc, ◌+◌, ◌*◌, ◌≤◌, ◌<◌, length, get_or}
use Rattle.std.proofs.Common.{sym, ap, subst, ◌∙◌, inl, inr, arith, length-append}
use Rattle.std.proofs.Math.Option.{some}
use Rattle.std.proofs.Math.ListN.{get_elem?}
use Rattle.whole.specs.Tests.{differ}
use Rattle.whole.specs.Members.{◌∈◌, here, there, in_left, in_right, in_either}
use Rattle.scope.specs.Planes.{Plane}
use Rattle.scope.specs.Solids.{Mark, Tree, leaf, node, rows, mark, number}

-- field k of row u has the code of the tree; rs are the numbers of its rows
pub data Holds (ls : List Plane) (ns : List ℕ) : ℕ → ℕ → Tree → List ℕ → Type 0 where
  a_mark : {u k : ℕ} (m : Mark) → get_or ns (3 * u + k) 0 ≡ number (mark m) → Holds ls ns u k (leaf m) []
  a_row : {u k r : ℕ} {p : Plane} {f b : Tree} {fs bs : List ℕ} → get_or ns (3 * u + k) 0 ≡ r → u < r → r < 65534 → get_elem? ls (get_or ns (3 * r) 0) ≡ some p
      → Holds ls ns r 1 f fs → Holds ls ns r 2 b bs → ((x : ℕ) → x ∈ fs → ¬ (x ∈ bs)) → Holds ls ns u k (node p f b) (r ∷ (fs ++ bs))

less_trans : {u r x : ℕ} → u < r → r < x → u < x
less_trans h k = omega arith

-- rows stand below the slot's row, so to say: their numbers are greater
pub holds_above : {ls : List Plane} {ns : List ℕ} {u k : ℕ} {t : Tree} {rs : List ℕ} → Holds ls ns u k t rs → (x : ℕ) → x ∈ rs → u < x
holds_above (a_mark m e) x i = elim i [ ]
holds_above {u = u} (a_row {r = r} {fs = fs} {bs = bs} e l h g f b d) x (here i) = subst (λ y. u < y) (sym i) l
holds_above {u = u} (a_row {r = r} {fs = fs} {bs = bs} e l h g f b d) x (there i) = go (in_either fs bs i) (λ m. holds_above f x m) (λ m. holds_above b x m)
  where
    go : (x ∈ fs) ⊎ (x ∈ bs) → (x ∈ fs → r < x) → (x ∈ bs → r < x) → u < x
    go (inl m) v w = less_trans l (v m)
    go (inr m) v w = less_trans l (w m)

pub holds_rows : {ls : List Plane} {ns : List ℕ} {u k : ℕ} {t : Tree} {rs : List ℕ} → Holds ls ns u k t rs → length rs ≡ rows t
unfolding rows
holds_rows (a_mark m e) = refl
holds_rows (a_row {fs = fs} {bs = bs} e l h g f b d) = omega (arith, length-append fs bs, holds_rows f, holds_rows b)

-- ---- a change elsewhere

-- the two tables agree in the slot, and in the rows
pub record Agree (ns ns' : List ℕ) (u k : ℕ) (rs : List ℕ) : Type 0 where
  pub slot : get_or ns' (3 * u + k) 0 ≡ get_or ns (3 * u + k) 0
  pub each : (x : ℕ) → x ∈ rs → (j : ℕ) → 3 * x ≤ j → j < 3 * x + 3 → get_or ns' j 0 ≡ get_or ns j 0

pub holds_kept : {ls : List Plane} {ns ns' : List ℕ} {u k : ℕ} {t : Tree} {rs : List ℕ} → Agree ns ns' u k rs → Holds ls ns u k t rs → Holds ls ns' u k t rs
holds_kept a (a_mark m e) = a_mark m (a.slot ∙ e)
holds_kept {ls} a (a_row {r = r} {fs = fs} {bs = bs} e l h g f b d) = a_row (a.slot ∙ e) l h (ap (get_elem? ls) (a.each r (here refl) (3 * r) (omega arith) (omega arith)) ∙ g)
    (holds_kept (record { slot = a.each r (here refl) (3 * r + 1) (omega arith) (omega arith); each = λ x i. a.each x (there (in_left bs i)) }) f)
    (holds_kept (record { slot = a.each r (here refl) (3 * r + 2) (omega arith) (omega arith); each = λ x i. a.each x (there (in_right fs i)) }) b) d

-- a plane put at the end of the list
elem_left : (ls ms : List Plane) (n : ℕ) {p : Plane} → get_elem? ls n ≡ some p → get_elem? (ls ++ ms) n ≡ some p
elem_left [] ms n e = differ (cc)
elem_left (q ∷ ls) ms zero e = e
elem_left (q ∷ ls) ms (suc n) e = elem_left ls ms n e

pub holds_longer : {ls : List Plane} (ms : List Plane) {ns : List ℕ} {u k : ℕ} {t : Tree} {rs : List ℕ} → Holds ls ns u k t rs → Holds (ls ++ ms) ns u k t rs
holds_longer ms (a_mark m e) = a_mark m e
holds_longer {ls} ms {ns} (a_row {r = r} e l h g f b d) = a_row e l h (elem_left ls ms (get_or ns (3 * r) 0) g) (holds_longer ms f) (holds_longer ms b) d

-- ---- a change below one slot

-- rows 0 to n - 1 stood before, rows 0 to n' - 1 stand after; nothing that stood was changed but the slot and the codes of the rows rs
pub record Effect (ns ns' : List ℕ) (n n' u k : ℕ) (rs : List ℕ) : Type 0 where
  pub more : n ≤ n'
  pub kept : (j : ℕ) → j < 3 * n → j ≢ 3 * u + k → ((x : ℕ) → x ∈ rs → (j ≢ 3 * x + 1) × (j ≢ 3 * x + 2)) → get_or ns' j 0 ≡ get_or ns j 0

-- the rows after it are those before it and new ones
pub record More (rs rs' : List ℕ) (n n' : ℕ) : Type 0 where
  pub from : (x : ℕ) → x ∈ rs' → (x ∈ rs) ⊎ ((n ≤ x) × (x < n'))
  pub count : n' + length rs ≡ n + length rs'

pub effect_none : (ns : List ℕ) (n u k : ℕ) (rs : List ℕ) → Effect ns ns n n u k rs
effect_none ns n u k rs = record { more = omega arith; kept = λ j l d i. refl }

pub more_none : (rs : List ℕ) (n : ℕ) → More rs rs n n
more_none rs n = record { from = λ x i. inl i; count = refl }

pub more_then : {rs rs' rs'' : List ℕ} {n n' n'' : ℕ} → n ≤ n' → n' ≤ n'' → More rs rs' n n' → More rs' rs'' n' n'' → More rs rs'' n n''
more_then {rs} {rs'} {n = n} {n' = n'} {n'' = n''} a b h k = record { from = λ x i. go x (k.from x i); count = omega (arith, h.count, k.count) }
  where
    old : (x : ℕ) → (x ∈ rs) ⊎ ((n ≤ x) × (x < n')) → (x ∈ rs) ⊎ ((n ≤ x) × (x < n''))
    old x (inl i) = inl i
    old x (inr w) = inr (w.0, omega (arith, w.1))

    go : (x : ℕ) → (x ∈ rs') ⊎ ((n' ≤ x) × (x < n'')) → (x ∈ rs) ⊎ ((n ≤ x) × (x < n''))
    go x (inl i) = old x (h.from x i)
    go x (inr w) = inr (omega (arith, w.0), w.1)

pub effect_then : {ns ns' ns'' : List ℕ} {n n' n'' u k : ℕ} {rs rs' : List ℕ} → More rs rs' n n' → Effect ns ns' n n' u k rs → Effect ns' ns'' n' n'' u k rs' → Effect ns ns'' n n'' u k rs
effect_then {n = n} {n' = n'} {u = u} {k = k} {rs = rs} {rs' = rs'} m a b = record {
  more = omega (arith, a.more, b.more);
  kept = λ j l d i. b.kept j (omega (arith, a.more)) d (λ x y. clear j l i x (m.from x y)) ∙ a.kept j l d i;
}
  where
    clear : (j : ℕ) → j < 3 * n → ((x : ℕ) → x ∈ rs → (j ≢ 3 * x + 1) × (j ≢ 3 * x + 2)) → (x : ℕ) → (x ∈ rs) ⊎ ((n ≤ x) × (x < n')) → (j ≢ 3 * x + 1) × (j ≢ 3 * x + 2)
    clear j l i x (inl y) = i x y
    clear j l i x (inr w) = (λ e. omega (arith, w.0), λ e. omega (arith, w.0))

-- a tree in another slot, none of whose rows is one of rs
pub effect_holds : {ls : List Plane} {ns ns' : List ℕ} {n n' u k v j : ℕ} {rs qs : List ℕ} {t : Tree} → Effect ns ns' n n' u k rs → k < 3 → j < 3 → v < n → ((x : ℕ) → x ∈ qs → x < n) → ((x : ℕ) → x ∈ rs → x ≢ v) → ((v ≡ u) → j ≢ k)
    → ((x : ℕ) → x ∈ qs → x ≢ u) → ((x : ℕ) → x ∈ rs → ¬ (x ∈ qs)) → Holds ls ns v j t qs → Holds ls ns' v j t qs
effect_holds {n = n} {u = u} {k = k} {v = v} {j = j} {rs = rs} {qs = qs} e a b c w f g h d = holds_kept (record {
  slot = e.kept (3 * v + j) (omega arith) (λ i. g (omega arith) (omega arith)) (λ x y. (λ i. f x y (omega arith), λ i. f x y (omega arith)));
  each = λ x y i l m. e.kept i (omega (arith, w x y)) (λ z. h x y (omega arith)) (λ z t. (λ q. d z t (subst (λ s. s ∈ qs) (same x z i l m (omega arith)) y), λ q. d z t (subst (λ s. s ∈ qs) (same x z i l m (omega arith)) y)));
})
  where
    same : (x z i : ℕ) → 3 * x ≤ i → i < 3 * x + 3 → (3 * z ≤ i) × (i < 3 * z + 3) → x ≡ z
    same x z i l m p = omega (arith, p.0, p.1)

-- ---- a leaf becomes a row

pub record Made (ls : List Plane) (ns ns' : List ℕ) (n u k : ℕ) (q : Plane) (a b : Mark) : Type 0 where
  pub slot : get_or ns' (3 * u + k) 0 ≡ n
  pub place : get_elem? ls (get_or ns' (3 * n) 0) ≡ some q
  pub front : get_or ns' (3 * n + 1) 0 ≡ number (mark a)
  pub back : get_or ns' (3 * n + 2) 0 ≡ number (mark b)
  pub kept : (j : ℕ) → j < 3 * n → j ≢ 3 * u + k → get_or ns' j 0 ≡ get_or ns j 0

pub made_holds : {ls : List Plane} {ns ns' : List ℕ} {n u k : ℕ} {q : Plane} {a b : Mark} → Made ls ns ns' n u k q a b → u < n → n < 65534 → Holds ls ns' u k (node q (leaf a) (leaf b)) (n ∷ [])
made_holds {a = a} {b = b} m l h = a_row m.slot l h m.place (a_mark a m.front) (a_mark b m.back) (λ x i. elim i [ ])

pub made_effect : {ls : List Plane} {ns ns' : List ℕ} {n u k : ℕ} {q : Plane} {a b : Mark} → Made ls ns ns' n u k q a b → Effect ns ns' n (suc n) u k []
made_effect m = record { more = omega arith; kept = λ j l d i. m.kept j l d }

pub made_more : (n : ℕ) → More [] (n ∷ []) n (suc n)
made_more n = record { from = λ x i. inr (elim i [ here e ↦ (omega arith, omega arith) | there j ↦ elim j [ ] ]); count = omega arith }

-- ---- the tree in front of a row, or behind it, is changed

-- row r of plane q in the slot, with the trees in its two slots; rows 0 to n - 1 stand
pub record RowAt (ls : List Plane) (ns : List ℕ) (n u k r : ℕ) (q : Plane) (f b : Tree) (fs bs : List ℕ) : Type 0 where
  pub code : get_or ns (3 * u + k) 0 ≡ r
  pub later : u < r
  pub few : r < 65534
  pub place : get_elem? ls (get_or ns (3 * r) 0) ≡ some q
  pub front : Holds ls ns r 1 f fs
  pub back : Holds ls ns r 2 b bs
  pub apart : (x : ℕ) → x ∈ fs → ¬ (x ∈ bs)
  pub low : (x : ℕ) → x ∈ (r ∷ (fs ++ bs)) → x < n

pub row_holds : {ls : List Plane} {ns : List ℕ} {n u k r : ℕ} {q : Plane} {f b : Tree} (fs bs : List ℕ) → RowAt ls ns n u k r q f b fs bs → Holds ls ns u k (node q f b) (r ∷ (fs ++ bs))
row_holds fs bs w = a_row w.code w.later w.few w.place w.front w.back w.apart

pub record RowOf (ls : List Plane) (ns : List ℕ) (n u k : ℕ) (q : Plane) (f b : Tree) (rs : List ℕ) : Type 0 where
  pub r : ℕ
  pub fs : List ℕ
  pub bs : List ℕ
  pub rows_are : rs ≡ r ∷ (fs ++ bs)
  pub row : RowAt ls ns n u k r q f b fs bs

pub holds_row : {ls : List Plane} {ns : List ℕ} {n u k : ℕ} {q : Plane} {f b : Tree} {rs : List ℕ} → ((x : ℕ) → x ∈ rs → x < n) → Holds ls ns u k (node q f b) rs → RowOf ls ns n u k q f b rs
holds_row low (a_row {r = r} {fs = fs} {bs = bs} e l h g f b d) = record { r = r; fs = fs; bs = bs; rows_are = refl; row = record { code = e; later = l; few = h; place = g; front = f; back = b; apart = d; low = low } }

module _ {ls : List Plane} {ns : List ℕ} {n u k r : ℕ} {q : Plane} {f b : Tree} {fs bs : List ℕ} (w : RowAt ls ns n u k r q f b fs bs) (kk : k < 3) where
  r_low : r < n
  r_low = w.low r (here refl)

  f_above : (x : ℕ) → x ∈ fs → r < x
  f_above x i = holds_above w.front x i

  b_above : (x : ℕ) → x ∈ bs → r < x
  b_above x i = holds_above w.back x i

  pub put_front : {ns' : List ℕ} {n' : ℕ} {f' : Tree} {fs' : List ℕ} → Effect ns ns' n n' r 1 fs → More fs fs' n n' → Holds ls ns' r 1 f' fs' → RowAt ls ns' n' u k r q f' b fs' bs
  put_front {n' = n'} {fs' = fs'} e m h = record {
    code = e.kept (3 * u + k) (omega (arith, r_low, w.later)) (λ i. omega (arith, w.later)) (λ x i. (λ z. omega (arith, w.later, f_above x i), λ z. omega (arith, w.later, f_above x i))) ∙ w.code;
    later = w.later;
    few = w.few;
    place = ap (get_elem? ls) (e.kept (3 * r) (omega (arith, r_low)) (λ i. omega arith) (λ x i. (λ z. omega (arith, f_above x i), λ z. omega (arith, f_above x i)))) ∙ w.place;
    front = h;
    back = effect_holds e (omega arith) (omega arith) r_low (λ x i. w.low x (there (in_right fs i))) (λ x i z. omega (arith, f_above x i)) (λ i z. omega arith) (λ x i z. omega (arith, b_above x i)) w.apart w.back;
    apart = λ x i j. apart x j (m.from x i);
    low = λ x i. under x i;
  }
    where
      apart : (x : ℕ) → x ∈ bs → (x ∈ fs) ⊎ ((n ≤ x) × (x < n')) → ⊥
      apart x j (inl i) = w.apart x i j
      apart x j (inr v) = omega (arith, v.0, w.low x (there (in_right fs j)))

      old : (x : ℕ) → (x ∈ fs) ⊎ ((n ≤ x) × (x < n')) → x < n'
      old x (inl i) = omega (arith, e.more, w.low x (there (in_left bs i)))
      old x (inr v) = v.1

      under : (x : ℕ) → x ∈ (r ∷ (fs' ++ bs)) → x < n'
      under x (here i) = omega (arith, e.more, r_low)
      under x (there i) = elim (in_either fs' bs i) [ inl y ↦ old x (m.from x y) | inr y ↦ omega (arith, e.more, w.low x (there (in_right fs y))) ]

  pub put_back : {ns' : List ℕ} {n' : ℕ} {b' : Tree} {bs' : List ℕ} → Effect ns ns' n n' r 2 bs → More bs bs' n n' → Holds ls ns' r 2 b' bs' → RowAt ls ns' n' u k r q f b' fs bs'
  put_back {n' = n'} {bs' = bs'} e m h = record {
    code = e.kept (3 * u + k) (omega (arith, r_low, w.later)) (λ i. omega (arith, w.later)) (λ x i. (λ z. omega (arith, w.later, b_above x i), λ z. omega (arith, w.later, b_above x i))) ∙ w.code;
    later = w.later;
    few = w.few;
    place = ap (get_elem? ls) (e.kept (3 * r) (omega (arith, r_low)) (λ i. omega arith) (λ x i. (λ z. omega (arith, b_above x i), λ z. omega (arith, b_above x i)))) ∙ w.place;
    front = effect_holds e (omega arith) (omega arith) r_low (λ x i. w.low x (there (in_left bs i))) (λ x i z. omega (arith, b_above x i)) (λ i z. omega arith) (λ x i z. omega (arith, f_above x i)) (λ x i j. w.apart x j i) w.front;
    back = h;
    apart = λ x i j. apart x i (m.from x j);
    low = λ x i. under x i;
  }
    where
      apart : (x : ℕ) → x ∈ fs → (x ∈ bs) ⊎ ((n ≤ x) × (x < n')) → ⊥
      apart x i (inl j) = w.apart x i j
      apart x i (inr v) = omega (arith, v.0, w.low x (there (in_left bs i)))

      old : (x : ℕ) → (x ∈ bs) ⊎ ((n ≤ x) × (x < n')) → x < n'
      old x (inl i) = omega (arith, e.more, w.low x (there (in_right fs i)))
      old x (inr v) = v.1

      under : (x : ℕ) → x ∈ (r ∷ (fs ++ bs')) → x < n'
      under x (here i) = omega (arith, e.more, r_low)
      under x (there i) = elim (in_either fs bs' i) [ inl y ↦ omega (arith, e.more, w.low x (there (in_left bs y))) | inr y ↦ old x (m.from x y) ]

-- and so below the slot above it
module _ {ns ns' : List ℕ} {n n' u k r : ℕ} (fs bs : List ℕ) where
  pub effect_front : Effect ns ns' n n' r 1 fs → Effect ns ns' n n' u k (r ∷ (fs ++ bs))
  effect_front e = record { more = e.more; kept = λ j l d i. e.kept j l (i r (here refl)).0 (λ x y. i x (there (in_left bs y))) }

  pub effect_back : Effect ns ns' n n' r 2 bs → Effect ns ns' n n' u k (r ∷ (fs ++ bs))
  effect_back e = record { more = e.more; kept = λ j l d i. e.kept j l (i r (here refl)).1 (λ x y. i x (there (in_right fs y))) }

module _ {n n' r : ℕ} (fs bs : List ℕ) where
  pub more_front : (fs' : List ℕ) → More fs fs' n n' → More (r ∷ (fs ++ bs)) (r ∷ (fs' ++ bs)) n n'
  more_front fs' m = record { from = from; count = omega (arith, length-append fs bs, length-append fs' bs, m.count) }
    where
      new : (x : ℕ) → (x ∈ fs) ⊎ ((n ≤ x) × (x < n')) → (x ∈ (r ∷ (fs ++ bs))) ⊎ ((n ≤ x) × (x < n'))
      new x (inl i) = inl (there (in_left bs i))
      new x (inr w) = inr w

      from : (x : ℕ) → x ∈ (r ∷ (fs' ++ bs)) → (x ∈ (r ∷ (fs ++ bs))) ⊎ ((n ≤ x) × (x < n'))
      from x (here e) = inl (here e)
      from x (there i) = elim (in_either fs' bs i) [ inl y ↦ new x (m.from x y) | inr y ↦ inl (there (in_right fs y)) ]

  pub more_back : (bs' : List ℕ) → More bs bs' n n' → More (r ∷ (fs ++ bs)) (r ∷ (fs ++ bs')) n n'
  more_back bs' m = record { from = from; count = omega (arith, length-append fs bs, length-append fs bs', m.count) }
    where
      new : (x : ℕ) → (x ∈ bs) ⊎ ((n ≤ x) × (x < n')) → (x ∈ (r ∷ (fs ++ bs))) ⊎ ((n ≤ x) × (x < n'))
      new x (inl i) = inl (there (in_right fs i))
      new x (inr w) = inr w

      from : (x : ℕ) → x ∈ (r ∷ (fs ++ bs')) → (x ∈ (r ∷ (fs ++ bs))) ⊎ ((n ≤ x) × (x < n'))
      from x (here e) = inl (here e)
      from x (there i) = elim (in_either fs bs' i) [ inl y ↦ inl (there (in_left bs y)) | inr y ↦ new x (m.from x y) ]

-- the rows that stand after it are below n'
pub more_low : {rs rs' : List ℕ} {n n' : ℕ} → n ≤ n' → ((x : ℕ) → x ∈ rs → x < n) → More rs rs' n n' → (x : ℕ) → x ∈ rs' → x < n'
more_low {rs} {n = n} {n' = n'} a low m x i = go (m.from x i)
  where
    go : (x ∈ rs) ⊎ ((n ≤ x) × (x < n')) → x < n'
    go (inl j) = omega (arith, low x j)
    go (inr w) = w.1

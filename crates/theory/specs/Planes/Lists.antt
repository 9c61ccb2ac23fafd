-- Ascending lists: each list of planes has one ascending list of the same planes, and in it each plane has one place.
--     Ascending, Same, ascending_one   no second ascending list has the same planes
--     ascending_law, ascending_same    `ascending` gives it
--     ascending_less                   one of some of the planes is no longer
--     place_at, place_of               the place of a plane
use Rattle.std.specs.Prelude.{◌≡◌, refl, Bool, true, false, cond, List, [], ◌∷◌, ℕ, zero, suc, ◌≤◌, T, length}
use Rattle.std.proofs.Common.{sym, ap, ap₂, subst, ◌∙◌, arith}
use Rattle.std.proofs.Math.Option.{some}
use Rattle.std.proofs.Math.ListN.{get_elem?}
use Rattle.whole.specs.Tests.{is_true, is_false, differ}
use Rattle.whole.specs.Members.{◌∈◌, here, there, elem_in}
use Rattle.scope.specs.Planes.{Plane, before, equal}
use Rattle.scope.specs.Solids.{insert_by, insert, ascending, place}
use Rattle.theory.specs.Planes.Order.{Before, before_trans, before_irrefl, before_asym, Ordered, first, level, last, ordered, equal_of, equal_self}

pub data Ascending : List Plane → Type 0 where
  empty : Ascending []
  next : {p : Plane} {ps : List Plane} → ((q : Plane) → q ∈ ps → Before p q) → Ascending ps → Ascending (p ∷ ps)

pub record Same (ps qs : List Plane) : Type 0 where
  pub to : (p : Plane) → p ∈ ps → p ∈ qs
  pub from : (p : Plane) → p ∈ qs → p ∈ ps

-- ---- one ascending list

tail_in : {p q r : Plane} {ps qs : List Plane} → ((s : Plane) → s ∈ ps → Before p s) → p ≡ q → r ∈ ps → r ∈ (q ∷ qs) → r ∈ qs
tail_in {r = r} h e m (here d) = absurd (before_irrefl (h r m) (e ∙ sym d))
tail_in h e m (there n) = n

head_in : {p q : Plane} {ps qs : List Plane} → ((s : Plane) → s ∈ ps → Before p s) → ((s : Plane) → s ∈ qs → Before q s) → p ∈ (q ∷ qs) → q ∈ (p ∷ ps) → p ≡ q
head_in h k (here e) n = e
head_in {p} {q} h k (there m) (here e) = sym e
head_in {p} {q} h k (there m) (there n) = absurd (before_asym (h q n) (k p m))

pub ascending_one : {ps qs : List Plane} → Ascending ps → Ascending qs → Same ps qs → ps ≡ qs
ascending_one empty empty s = refl
ascending_one empty (next {p = q} k b) s = elim (s.from q (here refl)) [ ]
ascending_one (next {p = p} h a) empty s = elim (s.to p (here refl)) [ ]
ascending_one (next {p = p} h a) (next {p = q} k b) s =
    let e = head_in h k (s.to p (here refl)) (s.from q (here refl)) in
    ap₂ (λ (t : Plane) (ts : List Plane). t ∷ ts) e (ascending_one a b (record { to = λ r m. tail_in h e m (s.to r (there m)); from = λ r m. tail_in k (sym e) m (s.from r (there m)) }))

-- ---- it is given by putting in one plane after the other

record Put (p : Plane) (ps qs : List Plane) : Type 0 where
  asc : Ascending qs
  has : Same (p ∷ ps) qs

neither : {p q : Plane} → Ordered p q → ¬ Before p q → ¬ Before q p → p ≡ q
neither (first b) f g = absurd (f b)
neither (level e) f g = e
neither (last b) f g = absurd (g b)

insert_law : (p : Plane) (ps : List Plane) → Ascending ps → Put p ps (insert p ps)
unfolding insert
insert_law p [] a = record { asc = next {p = p} {ps = []} (λ q m. elim m [ ]) empty; has = record { to = λ q m. m; from = λ q m. m } }
insert_law p (q ∷ qs) (next h a) = go (before p q) (before q p) (λ t. record { is = t }) (λ t. record { is = t }) (λ b. b.is) (λ b. b.is) (insert p qs) (insert_law p qs a)
  where
    go : (b c : Bool) → (T b → Before p q) → (T c → Before q p) → (Before p q → T b) → (Before q p → T c) → (r : List Plane) → Put p qs r → Put p (q ∷ qs) (insert_by b c p q qs r)
    go true c f g f' g' r k = record { asc = next less (next h a); has = record { to = λ s m. m; from = λ s m. m } }
      where
        less : (s : Plane) → s ∈ (q ∷ qs) → Before p s
        less s (here e) = subst (λ t. Before p t) (sym e) (f tt)
        less s (there m) = before_trans (f tt) (h s m)
    go false true f g f' g' r k = record { asc = next less k.asc; has = record { to = to; from = from } }
      where
        less' : (s : Plane) → s ∈ (p ∷ qs) → Before q s
        less' s (here e) = subst (λ t. Before q t) (sym e) (g tt)
        less' s (there m) = h s m

        less : (s : Plane) → s ∈ r → Before q s
        less s m = less' s (k.has.from s m)

        to : (s : Plane) → s ∈ (p ∷ q ∷ qs) → s ∈ (q ∷ r)
        to s (here e) = there (k.has.to s (here e))
        to s (there (here e)) = here e
        to s (there (there m)) = there (k.has.to s (there m))

        from' : (s : Plane) → s ∈ (p ∷ qs) → s ∈ (p ∷ q ∷ qs)
        from' s (here e) = here e
        from' s (there m) = there (there m)

        from : (s : Plane) → s ∈ (q ∷ r) → s ∈ (p ∷ q ∷ qs)
        from s (here e) = there (here e)
        from s (there m) = from' s (k.has.from s m)
    go false false f g f' g' r k = record { asc = next h a; has = record { to = to; from = λ s m. there m } }
      where
        e : p ≡ q
        e = neither (ordered p q) f' g'

        to : (s : Plane) → s ∈ (p ∷ q ∷ qs) → s ∈ (q ∷ qs)
        to s (here d) = here (d ∙ e)
        to s (there m) = m

-- an ascending list of planes of another is no longer
pub ascending_less : {ps qs : List Plane} → Ascending ps → Ascending qs → ((p : Plane) → p ∈ ps → p ∈ qs) → length ps ≤ length qs
ascending_less empty b f = omega arith
ascending_less (next {p = p} h a) empty f = elim (f p (here refl)) [ ]
ascending_less (next {p = p} {ps = ps} h a) (next {p = q} {ps = qs} g b) f = by (f p (here refl)) (λ k. ascending_less a b k) (λ k. ascending_less (next h a) b k)
  where
    -- what comes after p is not q
    other : (x : Plane) → x ∈ ps → x ∈ (q ∷ qs) → (x ≡ q → ⊥) → x ∈ qs
    other x m (here e) n = absurd (n e)
    other x m (there i) n = i

    by : p ∈ (q ∷ qs) → (((x : Plane) → x ∈ ps → x ∈ qs) → length ps ≤ length qs) → (((x : Plane) → x ∈ (p ∷ ps) → x ∈ qs) → length (p ∷ ps) ≤ length qs) → length (p ∷ ps) ≤ length (q ∷ qs)
    by (here e) u v = let l = u (λ x m. other x m (f x (there m)) (λ d. before_irrefl (h x m) (e ∙ sym d))) in omega (arith, l)
    by (there i) u v = let l = v (λ x m. into x m) in omega (arith, l)
      where
        into : (x : Plane) → x ∈ (p ∷ ps) → x ∈ qs
        into x (here e) = subst (λ y. y ∈ qs) (sym e) i
        into x (there m) = other x m (f x (there m)) (λ d. before_asym (h x m) (subst (λ y. Before y p) (sym d) (g p i)))

pub ascending_law : (qs : List Plane) → Ascending (ascending qs)
unfolding ascending
ascending_law [] = empty
ascending_law (q ∷ qs) = (insert_law q (ascending qs) (ascending_law qs)).asc

pub ascending_same : (qs : List Plane) → Same qs (ascending qs)
unfolding ascending
ascending_same [] = record { to = λ q m. m; from = λ q m. m }
ascending_same (q ∷ qs) = let k = ascending_same qs in record { to = λ s m. r.has.to s (up k s m); from = λ s m. down k s (r.has.from s m) }
  where
    r : Put q (ascending qs) (insert q (ascending qs))
    r = insert_law q (ascending qs) (ascending_law qs)

    up : Same qs (ascending qs) → (s : Plane) → s ∈ (q ∷ qs) → s ∈ (q ∷ ascending qs)
    up k s (here e) = here e
    up k s (there m) = there (k.to s m)

    down : Same qs (ascending qs) → (s : Plane) → s ∈ (q ∷ ascending qs) → s ∈ (q ∷ qs)
    down k s (here e) = here e
    down k s (there m) = there (k.from s m)

-- ---- places

pub place_at : {p : Plane} {ps : List Plane} → p ∈ ps → get_elem? ps (place ps p) ≡ some p
unfolding place
place_at {p = p} {ps = []} m = elim m [ ]
place_at {p} {ps = q ∷ qs} m = go (equal q p) (equal_of q p) refl m (λ (k : p ∈ qs). place_at k)
  where
    go : (b : Bool) → (T b → q ≡ p) → equal q p ≡ b → p ∈ (q ∷ qs) → (p ∈ qs → get_elem? qs (place qs p) ≡ some p) → get_elem? (q ∷ qs) (cond b 0 (suc (place qs p))) ≡ some p
    go true f e m k = ap some (f tt)
    go false f e (here d) k = absurd (subst T e (subst (λ t. T (equal t p)) d (equal_self p)))
    go false f e (there m) k = k m

pub place_of : {ps : List Plane} (n : ℕ) {p : Plane} → Ascending ps → get_elem? ps n ≡ some p → place ps p ≡ n
unfolding place
place_of n empty e = differ (cc)
place_of zero {p} (next {p = q} h a) e = let d : q ≡ p = cc in rw (is_true (equal q p) (subst (λ t. T (equal q t)) d (equal_self q)))
place_of (suc n) {p} (next {p = q} {ps = qs} h a) e =
    rw (is_false (equal q p) (λ t. before_irrefl (h p (elem_in qs n e)) (equal_of q p t)), place_of n a e)

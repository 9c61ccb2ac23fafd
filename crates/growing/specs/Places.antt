-- The listed planes: the first that cuts a cell is the one of the normal form; and the place in the list from which on planes are asked.
--     FirstOf, Among                          the first of some planes that cuts a cell
--     Listing, first_listed, listed_first     a list of boundary planes before which no other comes: its first is the form's
--     RestOf, rest_..                         of the listed planes none but the rest cuts the cell
--     place_start, place_pass, place_first    asked from place 0 on; the plane in a place misses the cell, or cuts it and is the first
--     place_below                             below a row, from the place after it on
--     place_own, place_found, rest_some      a plane that cuts the cell stands in a place still to be asked, so there is one
--     ascending_last                          a plane put at the end
use Rattle.std.specs.Prelude.{◌≡◌, refl, Bool, true, false, List, [], ◌∷◌, ◌++◌, ◌≢◌, ◌⊎◌, ℕ, zero, suc, ◌≤◌, ◌<◌, T, length, drop}
use Rattle.std.proofs.Common.{sym, ap, subst, inl, inr, arith}
use Rattle.std.proofs.Math.Option.{some}
use Rattle.std.proofs.Math.ListN.{get_elem?}
use Rattle.whole.specs.Tests.{differ}
use Rattle.whole.specs.Members.{◌∈◌, here, there, in_either, in_elem, elem_small}
use Rattle.scope.specs.Planes.{Plane, before}
use Rattle.scope.specs.Cells.{Cuts}
use Rattle.scope.specs.Normal.{Space, Boundary, First}
use Rattle.theory.specs.Planes.Order.{Before, before_irrefl, before_asym}
use Rattle.theory.specs.Planes.Lists.{Ascending, empty, next}
use Rattle.theory.specs.Cells.Box.{tail}
use Rattle.theory.specs.Cells.Sides.{half, cuts_new, cuts_new_back}

-- ---- the first

-- the first of the planes L that cuts the cell
pub record FirstOf (L : Plane → Type 0) (c : List Plane) (p : Plane) : Type 0 where
  pub listed : L p
  pub cuts : Cuts p c
  pub least : (q : Plane) → L q → Cuts q c → ¬ T (before q p)

abbrev pub Among : List Plane → Plane → Type 0
Among ls q = q ∈ ls

-- boundary planes in order; those not listed yet come after them all
pub record Listing (S : Space) (ls : List Plane) : Type 0 where
  pub order : Ascending ls
  pub are : (q : Plane) → q ∈ ls → Boundary S q
  pub later : (q : Plane) → Boundary S q → (q ∈ ls) ⊎ ((p : Plane) → p ∈ ls → Before p q)

module _ {S : Space} {ls c : List Plane} {q : Plane} (l : Listing S ls) where
  pub first_listed : FirstOf (Among ls) c q → First S c q
  first_listed f = record { boundary = l.are q f.listed; cuts = f.cuts; least = λ p b k h. go p k h (l.later p b) }
    where
      go : (p : Plane) → Cuts p c → T (before p q) → (p ∈ ls) ⊎ ((r : Plane) → r ∈ ls → Before r p) → ⊥
      go p k h (inl m) = f.least p m k h
      go p k h (inr a) = before_asym (a q f.listed) (record { is = h })

  pub listed_first : q ∈ ls → First S c q → FirstOf (Among ls) c q
  listed_first m f = record { listed = m; cuts = f.cuts; least = λ p n k. f.least p (l.are p n) k }

-- ---- the rest of the list

-- of the listed planes none but those of the rest cut the cell
pub record RestOf (ls rest c : List Plane) : Type 0 where
  pub order : Ascending rest
  pub are : (q : Plane) → q ∈ rest → q ∈ ls
  pub all : (q : Plane) → q ∈ ls → Cuts q c → q ∈ rest

pub rest_start : {ls : List Plane} (c : List Plane) → Ascending ls → RestOf ls ls c
rest_start c a = record { order = a; are = λ q m. m; all = λ q m k. m }

other : {p q : Plane} {ps : List Plane} → q ∈ (p ∷ ps) → q ≢ p → q ∈ ps
other (here e) d = absurd (d e)
other (there m) d = m

module _ {ls c : List Plane} {p : Plane} {ps : List Plane} (t : RestOf ls (p ∷ ps) c) where
  pub rest_pass : ¬ Cuts p c → RestOf ls ps c
  rest_pass n = record {
    order = elim t.order [ next h a ↦ a ];
    are = λ q m. t.are q (there m);
    all = λ q m k. other (t.all q m k) (λ e. n (subst (λ r. Cuts r c) e k));
  }

  -- the first of the rest that cuts is the first of all
  pub rest_first : Cuts p c → FirstOf (Among ls) c p
  rest_first k = record { listed = t.are p (here refl); cuts = k; least = λ q m j l. least q t.order (t.all q m j) (record { is = l }) }
    where
      least : (q : Plane) → Ascending (p ∷ ps) → q ∈ (p ∷ ps) → Before q p → ⊥
      least q a (here e) l = before_irrefl l e
      least q (next h a) (there m) l = before_asym (h q m) l

-- ---- places

-- the list from a place on begins with the plane there
drop_at : (ls : List Plane) (k : ℕ) {q : Plane} → get_elem? ls k ≡ some q → drop k ls ≡ q ∷ drop (suc k) ls
drop_at [] k e = differ (cc)
drop_at (p ∷ ls) zero {q} e = let d : p ≡ q = cc in ap (λ r. r ∷ ls) d
drop_at (p ∷ ls) (suc k) e = drop_at ls k e

drop_in : (ls : List Plane) (k : ℕ) {q : Plane} → q ∈ drop k ls → q ∈ ls
drop_in ls zero m = m
drop_in [] (suc k) m = m
drop_in (p ∷ ls) (suc k) m = there (drop_in ls k m)

drop_ascending : (ls : List Plane) (k : ℕ) → Ascending ls → Ascending (drop k ls)
drop_ascending ls zero a = a
drop_ascending [] (suc k) a = a
drop_ascending (p ∷ ls) (suc k) (next h a) = drop_ascending ls k a

-- a listed plane is before the one in a place, or stands from there on
drop_either : (ls : List Plane) (k : ℕ) {q : Plane} → Ascending ls → q ∈ drop k ls → (r : Plane) → r ∈ ls → (Before r q) ⊎ (r ∈ drop k ls)
drop_either ls zero a m r n = inr n
drop_either [] (suc k) {q = q} a m r n = elim m [ ]
drop_either (p ∷ ls) (suc k) {q} (next h a) m r (here e) = inl (subst (λ s. Before s q) (sym e) (h q (drop_in ls k m)))
drop_either (p ∷ ls) (suc k) (next h a) m r (there n) = drop_either ls k a m r n

pub place_start : (ls : List Plane) (c : List Plane) → Ascending ls → RestOf ls (drop 0 ls) c
place_start ls c a = rest_start c a

half_new : (s : Bool) {q : Plane} {c : List Plane} → ¬ Cuts q (half s q ∷ c)
half_new true k = cuts_new k (here refl)
half_new false k = cuts_new_back k (here refl)

pub place_pass : (ls : List Plane) (k : ℕ) {c : List Plane} {q : Plane} → get_elem? ls k ≡ some q → RestOf ls (drop k ls) c → ¬ Cuts q c → RestOf ls (drop (suc k) ls) c
place_pass ls k {c} e t n = rest_pass (subst (λ rs. RestOf ls rs c) (drop_at ls k e) t) n

module _ {S : Space} (ls : List Plane) (k : ℕ) {c : List Plane} {q : Plane} (l : Listing S ls) (e : get_elem? ls k ≡ some q) where
  pub place_first : RestOf ls (drop k ls) c → Cuts q c → First S c q
  place_first t x = first_listed l (rest_first (subst (λ rs. RestOf ls rs c) (drop_at ls k e) t) x)

  -- a listed plane that cuts a half of the cell cuts the cell, so it is not before q; and it is not q
  pub place_below : First S c q → (s : Bool) → RestOf ls (drop (suc k) ls) (half s q ∷ c)
  place_below f s = record { order = drop_ascending ls (suc k) l.order; are = λ r m. drop_in ls (suc k) m; all = all }
    where
      here_q : q ∈ drop k ls
      here_q = subst (λ rs. q ∈ rs) (sym (drop_at ls k e)) (here refl)

      all : (r : Plane) → r ∈ ls → Cuts r (half s q ∷ c) → r ∈ drop (suc k) ls
      all r m x = go (drop_either ls k l.order here_q r m)
        where
          go : (Before r q) ⊎ (r ∈ drop k ls) → r ∈ drop (suc k) ls
          go (inl h) = absurd (f.least r (l.are r m) (record { point = x.point; on = x.on; inside = tail x.inside }) h.is)
          go (inr n) = other (subst (λ rs. r ∈ rs) (drop_at ls k e) n) (λ i. half_new s (subst (λ z. Cuts z (half s q ∷ c)) i x))

-- a plane that cuts the cell stands in a place still to be asked
pub place_own : (ls : List Plane) (k : ℕ) {c : List Plane} {p : Plane} → RestOf ls (drop k ls) c → p ∈ ls → Cuts p c → p ∈ drop k ls
place_own ls k {p = p} t m x = t.all p m x

pub place_found : (ls : List Plane) (k : ℕ) {p : Plane} → p ∈ drop k ls → (j : ℕ) × (k ≤ j) × (get_elem? ls j ≡ some p)
place_found ls zero m = let r = in_elem m in (r.0, omega arith, r.1)
place_found [] (suc k) m = elim m [ ]
place_found (q ∷ ls) (suc k) m = let r = place_found ls k m in (suc r.0, omega (arith, r.1), r.2)

-- so there is a plane in that place
pub rest_some : (ls : List Plane) (k : ℕ) {p : Plane} → p ∈ drop k ls → k < length ls
rest_some ls k m = let r = place_found ls k m in omega (arith, r.1, elem_small ls r.0 r.2)

-- ---- a plane put at the end

pub at_end : {q p : Plane} (ls : List Plane) → q ∈ (ls ++ (p ∷ [])) → (q ∈ ls) ⊎ (q ≡ p)
at_end ls m = elim (in_either ls _ m) [ inl k ↦ inl k | inr k ↦ elim k [ here e ↦ inr e | there n ↦ elim n [ ] ] ]

pub ascending_last : {ls : List Plane} {p : Plane} → Ascending ls → ((q : Plane) → q ∈ ls → Before q p) → Ascending (ls ++ (p ∷ []))
ascending_last {p = p} empty a = next {p = p} {ps = []} (λ q m. elim m [ ]) empty
ascending_last {p = p} (next {p = q} {ps = ps} h r) a = next (λ s m. go s (at_end ps m)) (ascending_last r (λ s m. a s (there m)))
  where
    go : (s : Plane) → (s ∈ ps) ⊎ (s ≡ p) → Before q s
    go s (inl m) = h s m
    go s (inr e) = subst (Before q) (sym e) (a q (here refl))

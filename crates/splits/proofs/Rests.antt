-- The listed planes that are left for a cell: those that cut it stand in place k or later.
--     places_before        in an ascending list the planes of rising places are in order
--     rest_on, rest_half   where some that do not cut are passed over, and in a half of the cell
--     listed_first         the plane in place k, if it cuts the cell, is the plane of B.3
--     some_cuts            one of them cuts a mixed cell
use mathlib.Core.Path.{◌≡◌, refl, sym, ap, subst, ◌∙◌}
use mathlib.Core.Bool.{Bool, true, false}
use mathlib.Core.List.{List, ◌∷◌}
use mathlib.Core.Option.{some}
use Prim.Native.Nat.{ℕ, zero, suc, ◌+◌, ◌-◌, ◌≤◌, ◌<◌}
use native.Mathlib.Omega.{arith}
use lib.IntN.{ℤ}
use lib.ListN.{length, get_elem?}
use Rattle.whole.specs.Tests.{differ}
use Rattle.whole.specs.Members.{here, elem_in}
use Rattle.scope.specs.Planes.{Plane, flip}
use Rattle.scope.specs.Cells.{box, Cuts}
use Rattle.scope.specs.Normal as normal
use Rattle.scope.specs.Normal.{Space}
use Rattle.theory.specs.Planes.Order.{Before, before_irrefl, before_asym}
use Rattle.theory.specs.Planes.Lists.{Ascending, empty, next}
use Rattle.theory.specs.Planes.General.{General}
use Rattle.theory.specs.Cells.Box.{tail}
use Rattle.theory.specs.Cells.Sides.{half, cuts_new, cuts_new_back}
use Rattle.theory.specs.Cells.Uniform as theory
use Rattle.theory.specs.Forms.Normal.{Within, boundary_cuts}
use Rattle.tables.specs.Rows.{plane_at}
use Rattle.walks.specs.Standing.{list}
use Rattle.borders.specs.Bounded.{listed, Bounded, Later}
use Rattle.splits.specs.Splits.{Rest}
use Rattle.borders.proofs.Rows.{row_elem}

-- ---- order

elems_before : {ps : List Plane} → Ascending ps → (i j : ℕ) {p q : Plane} → get_elem? ps i ≡ some p → get_elem? ps j ≡ some q → i < j → Before p q
elems_before empty i j e f l = differ (cc)
elems_before (next {p = r} {ps = ps} h a) zero zero e f l = absurd (omega (arith, l))
elems_before (next {p = r} {ps = ps} h a) zero (suc j) {p} {q} e f l = let d : r ≡ p = cc in subst (λ s. Before s q) d (h q (elem_in ps j f))
elems_before (next {p = r} {ps = ps} h a) (suc i) zero e f l = absurd (omega (arith, l))
elems_before (next {p = r} {ps = ps} h a) (suc i) (suc j) e f l = elems_before a i j e f (omega (arith, l))

places_before : (xs : List ℤ) {i j : ℕ} → Ascending (list xs) → i < length (list xs) → j < length (list xs) → i < j → Before (plane_at xs i) (plane_at xs j)
places_before xs {i} {j} a h k l = elems_before a i j (row_elem xs i h) (row_elem xs j k) l

-- ---- what is left

module _ {S : Space} {xs : List ℤ} {bs : List ℕ} {k : ℕ} {c : List Plane} (r : Rest S xs bs k c) where
  pub rest_on : {i : ℕ} → ((j : ℕ) → k ≤ j → j < i → ¬ Cuts (listed xs bs j) c) → Rest S xs bs i c
  rest_on {i} n q b u = by (r q b u)
    where
      by : Later xs bs k q → Later xs bs i q
      by l = go (i - l.place) refl
        where
          go : (d : ℕ) → i - l.place ≡ d → Later xs bs i q
          go zero e = record { place = l.place; late = omega (arith, e); inside = l.inside; is = l.is }
          go (suc d) e = absurd (n l.place l.late (omega (arith, e)) (subst (λ p. Cuts p c) (sym l.is) u))

  up : {h q : Plane} → Cuts q (h ∷ c) → Cuts q c
  up u = record { point = u.point; on = u.on; inside = tail u.inside }

  -- a plane does not cut its own halves
  own_misses : (s : Bool) {p q : Plane} → q ≡ p → ¬ Cuts q (half s p ∷ c)
  own_misses true e u = cuts_new u (here e)
  own_misses false e u = cuts_new_back u (here (ap flip e))

  pub rest_half : (s : Bool) → Rest S xs bs (k + 1) (half s (listed xs bs k) ∷ c)
  rest_half s q b u = by (r q b (up u))
    where
      by : Later xs bs k q → Later xs bs (k + 1) q
      by l = go (l.place - k) refl
        where
          go : (d : ℕ) → l.place - k ≡ d → Later xs bs (k + 1) q
          go zero e = let j : l.place ≡ k = omega (arith, e, l.late) in absurd (own_misses s {p = listed xs bs k} (sym l.is ∙ ap (listed xs bs) j) u)
          go (suc d) e = record { place = l.place; late = omega (arith, e); inside = l.inside; is = l.is }

  -- the first of those that are left is the plane of B.3
  pub listed_first : Ascending (list xs) → Bounded S xs bs → k < length bs → Cuts (listed xs bs k) c → normal.First S c (listed xs bs k)
  listed_first a b l u = record { boundary = (b.are k l).1; cuts = u; least = λ q bq uq t. by q (r q bq uq) (record { is = t }) }
    where
      by : (q : Plane) → Later xs bs k q → Before q (listed xs bs k) → ⊥
      by q m t = go (m.place - k) refl
        where
          go : (d : ℕ) → m.place - k ≡ d → ⊥
          go zero e = let j : m.place ≡ k = omega (arith, e, m.late) in before_irrefl t (sym m.is ∙ ap (listed xs bs) j)
          go (suc d) e = before_asym t (subst (Before (listed xs bs k)) m.is (places_before xs a (b.are k l).0 (b.are m.place m.inside).0 (b.rising k m.place (omega (arith, e)) m.inside)))

  pub some_cuts : General S.list → Within c box → theory.Mixed S c → ((j : ℕ) → k ≤ j → j < length bs → ¬ Cuts (listed xs bs j) c) → ⊥
  some_cuts g w m n = let f = boundary_cuts S g c w m in let l = r f.0 f.1 f.2 in n l.place l.late l.inside (subst (λ p. Cuts p c) (sym l.is) f.2)

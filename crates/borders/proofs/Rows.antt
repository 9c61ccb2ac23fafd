-- The planes of the joined list, by their numbers.
--     list_length           how many they are
--     row_elem, row_there, row_member   plane n: its numbers stand in the table, and it is in the list
--     RowOf, member_row     the number of a plane
--     own_row, own_small    in an ascending list a plane has one number
--     stands_planes         the planes of a tree that stands in a table
--     tree_lawful, both_general   they are lawful, and those of two trees in general position
use mathlib.Core.Path.{◌≡◌, refl, sym, subst, ◌∙◌}
use mathlib.Core.List.{List, [], ◌∷◌, ◌++◌}
use mathlib.Core.Logic.{inl, inr}
use mathlib.Core.Option.{some}
use Prim.Native.Nat.{ℕ, zero, suc, ◌+◌, ◌*◌, ◌/◌, ◌<◌}
use native.Mathlib.Omega.{arith}
use borrow.Author.Count.{below_more}
use lib.IntN.{ℤ}
use lib.ListN.{length, get_elem?, length-append}
use Rattle.whole.specs.Members.{◌∈◌, here, there, in_either, elem_in, elem_small, in_elem}
use Rattle.scope.specs.Planes.{Plane, Lawful}
use Rattle.scope.specs.Solids.{Tree, planes}
use Rattle.theory.specs.Planes.Apart.{lawful_general}
use Rattle.theory.specs.Planes.General.{General}
use Rattle.theory.specs.Planes.Lists.{Ascending, place_of}
use Rattle.theory.specs.Cells.Walk.{EachPlane}
use Rattle.tables.specs.Rows.{plane_at, planes_to}
use Rattle.walks.specs.Standing.{list, Stands, at_mark, at_row}
use Rattle.borders.specs.Sides.{Own}

planes_length : (xs : List ℤ) (n : ℕ) → length (planes_to xs n) ≡ n
unfolding planes_to
planes_length xs zero = refl
planes_length xs (suc n) = simp length-append (omega (arith, planes_length xs n))

pub list_length : (xs : List ℤ) → length (list xs) ≡ length xs / 4
list_length xs = planes_length xs (length xs / 4)

elem_left : {A : Type 0} (ps qs : List A) (i : ℕ) → i < length ps → get_elem? (ps ++ qs) i ≡ get_elem? ps i
elem_left [] qs i l = absurd (omega (arith, l))
elem_left (p ∷ ps) qs zero l = refl
elem_left (p ∷ ps) qs (suc i) l = elem_left ps qs i (omega (arith, l))

elem_end : {A : Type 0} (ps : List A) (q : A) → get_elem? (ps ++ (q ∷ [])) (length ps) ≡ some q
elem_end [] q = refl
elem_end (p ∷ ps) q = elem_end ps q

elem_row : (xs : List ℤ) (n i : ℕ) → i < n → get_elem? (planes_to xs n) i ≡ some (plane_at xs i)
unfolding planes_to
elem_row xs zero i l = absurd (omega (arith, l))
elem_row xs (suc n) i l =
    let ps = planes_to xs n ++ (plane_at xs n ∷ []) in
    below_more (λ i. get_elem? ps i ≡ some (plane_at xs i)) n
    (λ i b. elem_left (planes_to xs n) (plane_at xs n ∷ []) i (omega (arith, b, planes_length xs n)) ∙ elem_row xs n i b)
    (subst (λ m. get_elem? ps m ≡ some (plane_at xs n)) (planes_length xs n) (elem_end (planes_to xs n) (plane_at xs n))) i (omega (arith, l))

pub row_elem : (xs : List ℤ) (i : ℕ) → i < length (list xs) → get_elem? (list xs) i ≡ some (plane_at xs i)
row_elem xs i l = elem_row xs (length xs / 4) i (omega (arith, l, list_length xs))

pub row_there : (xs : List ℤ) (i : ℕ) → i < length (list xs) → 4 * i + 3 < length xs
row_there xs i l = omega (arith, l, list_length xs)

pub row_member : (xs : List ℤ) (i : ℕ) → i < length (list xs) → plane_at xs i ∈ list xs
row_member xs i l = elem_in (list xs) i (row_elem xs i l)

-- the number of a plane of the list
pub record RowOf (xs : List ℤ) (p : Plane) : Type 0 where
  pub number : ℕ
  pub inside : number < length (list xs)
  pub is : plane_at xs number ≡ p

pub member_row : {xs : List ℤ} {p : Plane} → p ∈ list xs → RowOf xs p
member_row {xs} {p} m =
    let i = in_elem m in
    let l = elem_small (list xs) i.0 i.1 in
    let e : some (plane_at xs i.0) ≡ some p = sym (row_elem xs i.0 l) ∙ i.1 in
    record { number = i.0; inside = l; is = cc }

-- in an ascending list a plane has one number
pub own_row : {xs : List ℤ} → Ascending (list xs) → (i : ℕ) → i < length (list xs) → Own xs i
own_row {xs} a i l = record { there = row_there xs i l; member = row_member xs i l; place = place_of i a (row_elem xs i l) }

pub own_small : {xs : List ℤ} {i : ℕ} → Own xs i → i < length (list xs)
own_small {xs} o = omega (arith, o.there, list_length xs)

-- every plane of a tree that stands is in the list
pub stands_planes : {xs : List ℤ} {numbers ns : List ℕ} {o c : ℕ} {t : Tree} → Stands xs numbers ns o c t → (p : Plane) → p ∈ planes t → p ∈ list xs
stands_planes (at_mark m) p n = elim n [ ]
stands_planes {xs} (at_row r u v) p (here e) = subst (λ q. q ∈ list xs) (sym e) r.member
stands_planes {xs} (at_row {f = f} {b = b} r u v) p (there n) = elim (in_either (planes f) (planes b) n) [ inl i ↦ stands_planes u p i | inr i ↦ stands_planes v p i ]

-- the planes of the list are lawful
module _ {xs : List ℤ} (l : (p : Plane) → p ∈ list xs → Lawful p) where
  pub tree_lawful : {numbers ns : List ℕ} {o c : ℕ} {t : Tree} → Stands xs numbers ns o c t → EachPlane Lawful t
  tree_lawful s = record { each = λ p m. l p (stands_planes s p m) }

  pub both_general : {numbers ns ms : List ℕ} {o c u d : ℕ} {A B : Tree} → Stands xs numbers ns o c A → Stands xs numbers ms u d B → General (planes A ++ planes B)
  both_general {A = A} {B = B} x y = lawful_general (λ p m. elim (in_either (planes A) (planes B) m) [ inl i ↦ (tree_lawful x).each p i | inr i ↦ (tree_lawful y).each p i ])

-- Document 01, "Worked on paper": the cases marked * are one list of inputs with expected answers, and one theorem over that list.
--     Case, Holds    a case, and what it says of the definitions
--     starred        the list
--     worked         the theorem
use mathlib.Core.Path.{◌≡◌, refl, sym, subst, ◌∙◌}
use mathlib.Core.Bool.{Bool, true, false, not}
use mathlib.Core.List.{List, [], ◌∷◌}
use mathlib.Core.Logic.{◌≢◌}
use mathlib.Core.Option.{Option, none as absent, some}
use Prim.Native.Nat.{ℕ}
use Prim.Native.String.{String}
use lib.Dec.{T}
use lib.IntN.{pos}
use Rattle.whole.specs.Order.{◌⋖◌, Lies, below, on, above, lies, pos_not_zero, neg_not_zero}
use Rattle.whole.specs.Sign.{Sign, minus, nought, plus}
use Rattle.whole.specs.Gcd.{euclid, gcd}
use Rattle.whole.specs.Lists.{Each, Each.none, Each.◌and◌}
use Rattle.whole.specs.Members.{◌∈◌, here, there}
use Rattle.scope.specs.Planes.{Plane, Point, at, side, coincident, in_range, lead, common, Fault, fault, before, equal}
use Rattle.scope.specs.Solids.{Mark, IN, OUT, Tree, leaf, node, rows, code, post, insert, ascending, place, Tables, tables, tables_of, pick, walk, front}
use Rattle.scope.specs.Cells.{Inside, box, Cuts, Off, y-, y+, z-, z+, Operation, union, intersection, difference, Merged}
use Rattle.scope.specs.Section.{clip, clips, section}
use Rattle.scope.specs.Normal.{Space, space, taking, Boundary, Uniform, uniform, split, NormalForm}
use Rattle.scope.specs.Text.{hex, hexes, line, high, low, bytes, written, node_frames, solid_frames, text, text_of}
use Rattle.scope.proofs.Kit.{pl, m, same_planes, same_numbers, chars_from, chars}
use Rattle.scope.proofs.Points.{tested, test, flip_back, front_true, front_false}
use Rattle.scope.proofs.Cells.{px, py, A, B, pt, a_minus_a, a_or_b, a_and_b, in_out}

-- ---- cases

pub data Case : Type 0 where
  -- the side of a plane on which a point lies
  side_is : Plane → Point → Sign → Case
  -- whether a plane is lawful
  lawful_is : Plane → Bool → Case
  -- the bounds of a section; none for Nothing
  section_is : Plane → List Plane → List Plane → Case
  -- the text of a merged tree
  merge_is : Operation → Tree → Tree → String → Case
  -- the node lines of a merged tree, and of its normal form
  merge_rows : Operation → Tree → Tree → String → Case
  form_rows : Operation → Tree → Tree → String → Case

-- ---- tests

abbrev same_sign : Sign → Sign → Bool
same_sign minus minus = true
same_sign minus nought = false
same_sign minus plus = false
same_sign nought minus = false
same_sign nought nought = true
same_sign nought plus = false
same_sign plus minus = false
same_sign plus nought = false
same_sign plus plus = true

abbrev no_fault : Option Fault → Bool
no_fault absent = true
no_fault (some f) = false

abbrev agree : Bool → Bool → Bool
agree true b = b
agree false b = not b

abbrev node_lines : Tables → List ℕ
node_lines (tables ps es r) = written (node_frames es [])

-- ---- what a case says

abbrev pub Holds : Case → Type 0
Holds (side_is p X s) = T (same_sign (side p X) s)
Holds (lawful_is p b) = T (agree b (no_fault (fault p)))
Holds (section_is s hs bs) = T (same_planes (section s hs) bs)
Holds (merge_is o A B s) = (r : Tree) × Merged o A B r × T (same_numbers (text_of r) (chars s))
Holds (merge_rows o A B s) = (r : Tree) × Merged o A B r × T (same_numbers (node_lines (tables_of r)) (chars s))
Holds (form_rows o A B s) = (t : Tree) × (r : Tree) × Merged o A B t × NormalForm t r × T (same_numbers (node_lines (tables_of r)) (chars s))

-- ---- the list

unfoldable pub starred : List Case
starred = side_is (pl (pos 0) (pos 0) (pos 1) (m 5)) (pl (pos 0) (pos 0) (pos 10) (pos 2)) nought
    ∷ lawful_is (pl (pos 1000) (pos 0) (pos 0) (pos 1)) true
    ∷ lawful_is (pl (pos 1001) (pos 0) (pos 0) (pos 1)) false
    ∷ lawful_is (pl (pos 0) (pos 0) (pos 0) (pos 1)) false
    ∷ lawful_is (pl (pos 2) (pos 4) (pos 6) (pos 8)) false
    ∷ lawful_is (pl (m 1) (pos 0) (pos 0) (pos 5)) false
    ∷ section_is px [] (z- ∷ y+ ∷ z+ ∷ y- ∷ [])
    ∷ section_is px (py ∷ []) (py ∷ z- ∷ y+ ∷ z+ ∷ [])
    ∷ section_is (pl (pos 1) (pos 0) (pos 0) (m 30000)) [] []
    ∷ section_is (pl (pos 1) (pos 0) (pos 0) (m 29999)) [] (z- ∷ y+ ∷ z+ ∷ y- ∷ [])
    ∷ merge_is difference A A "01000000FFFE\n04\n"
    ∷ merge_rows union A B "0300FFFFFFFE\n0301FFFF0000\n"
    ∷ form_rows intersection A B "0301FFFFFFFE\n03000000FFFE\n"
    ∷ []

-- ---- the normal form of AB: y's plane comes first

abbrev AB : Tree
AB = node px (node py (leaf IN) (leaf OUT)) (leaf OUT)

abbrev S : Space
S = space AB

marks : (σ : Plane → Bool) (a b : Bool) → σ px ≡ a → σ py ≡ b → S.mark σ ≡ pick a (pick b IN OUT) OUT
unfolding walk
marks σ true true d e = rw (d, e)
marks σ true false d e = rw (d, e)
marks σ false b d e = rw d

-- of the two planes
of_two : (Q : Plane → Type 0) → Q px → Q py → (q : Plane) → q ∈ S.list → Q q
of_two Q h k q (here e) = subst Q (sym e) h
of_two Q h k q (there (here e)) = subst Q (sym e) k
of_two Q h k q (there (there m)) = elim m [ ]

y_boundary : Boundary S py
unfolding at box tested walk taking equal front
y_boundary = record {
  member = there (here refl);
  point = P;
  inside = test box P tt;
  on = refl;
  others = of_two (λ q. q ≢ py → at q P ≢ pos 0) (λ d. pos_not_zero (record { lt = tt })) (λ d. absurd (d refl));
  differ = in_out;
}
  where
    P : Point
    P = pt (pos 1) (pos 0)

x_boundary : Boundary S px
unfolding at box tested walk taking equal front
x_boundary = record {
  member = here refl;
  point = P;
  inside = test box P tt;
  on = refl;
  others = of_two (λ q. q ≢ px → at q P ≢ pos 0) (λ d. absurd (d refl)) (λ d. pos_not_zero (record { lt = tt }));
  differ = in_out;
}
  where
    P : Point
    P = pt (pos 0) (pos 1)

-- IN at (1,1) and OUT at (-1,1): a cell with both is not uniform
in_off : Off S.list (pt (pos 1) (pos 1))
unfolding at
in_off = record { none = of_two (λ q. at q (pt (pos 1) (pos 1)) ≢ pos 0) (pos_not_zero (record { lt = tt })) (pos_not_zero (record { lt = tt })) }

out_off : Off S.list (pt (m 1) (pos 1))
unfolding at
out_off = record { none = of_two (λ q. at q (pt (m 1) (pos 1)) ≢ pos 0) (neg_not_zero (record { lt = tt })) (pos_not_zero (record { lt = tt })) }

mixed : (c : List Plane) → Inside c (pt (pos 1) (pos 1)) → Inside c (pt (m 1) (pos 1)) → (k : Mark) → ¬ Uniform S c k
unfolding at
mixed c i j k u = in_out (sym (marks _ true true (front_true px (pt (pos 1) (pos 1)) (record { lt = tt })) (front_true py (pt (pos 1) (pos 1)) (record { lt = tt })))
    ∙ u.all _ i in_off ∙ sym (u.all _ j out_off)
    ∙ marks _ false true (front_false px (pt (m 1) (pos 1)) (record { lt = tt })) (front_true py (pt (m 1) (pos 1)) (record { lt = tt })))

a_and_b_form : NormalForm AB (node py (node px (leaf IN) (leaf OUT)) (leaf OUT))
unfolding at box tested before
a_and_b_form = split (mixed box (test box _ tt) (test box _ tt))
    (record {
      boundary = y_boundary;
      cuts = record { point = pt (pos 0) (pos 0); on = refl; inside = test box _ tt };
      least = λ q b. of_two (λ q. Cuts q box → ¬ T (before q py)) (λ k t. t) (λ k t. t) q b.member;
    })
    (split (mixed (py ∷ box) (test (py ∷ box) _ tt) (test (py ∷ box) _ tt))
    (record {
      boundary = x_boundary;
      cuts = record { point = pt (pos 0) (pos 1); on = refl; inside = test (py ∷ box) _ tt };
      least = λ q b. of_two (λ q. Cuts q (py ∷ box) → ¬ T (before q px)) (λ k t. t) (λ k t. pos_not_zero (k.inside.each py (here refl)) k.on) q b.member;
    })
    (uniform (record { all = λ X i z. marks (front X) true true (front_true px X (i.each _ (here refl))) (front_true py X (i.each _ (there (here refl)))) }))
    (uniform (record { all = λ X i z. marks (front X) false true (front_false px X (flip_back px X (i.each _ (here refl)))) (front_true py X (i.each _ (there (here refl)))) })))
    (uniform (record { all = λ X i z. out_back X (lies (at px X)) (flip_back py X (i.each _ (here refl))) z }))
  where
    out_back : (X : Point) → Lies (at px X) → at py X ⋖ pos 0 → Off S.list X → S.mark (front X) ≡ OUT
    out_back X (below h) k z = marks (front X) false false (front_false px X h) (front_false py X k)
    out_back X (on h) k z = absurd (z.none px (here refl) h)
    out_back X (above h) k z = marks (front X) true false (front_true px X h) (front_false py X k)

-- ---- the theorem

the_empty : Holds (merge_is difference A A "01000000FFFE\n04\n")
unfolding same_numbers chars_from text_of text tables_of solid_frames rows code post ascending written bytes line hexes hex high low
the_empty = (leaf OUT, a_minus_a, tt)

the_union : Holds (merge_rows union A B "0300FFFFFFFE\n0301FFFF0000\n")
unfolding same_numbers chars_from tables_of rows code post before insert ascending equal place written bytes line hexes hex high low
the_union = (node px (leaf IN) (node py (leaf IN) (leaf OUT)), a_or_b, tt)

the_form : Holds (form_rows intersection A B "0301FFFFFFFE\n03000000FFFE\n")
unfolding same_numbers chars_from tables_of rows code post before insert ascending equal place written bytes line hexes hex high low
the_form = (AB, node py (node px (leaf IN) (leaf OUT)) (leaf OUT), a_and_b, a_and_b_form, tt)

pub worked : Each Holds starred
unfolding starred at fault in_range lead common gcd euclid same_planes section clips clip coincident equal
worked = tt and tt and tt and tt and tt and tt and tt and tt and tt and tt and the_empty and the_union and the_form and none

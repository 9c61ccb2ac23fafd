-- Cells and merges: with A the side x > 0 and B the side y > 0.
use mathlib.Core.Path.{◌≡◌, refl}
use mathlib.Core.List.{[], ◌∷◌}
use native.Mathlib.Omega.{arith}
use lib.IntN.{ℤ, pos}
use Rattle.whole.specs.Tests.{differ}
use Rattle.whole.specs.Expr.{#, neg}
use Rattle.whole.specs.Vec.{dot4ᴱ}
use Rattle.whole.specs.Solve.{vec4s}
use Rattle.whole.specs.Lin.{lin, ◌⊢◌, ◌≺◌, ◌≋◌}
use Rattle.whole.specs.Order.{◌⋖◌}
use Rattle.whole.specs.Members.{here, there}
use Rattle.scope.specs.Limits.{reach}
use Rattle.scope.specs.Planes.{Plane, Point, at, flip, equal}
use Rattle.scope.specs.Solids.{IN, OUT, Tree, leaf, node, walk, marked, ON, reply}
use Rattle.scope.specs.Cells.{box, Cuts, end, cut, fore, aft, join, union, intersection, difference, operate, Merged}
use Rattle.scope.specs.Normal.{space, taking, Boundary}
use Rattle.scope.proofs.Kit.{pl, m}
use Rattle.scope.proofs.Points.{tested, test, same_front, same_back}

abbrev pub px : Plane
px = pl (pos 1) (pos 0) (pos 0) (pos 0)

abbrev pub py : Plane
py = pl (pos 0) (pos 1) (pos 0) (pos 0)

abbrev pub A : Tree
A = node px (leaf IN) (leaf OUT)

abbrev pub B : Tree
B = node py (leaf IN) (leaf OUT)

abbrev pub pt : ℤ → ℤ → Point
pt a b = pl a b (pos 0) (pos 1)

-- ---- the box is open: the plane x = 30,000 misses it, and x = 29,999 cuts it (below)

no_cut : ¬ Cuts (pl (pos 1) (pos 0) (pos 0) (m reach)) box
unfolding at box
no_cut c = absurd (clash (lin (vec4s 1) (λ X. (# 0 ≺ dot4ᴱ (record { x = neg (# 1); y = # 0; z = # 0; w = # reach }) X) ∷ (dot4ᴱ (record { x = # 1; y = # 0; z = # 0; w = neg (# reach) }) X ≋ # 0) ∷ [] ⊢ # 0 ≺ # 0) (omega arith) c.point
    (c.inside.each _ (there (there (here refl)))) c.on))
  where
    clash : pos 0 ⋖ pos 0 → ⊥
    clash h = h.lt

a_cut : Cuts (pl (pos 1) (pos 0) (pos 0) (m 29999)) box
unfolding at box tested
a_cut = record { point = pt (pos 29999) (pos 0); on = refl; inside = test box _ tt }

-- ---- merges

pub x_cuts : Cuts px box
unfolding at box tested
x_cuts = record { point = pt (pos 0) (pos 0); on = refl; inside = test box _ tt }

pub y_cuts_front : Cuts py (px ∷ box)
unfolding at box tested
y_cuts_front = record { point = pt (pos 1) (pos 0); on = refl; inside = test (px ∷ box) _ tt }

pub y_cuts_back : Cuts py (flip px ∷ box)
unfolding at box tested flip
y_cuts_back = record { point = pt (m 1) (pos 0); on = refl; inside = test (flip px ∷ box) _ tt }

-- A minus A is empty: at A's own plane nothing is kept a second time
pub a_minus_a : Merged difference A A (leaf OUT)
unfolding join operate
a_minus_a = cut {f' = leaf OUT} {b' = leaf OUT} x_cuts (end (fore (same_front px box) (end refl))) (end (aft (same_back px box) (end refl)))

pub a_or_b : Merged union A B (node px (leaf IN) (node py (leaf IN) (leaf OUT)))
unfolding join operate
a_or_b = cut {f' = leaf IN} {b' = node py (leaf IN) (leaf OUT)} x_cuts (end (cut {f' = leaf IN} {b' = leaf IN} y_cuts_front (end refl) (end refl)))
    (end (cut {f' = leaf IN} {b' = leaf OUT} y_cuts_back (end refl) (end refl)))

pub a_and_b : Merged intersection A B (node px (node py (leaf IN) (leaf OUT)) (leaf OUT))
unfolding join operate
a_and_b = cut {f' = node py (leaf IN) (leaf OUT)} {b' = leaf OUT} x_cuts (end (cut {f' = leaf IN} {b' = leaf OUT} y_cuts_front (end refl) (end refl)))
    (end (cut {f' = leaf OUT} {b' = leaf OUT} y_cuts_back (end refl) (end refl)))

-- ---- the walk of a point

at_x : reply A (pt (pos 0) (pos 1)) ≡ ON
unfolding reply at
at_x = refl

beyond : reply (node px (leaf IN) (node py (leaf IN) (leaf OUT))) (pt (pos 1) (pos 0)) ≡ marked IN
unfolding reply at
beyond = refl

-- ---- the marks differ

pub in_out : IN ≡ OUT → ⊥
in_out e = differ (cc)

-- ---- a plane with the same solid on both sides is no boundary plane: the walks that differ at x alone end alike

abbrev both_sides : Tree
both_sides = node px B B

no_boundary : ¬ Boundary (space both_sides) px
unfolding walk taking equal
no_boundary b = b.differ refl

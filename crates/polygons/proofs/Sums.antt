-- The sums of planes and points that the functions are given: their limits, and that numbers read back from their bits give the same sums.
use mathlib.Core.Path.{◌≡◌, ap, ◌∙◌}
use mathlib.Core.Bool.{true}
use Prim.Native.Nat.{ℕ, ◌<◌}
use mathlib.Core.List.{List, [], ◌∷◌}
use lib.IntN.{ℤ, ◌+ℤ◌}
use mir.Syntax.{w64}
use mir.Val.{SFits}
use Rattle.whole.specs.Bounds.{Within}
use Rattle.whole.specs.Expr.{v, ◌⊕◌}
use lib.Signed.{mag}
use Rattle.whole.specs.Code.{Entry, arg, code_fits, code_is, back64}
use Rattle.whole.specs.Vec.{V4, dot4}
use Rattle.whole.specs.Sign.{sgn}
use Rattle.scope.specs.Planes.{at, in_range}
use Rattle.planes.specs.Values.{plane, meeting, side_is}
use Rattle.planes.specs.Bounds.{ThreeIn, in_range_in}
use Rattle.planes.specs.declared.Plane.{Plane}
use Rattle.planes.specs.declared.Meeting.{Meeting}
use Rattle.planes.specs.declared.Side.{Side}
use Rattle.polygons.specs.Tables.{box_side}
use Rattle.polygons.proofs.Kept.{k}
use Rattle.polygons.proofs.Cells.{side_in}

-- ---- a plane at a vertex

-- the side, from the code's sum and its sign
pub side_told : (h : Plane) (X : V4 ℤ) {m : Meeting} → meeting m ≡ X → {v : ℤ} → mag v < 9223372036854775808 → v ≡ dot4 (plane h) (meeting m) → {r : Side} → r ≡ side_is (sgn (k v)) → r ≡ side_is (sgn (at (plane h) X))
unfolding at
side_told h X e {v} ok f g = g ∙ ap (λ z. side_is (sgn z)) (back64 v ok ∙ f ∙ ap (dot4 (plane h)) e)

-- ---- three numbers of vertices, added

module _ {x y z : ℤ} (h : Within x 600000000000000) (i : Within y 600000000000000) (j : Within z 600000000000000) where
  abbrev entries : List Entry
  entries = arg h ∷ arg i ∷ arg j ∷ []

  pub two_fit : SFits w64 (k x +ℤ k y)
  two_fit = code_fits entries (v 0 ⊕ v 1) tt

  pub three_fit : SFits w64 (k (k x +ℤ k y) +ℤ k z)
  three_fit = code_fits entries (v 0 ⊕ v 1 ⊕ v 2) tt

  pub three_is : k (k (k x +ℤ k y) +ℤ k z) ≡ x +ℤ y +ℤ z
  three_is = code_is entries (v 0 ⊕ v 1 ⊕ v 2) tt

-- ---- the support and two sides of the box

pub sides_in : {s p q : Plane} {i j : ℕ} → in_range (plane s) ≡ true → plane p ≡ box_side i → i < 6 → plane q ≡ box_side j → j < 6 → ThreeIn s p q
sides_in e f l g m = record { first = in_range_in e; second = in_range_in (ap in_range f ∙ side_in _ l); third = in_range_in (ap in_range g ∙ side_in _ m) }

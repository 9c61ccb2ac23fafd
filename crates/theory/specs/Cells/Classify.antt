-- The side of a missed plane, from the stack of kept half-spaces with the witness of each cut: d at the bottom, the side taken if the plane is the last one's, else the plane's sign at the last witness.
use Rattle.std.specs.Prelude.{◌≡◌, Bool, true, false, List, ◌∷◌, ◌≢◌, ℤ, pos}
use Rattle.std.proofs.Common.{sym, subst, ◌∙◌}
use Rattle.whole.specs.Order.{◌⋖◌, Lies, below, on, above, lies}
use Rattle.whole.specs.Sign.{Sign, minus, plus, sgn, sgn_above, sgn_below}
use Rattle.scope.proofs.Points.{same_back, same_front}
use Rattle.scope.specs.Planes.{Plane, Point, at, flip, Lawful}
use Rattle.scope.specs.Cells.{Inside, box, Cuts, AllFront, AllBack}
use Rattle.theory.specs.Cells.Box.{origin, box_origin, at_origin}
use Rattle.theory.specs.Cells.Sides.{half, missed_side, one_side_front, one_side_back}
use Rattle.theory.specs.Planes.Order.{same?}
use Rattle.theory.specs.Planes.Apart.{independent}

pub data Stack : List Plane → Type 0 where
  bottom : Stack box
  push : {c : List Plane} → Stack c → (g : Plane) (s : Bool) (X : Point) → Lawful g → at g X ≡ pos 0 → Inside c X → Stack (half s g ∷ c)

abbrev pub taken : Bool → Sign
taken true = plus
taken false = minus

abbrev pub if_same : {A : Type 0} → Dec A → Sign → Sign → Sign
if_same (yes a) s t = s
if_same (no n) s t = t

unfoldable pub tell : {c : List Plane} → Stack c → Plane → Sign
tell bottom h = sgn h.w
tell (push k g s X l z i) h = if_same (same? h g) (taken s) (sgn (at h X))

-- what a sign says of the cell
pub data Says (h : Plane) (c : List Plane) : Sign → Type 0 where
  in_front : AllFront h c → Says h c plus
  behind : AllBack h c → Says h c minus

from_sign : {h : Plane} {c : List Plane} (a : ℤ) → a ≢ pos 0 → (pos 0 ⋖ a → AllFront h c) → (a ⋖ pos 0 → AllBack h c) → Says h c (sgn a)
from_sign {h} {c} a n f b = go (lies a)
  where
    go : Lies a → Says h c (sgn a)
    go (below k) = rw (sgn_below k) (behind (b k))
    go (on k) = absurd (n k)
    go (above k) = rw (sgn_above k) (in_front (f k))

pub tell_right : {c : List Plane} (k : Stack c) (h : Plane) → Lawful h → ¬ Cuts h c → Says h c (tell k h)
unfolding tell
tell_right bottom h l n = from_sign h.w (λ e. n (record { point = origin; on = at_origin h ∙ e; inside = box_origin }))
    (λ k. one_side_front n box_origin (rw (at_origin h) k)) (λ k. one_side_back n box_origin (rw (at_origin h) k))
tell_right (push {c = c} k g s X l' z i) h l n = go (same? h g)
  where
    own : (s : Bool) → h ≡ g → Says h (half s g ∷ c) (taken s)
    own true e = in_front (subst (λ t. AllFront t (g ∷ c)) (sym e) (same_front g c))
    own false e = behind (subst (λ t. AllBack t (flip g ∷ c)) (sym e) (same_back g c))

    go : (d : Dec (h ≡ g)) → Says h (half s g ∷ c) (if_same d (taken s) (sgn (at h X)))
    go (yes e) = own s e
    go (no d) = let m = missed_side s g i z (independent l l' d) n in from_sign (at h X) m.off m.front m.back

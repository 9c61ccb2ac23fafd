-- The first facts of points, sides and cells: what the worked cases lean on, and the theory after them.
--     tested, test              a given point is in a cell, by computation
--     front_true, front_false   the side that a walk takes
--     same_front, same_back     a cell lies on the chosen side of the plane last chosen
use mathlib.Core.Path.{◌≡◌, refl}
use mathlib.Core.Bool.{Bool, true, false}
use mathlib.Core.List.{List, [], ◌∷◌}
use Prim.Native.Nat.{zero, suc}
use native.Mathlib.Omega.{arith}
use lib.Dec.{T}
use lib.Signed.{lt_z}
use lib.IntN.{ℤ, pos, negsuc}
use Rattle.whole.specs.Tests.{◌and◌, and_split}
use Rattle.whole.specs.Difference.{lt_parts}
use Rattle.whole.specs.Expr.{#, neg}
use Rattle.whole.specs.Vec.{dot4ᴱ}
use Rattle.whole.specs.Solve.{vec4s}
use Rattle.whole.specs.Lin.{lin, ◌⊢◌, ◌≺◌}
use Rattle.whole.specs.Order.{◌⋖◌}
use Rattle.whole.specs.Members.{◌∈◌, here, there}
use Rattle.scope.specs.Planes.{Plane, Point, at, flip}
use Rattle.scope.specs.Solids.{positive, front}
use Rattle.scope.specs.Cells.{Inside, AllFront, AllBack}

unfoldable pub tested : List Plane → Point → Bool
tested [] X = true
tested (h ∷ c) X = lt_z (pos 0) (at h X) and tested c X

pub test : (c : List Plane) (X : Point) → T (tested c X) → Inside c X
unfolding tested
test c X t = record { each = λ h i. go c t h i }
  where
    go : (c : List Plane) → T (tested c X) → (h : Plane) → h ∈ c → pos 0 ⋖ at h X
    go [] t h m = elim m [ ]
    go (g ∷ c) t h (here e) = let u = and_split (lt_z (pos 0) (at g X)) (tested c X) t in rw e (record { lt = u.0 })
    go (g ∷ c) t h (there n) = let u = and_split (lt_z (pos 0) (at g X)) (tested c X) t in go c u.1 h n

pub front_true : (p : Plane) (X : Point) → pos 0 ⋖ at p X → front X p ≡ true
unfolding front
front_true p X h = go (at p X) h
  where
    go : (a : ℤ) → pos 0 ⋖ a → positive a ≡ true
    go (pos zero) h = absurd h.lt
    go (pos (suc n)) h = refl
    go (negsuc n) h = absurd h.lt

pub front_false : (p : Plane) (X : Point) → at p X ⋖ pos 0 → front X p ≡ false
unfolding front
front_false p X h = go (at p X) h
  where
    go : (a : ℤ) → a ⋖ pos 0 → positive a ≡ false
    go (pos zero) h = refl
    go (pos (suc n)) h = absurd (omega (arith, lt_parts (pos (suc n)) (pos 0) h))
    go (negsuc n) h = refl

pub flip_back : (p : Plane) (X : Point) → pos 0 ⋖ at (flip p) X → at p X ⋖ pos 0
unfolding at flip
flip_back = lin (vec4s 2) (λ p X. (# 0 ≺ dot4ᴱ (record { x = neg p.x; y = neg p.y; z = neg p.z; w = neg p.w }) X) ∷ [] ⊢ dot4ᴱ p X ≺ # 0) (omega arith)

pub same_front : (p : Plane) (c : List Plane) → AllFront p (p ∷ c)
same_front p c X i = i.each p (here refl)

pub same_back : (p : Plane) (c : List Plane) → AllBack p (flip p ∷ c)
same_back p c X i = flip_back p X (i.each (flip p) (here refl))

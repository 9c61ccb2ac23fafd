-- Points of a list of half-spaces, and of the box.
--     cons, head, tail     a half-space more or less
--     box_means, means_box the box's list says what document 01 says: w at least 1, and -30000 w < x, y, z < 30000 w
--     origin, box_origin   a point of the box
use Rattle.std.specs.Prelude.{◌≡◌, refl, List, [], ◌∷◌, pos, neg_ℤ, ◌*ℤ◌}
use Rattle.std.proofs.Common.{arith}
use Rattle.whole.specs.Expr.{Expr, #, ◌⊕◌, ◌⊗◌, neg}
use Rattle.whole.specs.Vec.{V4, dot4ᴱ}
use Rattle.whole.specs.Solve.{solve, ◌≐◌, vec4s}
use Rattle.whole.specs.Lin.{lin, ◌⊢◌, ◌≺◌}
use Rattle.whole.specs.Order.{◌⋖◌}
use Rattle.whole.specs.Members.{◌∈◌, here, there}
use Rattle.scope.proofs.Points.{test, tested}
use Rattle.scope.specs.Limits.{reach}
use Rattle.scope.specs.Planes.{Plane, Point, at}
use Rattle.scope.specs.Cells.{Inside, box}

-- ---- points of a list of half-spaces

pub cons : {h : Plane} {c : List Plane} {X : Point} → pos 0 ⋖ at h X → Inside c X → Inside (h ∷ c) X
cons {h} {c} {X} k i = record { each = go }
  where
    go : (q : Plane) → q ∈ (h ∷ c) → pos 0 ⋖ at q X
    go q (here e) = rw e k
    go q (there m) = i.each q m

pub tail : {h : Plane} {c : List Plane} {X : Point} → Inside (h ∷ c) X → Inside c X
tail i = record { each = λ q m. i.each q (there m) }

pub head : {h : Plane} {c : List Plane} {X : Point} → Inside (h ∷ c) X → pos 0 ⋖ at h X
head {h} i = i.each h (here refl)

pub anywhere : {X : Point} → Inside [] X
anywhere = record { each = λ q m. elim m [ ] }

-- ---- the box: what its list says, and a point of it

pub record InBox (X : Point) : Type 0 where
  pub weight : pos 0 ⋖ X.w
  pub x_low : neg_ℤ (pos reach) *ℤ X.w ⋖ X.x
  pub x_high : X.x ⋖ pos reach *ℤ X.w
  pub y_low : neg_ℤ (pos reach) *ℤ X.w ⋖ X.y
  pub y_high : X.y ⋖ pos reach *ℤ X.w
  pub z_low : neg_ℤ (pos reach) *ℤ X.w ⋖ X.z
  pub z_high : X.z ⋖ pos reach *ℤ X.w

sideᴱ : Expr → Expr → Expr → Expr → V4 Expr → Expr
sideᴱ a b c d X = a ⊗ X.x ⊕ b ⊗ X.y ⊕ c ⊗ X.z ⊕ d ⊗ X.w

pub box_means : (X : Point) → Inside box X → InBox X
unfolding at box sideᴱ
box_means X i = record {
  weight = lin (vec4s 1) (λ X. (# 0 ≺ sideᴱ (# 0) (# 0) (# 0) (# 1) X) ∷ [] ⊢ # 0 ≺ X.w) (omega arith) X (i.each _ (here refl));
  x_low = lin (vec4s 1) (λ X. (# 0 ≺ sideᴱ (# 1) (# 0) (# 0) (# reach) X) ∷ [] ⊢ neg (# reach) ⊗ X.w ≺ X.x) (omega arith) X (i.each _ (there (here refl)));
  x_high = lin (vec4s 1) (λ X. (# 0 ≺ sideᴱ (neg (# 1)) (# 0) (# 0) (# reach) X) ∷ [] ⊢ X.x ≺ # reach ⊗ X.w) (omega arith) X (i.each _ (there (there (here refl))));
  y_low = lin (vec4s 1) (λ X. (# 0 ≺ sideᴱ (# 0) (# 1) (# 0) (# reach) X) ∷ [] ⊢ neg (# reach) ⊗ X.w ≺ X.y) (omega arith) X (i.each _ (there (there (there (here refl)))));
  y_high = lin (vec4s 1) (λ X. (# 0 ≺ sideᴱ (# 0) (neg (# 1)) (# 0) (# reach) X) ∷ [] ⊢ X.y ≺ # reach ⊗ X.w) (omega arith) X (i.each _ (there (there (there (there (here refl))))));
  z_low = lin (vec4s 1) (λ X. (# 0 ≺ sideᴱ (# 0) (# 0) (# 1) (# reach) X) ∷ [] ⊢ neg (# reach) ⊗ X.w ≺ X.z) (omega arith) X (i.each _ (there (there (there (there (there (here refl)))))));
  z_high = lin (vec4s 1) (λ X. (# 0 ≺ sideᴱ (# 0) (# 0) (neg (# 1)) (# reach) X) ∷ [] ⊢ X.z ≺ # reach ⊗ X.w) (omega arith) X (i.each _ (there (there (there (there (there (there (here refl))))))));
}

pub means_box : (X : Point) → InBox X → Inside box X
unfolding at box sideᴱ
means_box X i =
    cons (lin (vec4s 1) (λ X. (# 0 ≺ X.w) ∷ [] ⊢ # 0 ≺ sideᴱ (# 0) (# 0) (# 0) (# 1) X) (omega arith) X i.weight) (
    cons (lin (vec4s 1) (λ X. (neg (# reach) ⊗ X.w ≺ X.x) ∷ [] ⊢ # 0 ≺ sideᴱ (# 1) (# 0) (# 0) (# reach) X) (omega arith) X i.x_low) (
    cons (lin (vec4s 1) (λ X. (X.x ≺ # reach ⊗ X.w) ∷ [] ⊢ # 0 ≺ sideᴱ (neg (# 1)) (# 0) (# 0) (# reach) X) (omega arith) X i.x_high) (
    cons (lin (vec4s 1) (λ X. (neg (# reach) ⊗ X.w ≺ X.y) ∷ [] ⊢ # 0 ≺ sideᴱ (# 0) (# 1) (# 0) (# reach) X) (omega arith) X i.y_low) (
    cons (lin (vec4s 1) (λ X. (X.y ≺ # reach ⊗ X.w) ∷ [] ⊢ # 0 ≺ sideᴱ (# 0) (neg (# 1)) (# 0) (# reach) X) (omega arith) X i.y_high) (
    cons (lin (vec4s 1) (λ X. (neg (# reach) ⊗ X.w ≺ X.z) ∷ [] ⊢ # 0 ≺ sideᴱ (# 0) (# 0) (# 1) (# reach) X) (omega arith) X i.z_low) (
    cons (lin (vec4s 1) (λ X. (X.z ≺ # reach ⊗ X.w) ∷ [] ⊢ # 0 ≺ sideᴱ (# 0) (# 0) (neg (# 1)) (# reach) X) (omega arith) X i.z_high) anywhere))))))

pub origin : Point
origin = record { x = pos 0; y = pos 0; z = pos 0; w = pos 1 }

pub box_origin : Inside box origin
unfolding at box origin tested
box_origin = test box origin tt

-- there a plane is its d: the side of a plane that misses the box
pub at_origin : (p : Plane) → at p origin ≡ p.w
unfolding at origin
at_origin = solve (vec4s 1) (λ p. dot4ᴱ p (record { x = # 0; y = # 0; z = # 0; w = # 1 }) ≐ p.w) tt

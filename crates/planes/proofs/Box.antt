-- Strictly inside the box (N.4): a point with a positive w is in front of the box's sides exactly if each of its coordinates lies between them.
use mathlib.Core.Path.{◌≡◌, refl, sym, ◌∙◌}
use mathlib.Core.Bool.{Bool, true, false}
use Prim.Native.Nat.{zero, suc}
use native.Mathlib.Omega.{arith}
use lib.IntN.{ℤ, pos, negsuc, nat_abs, ◌+ℤ◌, ◌-ℤ◌, ◌*ℤ◌}
use lib.Signed.{lt_z}
use lib.Dec.{leb}
use Rattle.whole.specs.Tests.{◌and◌, and_true, lt_true}
use Rattle.whole.specs.Expr.{#, con, ◌⊕◌, ◌⊖◌, ◌⊗◌}
use Rattle.whole.specs.Vec.{dot4ᴱ}
use Rattle.whole.specs.Solve.{solve, ◌≐◌, nums}
use Rattle.scope.specs.Limits.{reach, most_xyz, most_w}
use Rattle.scope.specs.Planes.{at, point_in_range}
use Rattle.scope.specs.Solids.{positive}
use Rattle.scope.specs.Cells.{box, weight, x-, x+, y-, y+, z-, z+}
use Rattle.scope.specs.Answers.{all_front}
use Rattle.planes.specs.Values.{quad}
use Rattle.planes.specs.Promises.{between}

pub positive_is : (z : ℤ) → lt_z (pos 0) z ≡ positive z
positive_is (pos zero) = refl
positive_is (pos (suc n)) = lt_true 0 (suc n) (omega arith)
positive_is (negsuc n) = refl

-- the seven sums
module _ (x y z w : ℤ) where
  at_weight : at weight (quad x y z w) ≡ w
  unfolding at
  at_weight = solve (nums 4) (λ x y z w. dot4ᴱ (record { x = # 0; y = # 0; z = # 0; w = # 1 }) (record { x = x; y = y; z = z; w = w }) ≐ w) tt x y z w

  at-x- : at x- (quad x y z w) ≡ x +ℤ pos reach *ℤ w
  unfolding at
  at-x- = solve (nums 4) (λ x y z w. dot4ᴱ (record { x = # 1; y = # 0; z = # 0; w = # 30000 }) (record { x = x; y = y; z = z; w = w }) ≐ x ⊕ # 30000 ⊗ w) tt x y z w

  at-x+ : at x+ (quad x y z w) ≡ pos reach *ℤ w -ℤ x
  unfolding at
  at-x+ = solve (nums 4) (λ x y z w. dot4ᴱ (record { x = con (negsuc 0); y = # 0; z = # 0; w = # 30000 }) (record { x = x; y = y; z = z; w = w }) ≐ # 30000 ⊗ w ⊖ x) tt x y z w

  at-y- : at y- (quad x y z w) ≡ y +ℤ pos reach *ℤ w
  unfolding at
  at-y- = solve (nums 4) (λ x y z w. dot4ᴱ (record { x = # 0; y = # 1; z = # 0; w = # 30000 }) (record { x = x; y = y; z = z; w = w }) ≐ y ⊕ # 30000 ⊗ w) tt x y z w

  at-y+ : at y+ (quad x y z w) ≡ pos reach *ℤ w -ℤ y
  unfolding at
  at-y+ = solve (nums 4) (λ x y z w. dot4ᴱ (record { x = # 0; y = con (negsuc 0); z = # 0; w = # 30000 }) (record { x = x; y = y; z = z; w = w }) ≐ # 30000 ⊗ w ⊖ y) tt x y z w

  at-z- : at z- (quad x y z w) ≡ z +ℤ pos reach *ℤ w
  unfolding at
  at-z- = solve (nums 4) (λ x y z w. dot4ᴱ (record { x = # 0; y = # 0; z = # 1; w = # 30000 }) (record { x = x; y = y; z = z; w = w }) ≐ z ⊕ # 30000 ⊗ w) tt x y z w

  at-z+ : at z+ (quad x y z w) ≡ pos reach *ℤ w -ℤ z
  unfolding at
  at-z+ = solve (nums 4) (λ x y z w. dot4ᴱ (record { x = # 0; y = # 0; z = con (negsuc 0); w = # 30000 }) (record { x = x; y = y; z = z; w = w }) ≐ # 30000 ⊗ w ⊖ z) tt x y z w

regroup : (a b c d e f : Bool) → (true and (a and (b and (c and (d and (e and (f and true))))))) ≡ ((a and b) and ((c and d) and (e and f)))
regroup false b c d e f = refl
regroup true false c d e f = refl
regroup true true false d e f = refl
regroup true true true false e f = refl
regroup true true true true false f = refl
regroup true true true true true false = refl
regroup true true true true true true = refl

positive_w : (x y z w : ℤ) → point_in_range (quad x y z w) ≡ true → positive w ≡ true
unfolding point_in_range
positive_w x y z w e =
    let p = and_true (leb (nat_abs x) most_xyz) _ e in
    let q = and_true (leb (nat_abs y) most_xyz) _ p.1 in
    let r = and_true (leb (nat_abs z) most_xyz) _ q.1 in
    sym (positive_is w) ∙ (and_true (lt_z (pos 0) w) (leb (nat_abs w) most_w) r.1).0

pub box_is : (x y z w : ℤ) → point_in_range (quad x y z w) ≡ true → all_front box (quad x y z w) ≡ (between x w and (between y w and between z w))
unfolding box
box_is x y z w e =
    rw (at_weight x y z w, at-x- x y z w, at-x+ x y z w, at-y- x y z w, at-y+ x y z w, at-z- x y z w, at-z+ x y z w, positive_w x y z w e)
    (regroup (positive (x +ℤ pos reach *ℤ w)) (positive (pos reach *ℤ w -ℤ x)) (positive (y +ℤ pos reach *ℤ w)) (positive (pos reach *ℤ w -ℤ y)) (positive (z +ℤ pos reach *ℤ w)) (positive (pos reach *ℤ w -ℤ z)))

-- A sum of four products, tested by its two halves: that the first is at most the other's opposite.
--     ax .. opposed                 the steps of the code
--     held                          the values that it starts from
--     halves_behind, halves_front   what the test says of the sum
use mathlib.Core.Path.{◌≡◌, sym, subst, ◌∙◌}
use mathlib.Core.Bool.{true, false}
use mathlib.Core.List.{List, [], ◌∷◌}
use native.Mathlib.Omega.{arith}
use lib.IntN.{ℤ, pos, neg_ℤ, ◌+ℤ◌, ◌*ℤ◌}
use lib.Signed.{le_z}
use mir.Facts.{to_z-of_z}
use Rattle.whole.specs.Expr.{Expr, v, ◌⊕◌, ◌⊗◌, neg, #}
use Rattle.whole.specs.Solve.{nums}
use Rattle.whole.specs.Order.{◌⋖◌, ◌⩽◌}
use Rattle.whole.specs.Lin.{lin, ◌⊢◌, ◌≦◌, ◌≺◌}
use Rattle.whole.specs.Code.{Entry, arg, run, raw, code_fits, code_is, le_yes, le_no}
use Rattle.scope.specs.Planes.{at}
use Rattle.planes.specs.Values.{quad}
use Rattle.planes.specs.Bounds.{SumIn}

abbrev pub ax : Expr
ax = v 0 ⊗ v 4

abbrev pub by : Expr
by = v 1 ⊗ v 5

abbrev pub cz : Expr
cz = v 2 ⊗ v 6

abbrev pub dw : Expr
dw = v 3 ⊗ v 7

abbrev pub near : Expr
near = ax ⊕ by

abbrev pub far : Expr
far = cz ⊕ dw

abbrev pub opposed : Expr
opposed = neg far

module _ {a b c d x y z w : ℤ} (h : SumIn a b c d x y z w) where
  abbrev pub held : List Entry
  held = arg h.a_in ∷ arg h.b_in ∷ arg h.c_in ∷ arg h.d_in ∷ arg h.x_in ∷ arg h.y_in ∷ arg h.z_in ∷ arg h.w_in ∷ []

  near_is : raw held near ≡ a *ℤ x +ℤ b *ℤ y
  near_is = sym (to_z-of_z (code_fits held near tt)) ∙ code_is held near tt

  opposed_is : raw held opposed ≡ neg_ℤ (c *ℤ z +ℤ d *ℤ w)
  opposed_is = sym (to_z-of_z (code_fits held opposed tt)) ∙ code_is held opposed tt

  pub halves_behind : le_z (run held near) (run held opposed) ≡ true → at (quad a b c d) (quad x y z w) ⩽ pos 0
  unfolding at
  halves_behind e =
      let q = le_yes (raw held near) (raw held opposed) (code_fits held near tt) (code_fits held opposed tt) e in
      lin (nums 4) (λ p q r s. (p ⊕ q ≦ neg (r ⊕ s)) ∷ [] ⊢ p ⊕ q ⊕ r ⊕ s ≦ # 0) (omega arith) (a *ℤ x) (b *ℤ y) (c *ℤ z) (d *ℤ w) (subst (λ u. u ⩽ neg_ℤ (c *ℤ z +ℤ d *ℤ w)) near_is (subst (λ u. raw held near ⩽ u) opposed_is q))

  pub halves_front : le_z (run held near) (run held opposed) ≡ false → pos 0 ⋖ at (quad a b c d) (quad x y z w)
  unfolding at
  halves_front e =
      let q = le_no (raw held near) (raw held opposed) (code_fits held near tt) (code_fits held opposed tt) e in
      lin (nums 4) (λ p q r s. (neg (r ⊕ s) ≺ p ⊕ q) ∷ [] ⊢ # 0 ≺ p ⊕ q ⊕ r ⊕ s) (omega arith) (a *ℤ x) (b *ℤ y) (c *ℤ z) (d *ℤ w) (subst (λ u. neg_ℤ (c *ℤ z +ℤ d *ℤ w) ⋖ u) near_is (subst (λ u. u ⋖ raw held near) opposed_is q))

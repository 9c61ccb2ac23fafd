-- `planes::Plane::sum_at` meets its contract: each step's bound is below 2 ^ 63, and the result is the sum. Assumes nothing.
use mathlib.Core.List.{List, [], ◌∷◌}
use lib.IntN.{ℤ}
use Rattle.whole.specs.Expr.{Expr, v, ◌⊕◌, ◌⊗◌}
use Rattle.whole.specs.Code.{Entry, arg, code_fits, code_is}
use Rattle.planes.specs.Bounds.{SumIn}
use Rattle.planes.proofs.Plane.sum_at.Goals as goal

abbrev E : {a b c d x y z w : ℤ} → SumIn a b c d x y z w → List Entry
E p = arg p.a_in ∷ arg p.b_in ∷ arg p.c_in ∷ arg p.d_in ∷ arg p.x_in ∷ arg p.y_in ∷ arg p.z_in ∷ arg p.w_in ∷ []

abbrev ax : Expr
ax = v 0 ⊗ v 4

abbrev by : Expr
by = v 1 ⊗ v 5

abbrev cz : Expr
cz = v 2 ⊗ v 6

abbrev dw : Expr
dw = v 3 ⊗ v 7

pub overflow_add-result : goal.overflow_add-result
overflow_add-result c = code_fits (E c.requires) (ax ⊕ by) tt

pub overflow_mul-result-3 : goal.overflow_mul-result-3
overflow_mul-result-3 c = code_fits (E c.requires) cz tt

pub overflow_add-result-2 : goal.overflow_add-result-2
overflow_add-result-2 c = code_fits (E c.requires) (ax ⊕ by ⊕ cz) tt

pub overflow_mul-result-4 : goal.overflow_mul-result-4
overflow_mul-result-4 c = code_fits (E c.requires) dw tt

pub overflow_add-result-3 : goal.overflow_add-result-3
overflow_add-result-3 c = code_fits (E c.requires) (ax ⊕ by ⊕ cz ⊕ dw) tt

pub returns : goal.returns
returns c = code_is (E c.requires) (ax ⊕ by ⊕ cz ⊕ dw) tt

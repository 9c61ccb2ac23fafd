-- `planes::number::det3` meets its contract: each step's bound is below 2 ^ 63, and the result is the determinant. Assumes nothing.
use mathlib.Core.List.{List, [], ◌∷◌}
use lib.IntN.{ℤ}
use Rattle.whole.specs.Expr.{Expr, v, ◌⊕◌, ◌⊖◌, ◌⊗◌}
use Rattle.whole.specs.Code.{Entry, arg, code_fits, code_is}
use Rattle.planes.specs.Bounds.{RowsIn}
use Rattle.planes.proofs.number.det3.Goals as goal

abbrev E : {a1 a2 a3 b1 b2 b3 c1 c2 c3 : ℤ} → RowsIn a1 a2 a3 b1 b2 b3 c1 c2 c3 → List Entry
E p = arg p.a1_in ∷ arg p.a2_in ∷ arg p.a3_in ∷ arg p.b1_in ∷ arg p.b2_in ∷ arg p.b3_in ∷ arg p.c1_in ∷ arg p.c2_in ∷ arg p.c3_in ∷ []

abbrev m23 : Expr
m23 = v 4 ⊗ v 8 ⊖ v 5 ⊗ v 7

abbrev m13 : Expr
m13 = v 3 ⊗ v 8 ⊖ v 5 ⊗ v 6

abbrev m12 : Expr
m12 = v 3 ⊗ v 7 ⊖ v 4 ⊗ v 6

pub overflow_sub-result : goal.overflow_sub-result
overflow_sub-result c = code_fits (E c.requires) m23 tt

pub overflow_mul-result-3 : goal.overflow_mul-result-3
overflow_mul-result-3 c = code_fits (E c.requires) (v 0 ⊗ m23) tt

pub overflow_mul-result-4 : goal.overflow_mul-result-4
overflow_mul-result-4 c = code_fits (E c.requires) (v 3 ⊗ v 8) tt

pub overflow_mul-result-5 : goal.overflow_mul-result-5
overflow_mul-result-5 c = code_fits (E c.requires) (v 5 ⊗ v 6) tt

pub overflow_sub-result-2 : goal.overflow_sub-result-2
overflow_sub-result-2 c = code_fits (E c.requires) m13 tt

pub overflow_mul-result-6 : goal.overflow_mul-result-6
overflow_mul-result-6 c = code_fits (E c.requires) (v 1 ⊗ m13) tt

pub overflow_sub-result-3 : goal.overflow_sub-result-3
overflow_sub-result-3 c = code_fits (E c.requires) (v 0 ⊗ m23 ⊖ v 1 ⊗ m13) tt

pub overflow_mul-result-7 : goal.overflow_mul-result-7
overflow_mul-result-7 c = code_fits (E c.requires) (v 3 ⊗ v 7) tt

pub overflow_mul-result-8 : goal.overflow_mul-result-8
overflow_mul-result-8 c = code_fits (E c.requires) (v 4 ⊗ v 6) tt

pub overflow_sub-result-4 : goal.overflow_sub-result-4
overflow_sub-result-4 c = code_fits (E c.requires) m12 tt

pub overflow_mul-result-9 : goal.overflow_mul-result-9
overflow_mul-result-9 c = code_fits (E c.requires) (v 2 ⊗ m12) tt

pub overflow_add-result : goal.overflow_add-result
overflow_add-result c = code_fits (E c.requires) (v 0 ⊗ m23 ⊖ v 1 ⊗ m13 ⊕ v 2 ⊗ m12) tt

pub returns : goal.returns
returns c = code_is (E c.requires) (v 0 ⊗ m23 ⊖ v 1 ⊗ m13 ⊕ v 2 ⊗ m12) tt

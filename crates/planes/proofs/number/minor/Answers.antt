-- `planes::number::minor` meets its contract: each step's bound is below 2 ^ 63, and the result is the minor. Assumes nothing.
use mathlib.Core.List.{List, [], ◌∷◌}
use lib.IntN.{ℤ}
use Rattle.whole.specs.Expr.{v, ◌⊖◌, ◌⊗◌}
use Rattle.whole.specs.Code.{Entry, arg, code_fits, code_is}
use Rattle.planes.specs.Bounds.{MinorIn}
use Rattle.planes.proofs.number.minor.Goals as goal

abbrev E : {a b c d : ℤ} → MinorIn a b c d → List Entry
E p = arg p.a_in ∷ arg p.b_in ∷ arg p.c_in ∷ arg p.d_in ∷ []

pub overflow_sub-result : goal.overflow_sub-result
overflow_sub-result c = code_fits (E c.requires) (v 0 ⊗ v 3 ⊖ v 1 ⊗ v 2) tt

pub returns : goal.returns
returns c = code_is (E c.requires) (v 0 ⊗ v 3 ⊖ v 1 ⊗ v 2) tt

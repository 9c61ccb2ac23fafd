-- `polygons::lines::mixed` meets its contract. Assumes nothing.
use Rattle.whole.specs.Expr.{◌⊕◌, ◌⊖◌}
use Rattle.whole.specs.Code.{code_fits, code_is}
use Rattle.polygons.proofs.Meets.{entries, ua, vb, wc}
use Rattle.polygons.proofs.lines.mixed.Goals as goal

pub overflow_mul-result : goal.overflow_mul-result
overflow_mul-result c = code_fits (entries c.requires) ua tt

pub overflow_mul-result-2 : goal.overflow_mul-result-2
overflow_mul-result-2 c = code_fits (entries c.requires) vb tt

pub overflow_sub-result : goal.overflow_sub-result
overflow_sub-result c = code_fits (entries c.requires) (ua ⊖ vb) tt

pub overflow_mul-result-3 : goal.overflow_mul-result-3
overflow_mul-result-3 c = code_fits (entries c.requires) wc tt

pub overflow_add-result : goal.overflow_add-result
overflow_add-result c = code_fits (entries c.requires) (ua ⊖ vb ⊕ wc) tt

pub returns : goal.returns
returns c = code_is (entries c.requires) (ua ⊖ vb ⊕ wc) tt

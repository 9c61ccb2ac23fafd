-- `cuts::stops::not_in_front` meets its contract: the two halves of the sum are compared (proofs/Halves). Assumes nothing.
use Rattle.whole.specs.Code.{code_fits}
use Rattle.cuts.proofs.Halves.{held, cz, dw, near, far, opposed, halves_behind, halves_front}
use Rattle.cuts.proofs.stops.not_in_front.Goals as goal

pub overflow_add-result : goal.overflow_add-result
overflow_add-result c = code_fits (held c.requires) near tt

pub overflow_mul-result-3 : goal.overflow_mul-result-3
overflow_mul-result-3 c = code_fits (held c.requires) cz tt

pub overflow_mul-result-4 : goal.overflow_mul-result-4
overflow_mul-result-4 c = code_fits (held c.requires) dw tt

pub overflow_add-result-2 : goal.overflow_add-result-2
overflow_add-result-2 c = code_fits (held c.requires) far tt

pub overflow_sub-result : goal.overflow_sub-result
overflow_sub-result c = code_fits (held c.requires) opposed tt

pub returns-clause-yes : goal.returns-clause-yes
returns-clause-yes c = halves_behind c.requires

pub returns-clause-no : goal.returns-clause-no
returns-clause-no c = halves_front c.requires

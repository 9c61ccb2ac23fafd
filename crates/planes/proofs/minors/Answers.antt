-- `planes::minors` meets its contract. Each determinant is below 2 ^ 63, and two are turned. Assumes nothing.
use Rattle.scope.specs.Planes.{meet}
use Rattle.planes.specs.Values.{quad}
use Rattle.planes.specs.Bounds.{rows_bcd, rows_acd, rows_abd, rows_abc}
use Rattle.planes.proofs.Laws.{det_turned_fits, det_turned, det_kept}
use Rattle.planes.proofs.minors.Goals as goal

pub overflow_sub-result : goal.overflow_sub-result
overflow_sub-result c = let h = c.requires in det_turned_fits (rows_bcd h.first h.second h.third) c.det3.ensures

pub overflow_sub-result-2 : goal.overflow_sub-result-2
overflow_sub-result-2 c = let h = c.requires in det_turned_fits (rows_abd h.first h.second h.third) c.det3-3.ensures

-- the four numbers, each handed on
pub returns : goal.returns
unfolding meet
returns c =
    let h = c.requires in
    λ i. quad
    (det_turned (rows_bcd h.first h.second h.third) c.det3.ensures i)
    (det_kept (rows_acd h.first h.second h.third) c.det3-2.ensures i)
    (det_turned (rows_abd h.first h.second h.third) c.det3-3.ensures i)
    (det_kept (rows_abc h.first h.second h.third) c.det3-4.ensures i)

-- `walks::step` meets its contract (proofs/Ways). Assumes nothing.
use Rattle.walks.proofs.Ways.{classify_in, step_cut, step_fore, step_aft}
use Rattle.walks.proofs.step.Goals as goal

pub classify-requires : goal.classify-requires
classify-requires c = classify_in c.requires c.plane_of.ensures

pub returns-in-Cut : goal.returns-in-Cut
returns-in-Cut c = step_cut c.requires c.plane_of.ensures c.in-Cut.x c.in-Cut.is c.classify.ensures

pub returns-in-Front : goal.returns-in-Front
returns-in-Front c = step_fore c.requires c.plane_of.ensures c.in-Front.is c.classify.ensures c.front.ensures

pub returns-in-Behind : goal.returns-in-Behind
returns-in-Behind c = step_aft c.requires c.plane_of.ensures c.in-Behind.is c.classify.ensures c.back.ensures

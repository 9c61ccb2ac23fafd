-- `splits::mark_of` meets its contract: the merge in the cell, with no room for a row (proofs/CellMarks). Assumes nothing.
use mathlib.Core.Path.{refl, sym, ◌∙◌}
use Rattle.splits.proofs.CellMarks.{mark_done, mark_refused}
use Rattle.splits.proofs.mark_of.Goals as goal

pub returns-in_err-m : goal.returns-in_err-m
returns-in_err-m c = mark_refused c.requires.grounds refl c.side_walk.result c.side_walk.ensures (sym c.ok.ensures.value ∙ c.in_err-m.was) c.from_residual.ensures

pub returns : goal.returns
returns c = mark_done c.requires.grounds refl c.side_walk.result c.side_walk.ensures (sym c.ok.ensures.value ∙ c.in_ok-m.was)

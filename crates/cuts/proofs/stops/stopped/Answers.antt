-- `cuts::stops::stopped` meets its contract (proofs/Asking). Assumes nothing.
use Rattle.planes.specs.Values.{meeting}
use Rattle.cuts.proofs.Asking.{both_box, both_rows}
use Rattle.cuts.proofs.stops.stopped.Goals as goal

pub returns-in-Some : goal.returns-in-Some
returns-in-Some c = let p = c.args.path.now in both_box p.rows.now p.depth c.args.axis (meeting c.args.m) c.in-Some.k c.in-Some.ensures

pub returns-in-None : goal.returns-in-None
returns-in-None c = let p = c.args.path.now in both_rows p.rows.now p.depth c.args.axis (meeting c.args.m) c.stopped_by_row.result c.in-None.ensures c.stopped_by_row.ensures

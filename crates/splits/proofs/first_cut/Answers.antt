-- `splits::first_cut` meets its contract. The loop's invariant: no listed plane from place k up to the loop's cuts the cell (proofs/Scans). Assumes nothing.
use native.Mathlib.Omega.{arith}
use Rattle.splits.proofs.Scans.{scan_there, scan_classify, none_more, first_found, first_none}
use Rattle.splits.proofs.first_cut.Goals as goal

pub row-p-requires : goal.row-p-requires
row-p-requires c = scan_there c.requires c.loop-place-test.true

pub classify-requires : goal.classify-requires
classify-requires c = scan_classify c.requires c.loop-place-test.true c.row-p.ensures

pub returns-in-Cut : goal.returns-in-Cut
returns-in-Cut c = first_found c.requires c.loop-place-test.true c.row-p.ensures c.classify.ensures c.loop-place.invariant (omega arith) c.in-Cut.is

pub loop-place-preserved : goal.loop-place-preserved
loop-place-preserved c = none_more c.requires c.loop-place-test.true c.row-p.ensures c.classify.ensures c.loop-place.invariant c.in_default.not-Cut

pub returns : goal.returns
returns c = first_none c.loop-place.invariant c.loop-place-test.false

use Rattle.splits.proofs.Scans.{NoneCuts}
use Rattle.splits.proofs.first_cut.Given as goal

abbrev pub invariant-loop-place : goal.invariant-loop-place
invariant-loop-place l = NoneCuts l.planes l.boundary l.path l.depth l.k l.place

use Rattle.planes.specs.Values.{plane}
use Rattle.cuts.proofs.Cuts.{Cutting}
use Rattle.cuts.proofs.by_clips.Given as goal

abbrev pub invariant-loop : goal.invariant-loop
invariant-loop l = Cutting (plane l.s) l.path.rows.now l.path.depth l.room.first l.n l.counter

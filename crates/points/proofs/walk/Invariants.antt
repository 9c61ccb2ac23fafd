use Rattle.scope.specs.Solids.{Tree}
use Rattle.planes.specs.Values.{point}
use Rattle.tables.specs.Promises.{SolidOf}
use Rattle.points.proofs.Walks.{Below, rank}
use Rattle.points.proofs.walk.Given as goal

abbrev pub invariant-loop-code : goal.invariant-loop-code
invariant-loop-code l = (t : Tree) → SolidOf l.s.planes.now l.s.nodes.now l.s.root t → Below t (point l.x) l.code

abbrev pub decreases-loop-code : goal.decreases-loop-code
decreases-loop-code l = rank l.code

use Rattle.lines.specs.Reading.{PlanesSoFar}
use Rattle.lines.proofs.reading.read_planes.Given as goal

abbrev pub invariant-loop-i : goal.invariant-loop-i
invariant-loop-i l = PlanesSoFar l.text l.fn.from.cursor.at l.fn.from.line l.n l.planes l.i l.cursor.at

use Rattle.std.proofs.Common.{◌≡◌, ◌≤◌, List, length}
use Rattle.scope.specs.Planes.{Plane}
use Rattle.tables.specs.Work.{stack, total}
use Rattle.lines.specs.Reading.{NodesOver}
use Rattle.lines.proofs.reading.read_nodes.Given as goal

abbrev pub invariant-loop-i : goal.invariant-loop-i
invariant-loop-i l = record {
  inside : l.cursor.at ≤ length l.text;
  deep : l.depth ≤ l.i;
  sizes : total (stack l.work l.depth) ≤ l.i;
  over : (ps : List Plane) → length ps ≡ l.n → NodesOver ps l.text l.fn.from.cursor.at l.fn.from.line l.m l.nodes l.work l.i l.cursor.at l.depth;
}

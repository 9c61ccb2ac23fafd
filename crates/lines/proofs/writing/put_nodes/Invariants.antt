use Rattle.std.proofs.Common.{◌*◌}
use Rattle.frames.specs.Promises.{Wrote}
use Rattle.lines.specs.Writing.{node_lines}
use Rattle.lines.proofs.writing.put_nodes.Given as goal

abbrev pub invariant-loop-i : goal.invariant-loop-i
invariant-loop-i l = Wrote l.fn.text l.text l.at (node_lines l.nodes l.i) (13 * l.i) l.next

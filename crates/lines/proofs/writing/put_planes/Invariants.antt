use Rattle.std.proofs.Common.{◌*◌}
use Rattle.frames.specs.Promises.{Wrote}
use Rattle.lines.specs.Writing.{plane_lines}
use Rattle.lines.proofs.writing.put_planes.Given as goal

abbrev pub invariant-loop-i : goal.invariant-loop-i
invariant-loop-i l = Wrote l.fn.text l.text l.at (plane_lines l.planes l.i) (23 * l.i) l.next

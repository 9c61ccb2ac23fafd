-- `walks::Turn::ended` meets its contract (proofs/Marks). Assumes nothing.
use Rattle.std.proofs.Common.{rules}
use Rattle.walks.specs.Marks.{operation_of, mark_of, in_b}
use Rattle.walks.proofs.Marks.{ended_a}
use Rattle.walks.proofs.Turn.ended.Goals as goal

pub returns-in-Some : goal.returns-in-Some
returns-in-Some c = rw c.in-Some.is (in_b c.mark.ensures)

pub returns-in-None : goal.returns-in-None
returns-in-None c = rw (c.in-None.is, c.then_some.ensures) (ended_a (operation_of c.args.self.op) (mark_of c.args.m) c.eq.result c.mark-alone.ensures c.mark-in-None.ensures (search rules))

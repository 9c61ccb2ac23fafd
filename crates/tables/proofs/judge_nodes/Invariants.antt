use Prim.Native.Nat.{◌≤◌}
use Rattle.tables.specs.Work.{stack, total}
use Rattle.tables.specs.Promises.{Standing}
use Rattle.tables.proofs.judge_nodes.Given as goal

abbrev pub invariant-loop-i : goal.invariant-loop-i
invariant-loop-i l = record {
  deep : l.depth ≤ l.i-counter;
  sizes : total (stack l.work l.depth) ≤ l.i-counter;
  standing : Standing l.nodes l.s.planes l.i-counter l.work l.depth;
}

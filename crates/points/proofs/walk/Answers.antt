-- `points::walk` meets its contract. The invariant: the code stands for a subtree whose reply is the tree's (proofs/Walks). The measure is one more than the code of a row, and 0 at a mark. Assumes nothing.
use Rattle.planes.specs.Values.{point}
use Rattle.points.proofs.Walks.{begin, step_in, walk_on, walk_to, walk_less, walk_in, walk_out}
use Rattle.points.proofs.walk.Goals as goal

pub loop-code-init : goal.loop-code-init
loop-code-init c = λ t s. begin (point c.args.x) s

pub step-requires : goal.step-requires
step-requires c =
    let w = c.requires in
    step_in (point c.args.x) w.solid c.loop-code-test.true (c.loop-code.invariant w.tree w.solid) w.point_in

pub returns-in_default : goal.returns-in_default
returns-in_default c =
    record { exact = λ t s. walk_on (point c.args.x) s c.loop-code-test.true (c.loop-code.invariant t s) c.step.ensures c.in_default.is }

pub loop-code-smaller : goal.loop-code-smaller
loop-code-smaller c =
    let w = c.requires in
    walk_less (point c.args.x) w.solid c.loop-code-test.true (c.loop-code.invariant w.tree w.solid) c.step.ensures c.in-Some.is

pub loop-code-preserved : goal.loop-code-preserved
loop-code-preserved c =
    λ t h. walk_to (point c.args.x) h c.loop-code-test.true (c.loop-code.invariant t h) c.step.ensures c.in-Some.is

pub returns-then-code : goal.returns-then-code
returns-then-code c =
    record { exact = λ t s. walk_in (point c.args.x) s c.loop-code-test.false (c.loop-code.invariant t s) c.if-code.true }

pub returns-else-code : goal.returns-else-code
returns-else-code c =
    record { exact = λ t s. walk_out (point c.args.x) s c.loop-code-test.false (c.loop-code.invariant t s) c.if-code.false }

use mathlib.Core.Path.{◌≡◌}
use Rattle.cuts.proofs.Axes.{Narrowing}
use Rattle.cuts.proofs.blocks.Block.of.Given as goal

abbrev pub invariant-loop-at : goal.invariant-loop-at
invariant-loop-at l =
    (goal.iterator-loop-at).can_next l.at-iterator × (goal.iterator-loop-at).is_finite l.at-iterator × (l.at-iterator.rows.now ≡ l.path.rows.now) × Narrowing l.path.rows.now l.path.depth l.at-iterator.end l.block.sides

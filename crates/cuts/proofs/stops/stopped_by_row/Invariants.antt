use mathlib.Core.Path.{◌≡◌}
use Rattle.planes.specs.Values.{meeting}
use Rattle.cuts.proofs.Asking.{Front, Passed}
use Rattle.cuts.proofs.stops.stopped_by_row.Given as goal

abbrev pub invariant-loop-at : goal.invariant-loop-at
invariant-loop-at l =
    (goal.iterator-loop-at).can_next l.at-iterator × (goal.iterator-loop-at).is_finite l.at-iterator × (l.at-iterator.rows.now ≡ l.path.rows.now) × Passed l.path.rows.now l.path.depth l.at-iterator.end (Front (meeting l.m))

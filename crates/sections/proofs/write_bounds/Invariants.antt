use mathlib.Core.Path.{◌≡◌}
use mathlib.Core.List.{map}
use lib.ListN.{length}
use lib.Seq.{sets}
use Rattle.scope.specs.Answers.{flat_planes}
use Rattle.polygons.specs.Tables.{look, indices}
use Rattle.sections.proofs.write_bounds.Given as goal

abbrev pub invariant-loop-i : goal.invariant-loop-i
invariant-loop-i l = record {
  as_many : length l.bounds ≡ length l.initial.bounds;
  written : l.bounds ≡ sets l.initial.bounds 0 (flat_planes (map (look l.hs.numbers.now l.hs.width) (indices l.t l.i)));
}

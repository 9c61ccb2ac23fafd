use mathlib.Core.Path.{◌≡◌}
use mathlib.Core.Bool.{true}
use Rattle.scope.specs.Answers.{no_faults}
use Rattle.polygons.specs.Tables.{rows_to}
use Rattle.sections.proofs.Cutting.lawful.Given as goal

abbrev pub invariant-loop-i : goal.invariant-loop-i
invariant-loop-i l = no_faults (rows_to l.self.halves.numbers.now l.self.halves.width l.i) ≡ true

-- `planes::coincident` meets its contract. Assumes nothing.
use mathlib.Core.Path.{sym, ◌∙◌}
use Rattle.planes.specs.Bounds.{in_range_in}
use Rattle.planes.proofs.coincident.Goals as goal

pub all_minors_zero-requires : goal.all_minors_zero-requires
all_minors_zero-requires c =
    record { first = in_range_in (sym c.ranged.ensures ∙ c.if-not-ranged.false); second = in_range_in (sym c.ranged-2.ensures ∙ c.if-not-ranged-2.false) }

-- `planes::Point::new` meets its contract (proofs/Told). The four numbers are read back from their bits. Assumes nothing.
use mathlib.Core.Path.{sym, ◌∙◌}
use mir.Facts.{to_z-of_z}
use Rattle.planes.specs.Bounds.{point_range_in}
use Rattle.planes.proofs.Laws.{quad_kept}
use Rattle.planes.proofs.Told.{point_beyond, point_fine}
use Rattle.planes.proofs.Point.new.Goals as goal

pub in_box-requires : goal.in_box-requires
in_box-requires c = point_range_in (sym c.ranged.ensures ∙ c.if-not-ranged.false)

pub returns-then-not-in_box : goal.returns-then-not-in_box
returns-then-not-in_box c =
    let q = quad_kept c.ranges.x c.ranges.y c.ranges.z c.ranges.w in
    let b = rw (to_z-of_z c.ranges.x, to_z-of_z c.ranges.y, to_z-of_z c.ranges.z, to_z-of_z c.ranges.w) at c.in_box.ensures in
    point_beyond (rw q at c.ranged.ensures) c.if-not-ranged.false b c.if-not-in_box.true

pub returns : goal.returns
returns c =
    let q = quad_kept c.ranges.x c.ranges.y c.ranges.z c.ranges.w in
    let b = rw (to_z-of_z c.ranges.x, to_z-of_z c.ranges.y, to_z-of_z c.ranges.z, to_z-of_z c.ranges.w) at c.in_box.ensures in
    rw (to_z-of_z c.ranges.x, to_z-of_z c.ranges.y, to_z-of_z c.ranges.z, to_z-of_z c.ranges.w)
    (point_fine (rw q at c.ranged.ensures) c.if-not-ranged.false b c.if-not-in_box.false)

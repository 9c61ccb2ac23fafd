-- `planes::Plane::half_space` meets its contract (proofs/Told). The four numbers are read back from their bits. Assumes nothing.
use mir.Facts.{to_z-of_z}
use Rattle.planes.proofs.Laws.{quad_kept}
use Rattle.planes.proofs.Told.{half_out, half_flat, half_fine}
use Rattle.planes.proofs.Plane.half_space.Goals as goal

pub returns-then-not-ranged : goal.returns-then-not-ranged
returns-then-not-ranged c =
    let q = quad_kept c.ranges.a c.ranges.b c.ranges.c c.ranges.d in
    half_out (rw q at c.ranged.ensures) c.if-not-ranged.true

pub returns-in-On : goal.returns-in-On
returns-in-On c =
    let q = quad_kept c.ranges.a c.ranges.b c.ranges.c c.ranges.d in
    half_flat (rw q at c.ranged.ensures) c.if-not-ranged.false (rw q at c.lead.ensures) c.in-On.is

pub returns-in_default : goal.returns-in_default
returns-in_default c =
    let q = quad_kept c.ranges.a c.ranges.b c.ranges.c c.ranges.d in
    rw (to_z-of_z c.ranges.a, to_z-of_z c.ranges.b, to_z-of_z c.ranges.c, to_z-of_z c.ranges.d)
    (half_fine (rw q at c.ranged.ensures) c.if-not-ranged.false (rw q at c.lead.ensures) c.in_default.not-On)

-- `planes::Plane::new` meets its contract (proofs/Told). The four numbers are read back from their bits. Assumes nothing.
use Rattle.std.proofs.Common.{rules}
use mir.Facts.{to_z-of_z}
use Rattle.planes.proofs.Told.{refused_too, not_reduced, wrong_sign, plane_fine}
use Rattle.planes.proofs.Plane.new.Goals as goal

pub returns-in_err-p : goal.returns-in_err-p
returns-in_err-p c =
    let h = rw (to_z-of_z c.ranges.a, to_z-of_z c.ranges.b, to_z-of_z c.ranges.c, to_z-of_z c.ranges.d) at c.in_err-p.ensures in
    search (rules, refused_too h)

pub returns-then-not-reduced : goal.returns-then-not-reduced
returns-then-not-reduced c =
    let h = rw (to_z-of_z c.ranges.a, to_z-of_z c.ranges.b, to_z-of_z c.ranges.c, to_z-of_z c.ranges.d) at c.in_ok-p.ensures in
    not_reduced h c.reduced.ensures c.if-not-reduced.true

pub returns-in-Back : goal.returns-in-Back
returns-in-Back c =
    let h = rw (to_z-of_z c.ranges.a, to_z-of_z c.ranges.b, to_z-of_z c.ranges.c, to_z-of_z c.ranges.d) at c.in_ok-p.ensures in
    wrong_sign h c.reduced.ensures c.if-not-reduced.false c.lead.ensures c.in-Back.is

pub returns-in_default : goal.returns-in_default
returns-in_default c =
    let h = rw (to_z-of_z c.ranges.a, to_z-of_z c.ranges.b, to_z-of_z c.ranges.c, to_z-of_z c.ranges.d) at c.in_ok-p.ensures in
    plane_fine h c.reduced.ensures c.if-not-reduced.false c.lead.ensures c.in_default.not-Back

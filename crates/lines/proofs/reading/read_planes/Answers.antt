-- `lines::reading::read_planes` meets its contract. The invariant: i planes are taken. Assumes nothing.
use Rattle.std.proofs.Common.{◌≡◌, ◌+◌, refl, arith, rules}
use Rattle.std.specs.Prelude.{Result, Ok, Err}
use Rattle.refusals.specs.declared.Refusal.{Refusal}
use Rattle.refusals.specs.declared.LineRefusal.{LineRefusal}
use Rattle.frames.specs.declared.Cursor.{Cursor}
use Rattle.lines.specs.declared.Place.{Place}
use Rattle.lines.proofs.Planes.{planes_start, planes_next, planes_refused}
use Rattle.lines.proofs.reading.read_planes.Goals as goal

pub loop-i-init : goal.loop-i-init
loop-i-init c = planes_start c.args.text.now c.args.from.cursor.at c.args.from.line c.args.n c.args.planes.now c.requires.inside c.requires.blank

pub returns-in_err-cursor : goal.returns-in_err-cursor
returns-in_err-cursor c =
    let r = c.in_err-cursor.field-0.0 in
    let e : ◌≡◌ {A = Result Cursor Refusal} c.read_plane.result (Err r.refusal) = search rules in
    let f : ◌≡◌ {A = Result Place LineRefusal} c.from_residual.result (Err r) = search rules in
    let g : r.line ≡ c.args.from.line + c.loop-i.i = search rules in
    rw (f, g) (planes_refused c.loop-i.invariant (omega arith) (omega (arith, c.requires.room, c.loop-i.auto.planes)) (rw e at c.read_plane.ensures))

pub loop-i-preserved : goal.loop-i-preserved
loop-i-preserved c =
    let e : ◌≡◌ {A = Result Cursor Refusal} c.read_plane.result (Ok c.in_ok-cursor.cursor) = search rules in
    planes_next c.loop-i.invariant (omega arith) (omega (arith, c.requires.room, c.loop-i.auto.planes)) (rw e at c.read_plane.ensures)

pub returns : goal.returns
returns c = let e : c.loop-i.i ≡ c.args.n = omega (arith, c.loop-i.auto.i-end) in (rw e at c.loop-i.invariant, refl)

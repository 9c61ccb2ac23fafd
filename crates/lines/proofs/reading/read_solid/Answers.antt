-- `lines::reading::read_solid` meets its contract: the head is missing, refused or taken, and then the rows. Assumes nothing.
use Rattle.std.proofs.Common.{◌≡◌, arith, rules}
use Rattle.std.specs.Prelude.{Result, Ok, Err}
use Rattle.refusals.specs.declared.Refusal.{Refusal}
use Rattle.refusals.specs.declared.LineRefusal.{LineRefusal}
use Rattle.frames.specs.declared.Cursor.{Cursor}
use Rattle.tables.specs.declared.Solid.{Solid}
use Rattle.lines.specs.declared.SolidRead.{SolidRead}
use Rattle.lines.specs.Lines.{HeadLine}
use Rattle.lines.specs.Reading.{rooms}
use Rattle.lines.proofs.Whole.{head_refused}
use Rattle.lines.proofs.Heads.{solid_taken, solid_inside, solid_refused, whole_solid}
use Rattle.lines.proofs.reading.read_solid.Goals as goal

pub returns-in_err-solid : goal.returns-in_err-solid
returns-in_err-solid c =
    let r = c.in_err-solid.field-0.0 in
    let e : ◌≡◌ {A = Result (Solid × Cursor) Refusal} c.read_head.result (Err r.refusal) = search rules in
    let f : ◌≡◌ {A = Result SolidRead LineRefusal} c.from_residual.result (Err r) = search rules in
    let g : r.line ≡ c.args.from.line = search rules in
    rw (f, g) (head_refused (rooms c.args.planes.now c.args.nodes.now) c.args.from.line (rw e at c.read_head.ensures))

pub read_rows-requires : goal.read_rows-requires
read_rows-requires c =
    let e : ◌≡◌ {A = Result (Solid × Cursor) Refusal} c.read_head.result (Ok (c.in_ok-solid.solid, c.in_ok-solid.cursor)) = search rules in
    let a = rooms c.args.planes.now c.args.nodes.now in
    let q : HeadLine c.args.text.now c.args.from.cursor.at a (Ok (c.in_ok-solid.solid, c.in_ok-solid.cursor)) = rw e at c.read_head.ensures in
    let h = solid_taken a c.args.from.line q in
    record {
      inside = solid_inside a c.args.from.line q;
      line = omega (arith, c.requires.1);
      few_planes = h.few_planes;
      few_nodes = h.few_nodes;
      plane_room = omega (arith, h.plane_room);
      node_room = omega (arith, h.node_room);
      work_room = c.requires.2;
      blank = c.requires.3;
    }

pub returns-in_err-next : goal.returns-in_err-next
returns-in_err-next c =
    let r = c.in_err-next.field-0.0 in
    let e : ◌≡◌ {A = Result (Solid × Cursor) Refusal} c.read_head.result (Ok (c.in_ok-solid.solid, c.in_ok-solid.cursor)) = search rules in
    let f : ◌≡◌ {A = Result SolidRead LineRefusal} c.from_residual-in_err-next.result (Err r) = search rules in
    rw f (solid_refused (rooms c.args.planes.now c.args.nodes.now) c.args.from.line (rw e at c.read_head.ensures) c.in_err-next.ensures)

pub returns : goal.returns
returns c =
    let e : ◌≡◌ {A = Result (Solid × Cursor) Refusal} c.read_head.result (Ok (c.in_ok-solid.solid, c.in_ok-solid.cursor)) = search rules in
    whole_solid (rooms c.args.planes.now c.args.nodes.now) c.args.from.line (rw e at c.read_head.ensures) c.in_ok-next.ensures

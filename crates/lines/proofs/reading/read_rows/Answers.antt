-- `lines::reading::read_rows` meets its contract: planes, nodes and the end, or the first that is refused. Assumes nothing.
use Rattle.std.proofs.Common.{◌≡◌, rules}
use Rattle.std.specs.Prelude.{Result, Ok, Err}
use Rattle.refusals.specs.declared.Refusal.{Refusal}
use Rattle.refusals.specs.declared.LineRefusal.{LineRefusal}
use Rattle.frames.specs.declared.Cursor.{Cursor}
use Rattle.lines.specs.declared.Place.{Place}
use Rattle.lines.proofs.Whole.{rows_no_node, rows_no_end, rows_end}
use Rattle.lines.proofs.reading.read_rows.Goals as goal

pub returns-in_err-end : goal.returns-in_err-end
returns-in_err-end c =
    let r = c.in_err-end.field-0.0 in
    let f : ◌≡◌ {A = Result Place LineRefusal} c.from_residual-in_err-end.result (Err r) = search rules in
    let p = c.in_ok-after.ensures in
    rw f (rows_no_node c.args.from.line c.args.s c.requires.few_planes p.0 c.read_nodes.new.nodes c.read_nodes.new.work (rw p.1 at c.in_err-end.ensures))

pub returns-in_err-cursor : goal.returns-in_err-cursor
returns-in_err-cursor c =
    let r = c.in_err-cursor.field-0.0 in
    let e : ◌≡◌ {A = Result Cursor Refusal} c.read_end.result (Err r.refusal) = search rules in
    let f : ◌≡◌ {A = Result Place LineRefusal} c.from_residual-in_err-cursor.result (Err r) = search rules in
    let g : r.line ≡ c.in_ok-end.end.line = search rules in
    let p = c.in_ok-after.ensures in
    let q = rw p.1 at c.in_ok-end.ensures in
    rw (f, g, q.1) (rows_no_end c.args.from.line c.args.s c.requires.few_planes p.0 (q.2 p.0.planes p.0.count) (rw e at c.read_end.ensures))

pub returns : goal.returns
returns c =
    let e : ◌≡◌ {A = Result Cursor Refusal} c.read_end.result (Ok c.in_ok-cursor.cursor) = search rules in
    let p = c.in_ok-after.ensures in
    let q = rw p.1 at c.in_ok-end.ensures in
    rw q.1 (rows_end c.args.from.line c.args.s c.requires.few_planes p.0 (q.2 p.0.planes p.0.count) (rw e at c.read_end.ensures))

-- `inputs::read_order` meets its contract: the text is too long, the operation is missing, or what follows it decides (proofs/Input). Assumes nothing.
use Rattle.std.proofs.Common.{◌≡◌, ℕ, rules}
use Rattle.std.specs.Prelude.{Result, Ok, Err}
use Rattle.refusals.specs.declared.Refusal.{Refusal}
use Rattle.refusals.specs.declared.LineRefusal.{LineRefusal}
use Rattle.frames.specs.declared.Cursor.{Cursor}
use Rattle.frames.specs.Promises.{OperationTold}
use Rattle.inputs.specs.declared.Order.{Order}
use Rattle.inputs.proofs.Input.{text_long, no_operation, order_told}
use Rattle.inputs.proofs.read_order.Goals as goal

pub returns-then-text-gt-MOST_TEXT : goal.returns-then-text-gt-MOST_TEXT
returns-then-text-gt-MOST_TEXT c = rw c.at.ensures (text_long c.args.text.now c.if-text-gt-MOST_TEXT.true)

pub returns-in_err-op : goal.returns-in_err-op
returns-in_err-op c =
    let a = c.args in
    let r = c.in_err-op.field-0.0 in
    let e : ◌≡◌ {A = Result (ℕ × Cursor) Refusal} c.operation_at.result (Err r.refusal) = search rules in
    let f : ◌≡◌ {A = Result Order LineRefusal} c.from_residual.result (Err r) = search rules in
    let g : r.line ≡ 1 = search rules in
    rw (f, g) (no_operation a.text.now c.if-text-gt-MOST_TEXT.false a.a_planes.now a.a_nodes.now a.b_planes.now a.b_nodes.now (rw e at c.operation_at.ensures))

pub read_known-requires : goal.read_known-requires
read_known-requires c =
    let e : ◌≡◌ {A = Result (ℕ × Cursor) Refusal} c.operation_at.result (Ok (c.in_ok-op.op, c.in_ok-op.next)) = search rules in
    let q : OperationTold c.args.text.now 0 (Ok (c.in_ok-op.op, c.in_ok-op.next)) = rw e at c.operation_at.ensures in
    record { inside = q.inside; lent = c.requires }

pub returns : goal.returns
returns c =
    let e : ◌≡◌ {A = Result (ℕ × Cursor) Refusal} c.operation_at.result (Ok (c.in_ok-op.op, c.in_ok-op.next)) = search rules in
    let q : OperationTold c.args.text.now 0 (Ok (c.in_ok-op.op, c.in_ok-op.next)) = rw e at c.operation_at.ensures in
    order_told c.args.text.now c.if-text-gt-MOST_TEXT.false q c.read_known.new.a_planes c.read_known.new.a_nodes c.read_known.new.b_planes c.read_known.new.b_nodes _ c.read_known.ensures

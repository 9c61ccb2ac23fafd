-- `frames::line::due` meets its contract. Assumes nothing.
use Rattle.std.proofs.Common.{arith, rules}
use Rattle.frames.specs.Bytes.{first_byte}
use Rattle.frames.specs.Promises.{missing}
use Rattle.frames.proofs.Shapes.{byte_is}
use Rattle.frames.proofs.Told.{due_bad, due_yes, due_other_size, due_other_kind}
use Rattle.frames.proofs.line.due.Goals as goal

pub returns-in_err-n : goal.returns-in_err-n
returns-in_err-n g c = search (rules, due_bad)

pub returns-in_default : goal.returns-in_default
returns-in_default g c = missing (search rules)

pub returns-then-n : goal.returns-then-n
returns-then-n g c = due_other_size c.args.text.now c.args.c.at (first_byte c.args.kind) g.row.N _ (rw c.in-Some.is at c.in_ok-n.ensures) c.requires.1 c.if-n.true

pub returns-then-frame-kind : goal.returns-then-frame-kind
returns-then-frame-kind g c = due_other_kind c.args.text.now c.args.c.at (first_byte c.args.kind) g.row.N _ (rw c.in-Some.is at c.in_ok-n.ensures) c.bytes-frame.ensures c.requires.1 c.if-n.false (λ e. omega (arith, byte_is c.args.kind, c.if-frame-kind.true))

pub returns : goal.returns
returns g c = due_yes c.args.text.now c.args.c.at (first_byte c.args.kind) g.row.N _ (rw c.in-Some.is at c.in_ok-n.ensures) c.bytes-frame.ensures c.if-n.false (omega (arith, byte_is c.args.kind, c.if-frame-kind.false))

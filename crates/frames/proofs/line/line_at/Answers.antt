-- `frames::line::line_at` meets its contract. Assumes nothing.
use Rattle.std.proofs.Common.{arith, refl}
use Rattle.std.proofs.lemmas.Bool.Decides.{nat_tests}
use Rattle.frames.proofs.Lines.{whole_line, bad_line, torn_line, line_missing}
use Rattle.frames.proofs.line.line_at.Goals as goal

pub returns-in-Some : goal.returns-in-Some
returns-in-Some c = whole_line c.args.text.now c.args.at c.in-Some.ensures c.if-rest-n-eq10.true (omega arith) (omega arith)

pub returns-in-None : goal.returns-in-None
returns-in-None c = line_missing c.args.text.now c.args.at (grind (arith, nat_tests))

pub returns-in_default : goal.returns-in_default
returns-in_default c = (bad_line c.args.text.now c.args.at c.in-Some.ensures (λ e l. omega arith), refl)

pub returns-in_default-2 : goal.returns-in_default-2
returns-in_default-2 c = (bad_line c.args.text.now c.args.at c.in-Some.ensures (λ e l. omega arith), refl)

pub returns-in_default-3 : goal.returns-in_default-3
returns-in_default-3 c = (bad_line c.args.text.now c.args.at c.in-Some.ensures (λ e l. absurd (c.if-rest-n-eq10.false e)), refl)

pub returns-in_default-4 : goal.returns-in_default-4
returns-in_default-4 c = (torn_line c.args.text.now c.args.at c.in-None.ensures (grind (arith, nat_tests)), refl)

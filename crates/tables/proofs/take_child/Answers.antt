-- `tables::take_child` meets its contract, a lemma of proofs/Stacks for each way out. Assumes nothing.
use mathlib.Core.Path.{◌≡◌, sym, ap, ◌∙◌}
use Prim.Native.Nat.{◌-◌}
use native.Mathlib.Omega.{arith}
use lib.IntN.{pos, nat_abs}
use lib.ListN.{length, get_or}
use borrow.Author.Rules.{rules}
use Rattle.whole.specs.Code.{back64}
use Rattle.theory.specs.Text.Counts.{counted}
use Rattle.tables.specs.Work.{stack, sizes_in}
use Rattle.tables.specs.Promises.{counted_in}
use Rattle.tables.proofs.Stacks.{child_in, child_out, child_none, child_wrong, child_top}
use Rattle.tables.proofs.take_child.Goals.{then-code-eq-IN-via-then-code-eq-IN, then-code-eq-IN-via-else-code-eq-IN+then-code-eq-OUT}
use Rattle.tables.proofs.take_child.Goals as goal

pub returns-then-code-eq-IN : goal.returns-then-code-eq-IN
returns-then-code-eq-IN c =
    let a = c.args in
    elim c.then-code-eq-IN.branch [
      | then-code-eq-IN-via-then-code-eq-IN w ↦ child_in a.due a.code (sizes_in a.trees.now) w.if-code-eq-IN.true
      | then-code-eq-IN-via-else-code-eq-IN+then-code-eq-OUT w ↦ child_out a.due a.code (sizes_in a.trees.now) w.if-code-eq-IN.false w.if-code-eq-OUT.true
    ]

pub returns-in_err-last : goal.returns-in_err-last
returns-in_err-last c =
    let a = c.args in
    let k = c.in_err-last.ensures.item in
    child_none a.due a.code a.trees.now (length a.trees.now) c.if-code-eq-IN.false c.if-code-eq-OUT.false (omega (arith, k.3)) ∙ ap (counted_in a.trees.now) (sym c.from_residual.ensures)

pub returns-then-code-due : goal.returns-then-code-due
returns-then-code-due c = let a = c.args in child_wrong a.due a.code a.trees.now (length a.trees.now) c.if-code-eq-IN.false c.if-code-eq-OUT.false c.if-code-due.true

pub returns : goal.returns
returns c =
    let a = c.args in
    let ts = a.trees.now in
    let k = c.in_ok-last.ensures.item in
    let e : c.size.result ≡ nat_abs (get_or ts (length ts - 1) (pos 0)) = c.size.ensures ∙ ap nat_abs (back64 c.in_ok-last.last.now (search rules) ∙ k.3.1 (pos 0)) in
    child_top a.due a.code ts (length ts) c.if-code-eq-IN.false c.if-code-eq-OUT.false (λ z. omega (arith, k.3.0)) c.if-code-due.false
    ∙ ap (λ j. counted j (stack ts (length ts - 1))) (sym e)

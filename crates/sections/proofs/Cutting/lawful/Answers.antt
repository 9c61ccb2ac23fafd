-- `sections::Cutting::lawful` meets its contract. The first i half-spaces have no fault. Assumes nothing.
use mathlib.Core.Path.{sym, ap, ◌∙◌}
use Prim.Native.Nat.{◌+◌, ◌-◌}
use native.Mathlib.Omega.{arith}
use Rattle.scope.specs.Planes.{half_fault}
use Rattle.scope.specs.Answers.{no_fault}
use Rattle.planes.specs.Values.{plane}
use Rattle.polygons.specs.Tables.{rows_to}
use Rattle.sections.proofs.Rows.{lawful_none, lawful_more, unlawful_rows, unlawful_more}
use Rattle.sections.proofs.Cutting.lawful.Goals as goal

pub loop-i-init : goal.loop-i-init
loop-i-init c = let hs = c.args.self.now.halves in lawful_none hs.numbers.now hs.width

pub returns-then-not-lawful_half-2 : goal.returns-then-not-lawful_half-2
returns-then-not-lawful_half-2 c =
    let s = c.args.self.now in
    let hs = s.halves in
    let i = c.loop-i.i in
    let e = sym (ap (λ h. no_fault (half_fault h)) c.row.ensures) ∙ sym c.lawful_half-in-loop-i.ensures ∙ c.if-not-lawful_half-2.true in
    sym (unlawful_rows (plane s.plane) (rows_to hs.numbers.now hs.width s.rows) (unlawful_more hs.numbers.now hs.width i (s.rows - (i + 1)) s.rows (omega arith) e))

pub loop-i-preserved : goal.loop-i-preserved
loop-i-preserved c =
    let hs = c.args.self.now.halves in
    let q = c.loop-i in
    lawful_more hs.numbers.now hs.width q.i q.invariant (sym (ap (λ h. no_fault (half_fault h)) c.row.ensures) ∙ sym c.lawful_half-in-loop-i.ensures ∙ c.if-not-lawful_half-2.false)

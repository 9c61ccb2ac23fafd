-- `polygons::clipping::last_out` meets its contract. The loop has passed the corners from i on, which put nothing out. Assumes nothing.
use mathlib.Core.Path.{◌≡◌, ap, ◌∙◌}
use Prim.Native.Nat.{suc, ◌-◌}
use native.Mathlib.Omega.{arith}
use Rattle.polygons.specs.Tables.{last_to}
use Rattle.polygons.proofs.Loops.{last_none, last_passed, last_found}
use Rattle.polygons.proofs.clipping.last_out.Goals as goal

pub loop-i-preserved : goal.loop-i-preserved
loop-i-preserved c =
    let i = c.loop-i.i in
    let e : i ≡ suc (i - 1) = omega arith in
    last_passed c.args.sides.now c.args.t.now 0 i (i - 1) e c.said.result c.said.ensures c.in-Nothing.is ∙ c.loop-i.invariant

pub returns-in_default : goal.returns-in_default
returns-in_default c =
    let i = c.loop-i.i in
    let e : i ≡ suc (i - 1) = omega arith in
    c.index_at.ensures ∙ last_found c.args.sides.now c.args.t.now 0 i (i - 1) e c.said.result c.said.ensures c.in_default.not-Nothing ∙ c.loop-i.invariant

pub returns : goal.returns
returns c =
    let e : 0 ≡ c.loop-i.i = omega arith in
    last_none c.args.sides.now c.args.t.now 0 ∙ ap (last_to c.args.sides.now c.args.t.now 0) e ∙ c.loop-i.invariant

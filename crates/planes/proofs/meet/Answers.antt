-- `planes::meet` meets its contract. Assumes nothing.
use mathlib.Core.Path.{sym, ◌∙◌}
use mathlib.Core.Bool.{true, false}
use Rattle.planes.specs.Values.{meeting}
use Rattle.planes.proofs.Meets.{three_limits, weight_zero, weight_some}
use Rattle.planes.proofs.Told.{met}
use Rattle.planes.proofs.meet.Goals as goal

pub minors-m-requires : goal.minors-m-requires
minors-m-requires c = three_limits c.args.p c.args.q c.args.r (sym c.three_ranged.ensures ∙ c.if-not-three_ranged.false)

pub returns-then-m-eq0 : goal.returns-then-m-eq0
returns-then-m-eq0 c =
    let a = c.args in
    let m = c.minors-m in
    let t = sym c.three_ranged.ensures ∙ c.if-not-three_ranged.false in
    met a.p a.q a.r true true (meeting m.result) t (weight_zero a.p a.q a.r m.result m.ensures (three_limits a.p a.q a.r t) c.if-m-eq0.true) (sym m.ensures)

pub returns : goal.returns
returns c =
    let a = c.args in
    let m = c.minors-m in
    let t = sym c.three_ranged.ensures ∙ c.if-not-three_ranged.false in
    met a.p a.q a.r true false (meeting m.result) t (weight_some a.p a.q a.r m.result m.ensures (three_limits a.p a.q a.r t) c.if-m-eq0.false) (sym m.ensures)

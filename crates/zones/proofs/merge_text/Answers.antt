-- `zones::merge_text` meets its contract (proofs/TextCalls). Assumes nothing.
use mathlib.Core.Path.{ap, ◌∙◌}
use native.Mathlib.Omega.{arith}
use lib.IntN.{pos}
use lib.ListN.{replicate}
use Rattle.zeros.proofs.Fill.{cleared}
use Rattle.outputs.proofs.Texts.{refuses_number}
use Rattle.zones.proofs.TextCalls.{text_short, text_told}
use Rattle.zones.proofs.merge_text.Goals as goal

pub returns-then-work-lt-WORK : goal.returns-then-work-lt-WORK
returns-then-work-lt-WORK c = text_short (omega (arith, c.if-work-lt-WORK.true, c.clear.auto.t)) c.clear.ensures (refuses_number c.refuse.ensures)

pub merge_lent-r-requires : goal.merge_lent-r-requires
merge_lent-r-requires c = record { enough = omega (arith, c.if-work-lt-WORK.false); zeros = cleared (pos 0) c.args.work.now c.clear.new.t c.clear.ensures }

pub returns : goal.returns
returns c = text_told (omega (arith, c.if-work-lt-WORK.false, c.clear.auto.t)) (c.clear-2.ensures ∙ ap (λ n. replicate n (pos 0)) (c.merge_lent-r.auto.work ∙ c.clear.auto.t)) c.merge_lent-r.ensures

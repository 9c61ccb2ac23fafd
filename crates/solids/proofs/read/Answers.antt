-- `solids::read` meets its contract: at each way out the answer and the tables are document 01's. Assumes nothing.
use Rattle.std.proofs.Common.{ap, ◌∙◌, pos}
use lib.ListN.{replicate}
use Rattle.solids.proofs.Told.{told_refused, told_sound}
use Rattle.solids.proofs.read.Goals as goal

pub returns-in_default : goal.returns-in_default
returns-in_default c =
    let a = c.args in
    let i = c.read_into-answer in
    told_refused a.text.now a.planes.now a.nodes.now a.work.now c.clear.new.t c.clear-2.new.t c.clear-3.new.t c.clear.auto.t c.clear-2.auto.t c.clear-3.auto.t i.new.planes i.new.nodes
    c.in_default.is i.ensures
    (c.clear-in_default.ensures ∙ ap (λ n. replicate n (pos 0)) (i.auto.planes ∙ c.clear.auto.t))
    (c.clear-in_default-2.ensures ∙ ap (λ n. replicate n 0) (i.auto.nodes ∙ c.clear-2.auto.t))
    (c.clear-4.ensures ∙ ap (λ n. replicate n (pos 0)) (i.auto.work ∙ c.clear-3.auto.t))

pub returns : goal.returns
returns c =
    let a = c.args in
    let i = c.read_into-answer in
    told_sound a.text.now a.planes.now a.nodes.now a.work.now c.clear.new.t c.clear-2.new.t c.clear-3.new.t c.clear.auto.t c.clear-2.auto.t c.clear-3.auto.t i.new.planes i.new.nodes
    c.in-Ok.is i.ensures (i.auto.planes ∙ c.clear.auto.t) (i.auto.nodes ∙ c.clear-2.auto.t)
    (c.clear-4.ensures ∙ ap (λ n. replicate n (pos 0)) (i.auto.work ∙ c.clear-3.auto.t))

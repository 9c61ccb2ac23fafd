-- `sections::section` meets its contract. The bounds are cleared first, and the work table last. Assumes nothing.
use Rattle.sections.proofs.Told.{cleared, section_told}
use Rattle.sections.proofs.section.Goals as goal

pub drawn-r-requires : goal.drawn-r-requires
drawn-r-requires c = cleared c.args.bounds.now c.clear.new.t c.clear.ensures c.clear.auto.t

pub returns : goal.returns
returns c =
    let d = c.drawn-r in
    section_told c.args.s c.args.halves.now c.args.bounds.now c.clear.new.t c.args.work.now d.new.work c.clear-2.new.t c.clear.auto.t d.ensures d.auto.work c.clear-2.ensures

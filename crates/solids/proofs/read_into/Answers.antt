-- `solids::read_into` meets its contract. Assumes nothing.
use lib.ListN.{length}
use Rattle.refusals.specs.Numbers.{lined}
use Rattle.lines.specs.Reading.{rooms}
use Rattle.solids.proofs.Told.{into_long, into_told, solid_inside}
use Rattle.solids.proofs.read_into.Goals as goal

pub returns-then-text-gt-MOST_TEXT : goal.returns-then-text-gt-MOST_TEXT
returns-then-text-gt-MOST_TEXT c =
    let a = c.args in
    rw c.at-then-text-gt-MOST_TEXT.ensures (into_long a.text.now (rooms a.planes.now a.nodes.now) (length a.work.now) c.if-work-lt-WORK.false c.if-text-gt-MOST_TEXT.true)

pub finished-requires : goal.finished-requires
finished-requires c =
    let a = c.args in
    let s = c.read_solid-r in
    solid_inside a.text.now 0 1 (rooms a.planes.now a.nodes.now) s.new.planes s.new.nodes (lined s.result) s.ensures

pub returns : goal.returns
returns c =
    let a = c.args in
    let s = c.read_solid-r in
    into_told a.text.now (rooms a.planes.now a.nodes.now) (length a.work.now) c.if-work-lt-WORK.false c.if-text-gt-MOST_TEXT.false s.new.planes s.new.nodes c.finished.ensures s.ensures

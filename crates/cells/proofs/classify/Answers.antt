-- `cells::classify` meets its contract (proofs/Paths). Assumes nothing.
use Rattle.planes.specs.Bounds.{in_range_in}
use Rattle.cells.proofs.Paths.{path_asked, cut_asked, missed_asked, classified_cut, classified_missed}
use Rattle.cells.proofs.classify.Goals as goal

pub parallel-requires : goal.parallel-requires
parallel-requires c = (in_range_in (cut_asked c.requires).support, path_asked c.requires)

pub cut-requires : goal.cut-requires
cut-requires c = cut_asked c.requires

pub missed-requires : goal.missed-requires
missed-requires c = missed_asked c.requires.lawful c.requires.on c.requires.room

pub returns-in-Some-cut : goal.returns-in-Some-cut
returns-in-Some-cut c = classified_cut c.args.path.now c.args.depth c.requires.lawful c.in-Some-cut.ensures

pub returns-in-None : goal.returns-in-None
returns-in-None c = classified_missed c.args.path.now c.args.depth c.requires.lawful c.in-None.ensures c.missed.ensures

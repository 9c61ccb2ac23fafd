-- `cuts::cut` meets its contract: a point that was seen is a witness. Assumes nothing.
use Rattle.cuts.specs.Paths.{is_at}
use Rattle.cuts.proofs.cut.Goals as goal

pub returns-in-Some : goal.returns-in-Some
returns-in-Some c = is_at c.in-Some.ensures

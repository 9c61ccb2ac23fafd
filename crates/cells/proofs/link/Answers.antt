-- `cells::link` meets its contract (proofs/Paths). Assumes nothing.
use native.Mathlib.Omega.{arith}
use Rattle.cells.proofs.Paths.{link_past}
use Rattle.cells.proofs.link.Goals as goal

pub returns-then-holds : goal.returns-then-holds
returns-then-holds c = link_past c.requires (omega (arith, c.if-path-gt0.true)) c.load.ensures (c.holds.ensures.yes c.if-holds.true)

-- `solids::put_text` meets its contract. Assumes nothing.
use Rattle.tables.specs.Promises.{counts}
use Rattle.solids.proofs.Fitted.{sound_writes, fitted_short, fitted_whole}
use Rattle.solids.proofs.put_text.Goals as goal

pub returns-then-text-size : goal.returns-then-text-size
returns-then-text-size c = let s = c.args.s.now in fitted_short s.planes.now s.nodes.now (counts s.planes.now s.nodes.now s.root) c.args.text.now c.requires.0 c.if-text-size.true c.requires.1

pub put_solid-requires : goal.put_solid-requires
put_solid-requires c = let s = c.args.s.now in sound_writes s.planes.now s.nodes.now (counts s.planes.now s.nodes.now s.root) c.args.text.now c.requires.0 c.if-text-size.false

pub returns : goal.returns
returns c = let s = c.args.s.now in fitted_whole s.planes.now s.nodes.now (counts s.planes.now s.nodes.now s.root) c.args.text.now c.requires.0 c.if-text-size.false c.requires.1 c.put_solid.ensures

-- `solids::write` meets its contract: at each way out the answer and the tables are document 01's. Assumes nothing.
use Rattle.std.proofs.Common.{length, refl, sym}
use Rattle.tables.specs.Promises.{counts}
use Rattle.zeros.proofs.Fill.{cleared}
use Rattle.solids.proofs.Fitted.{judged_sound, fitted_lent, write_refused, write_sound}
use Rattle.solids.proofs.write.Goals as goal

pub put_text-requires : goal.put_text-requires
put_text-requires c =
    let s = c.args.s.now in
    (judged_sound s.planes.now s.nodes.now s.root (length c.args.work.now) (sym c.in-Ok.ensures.exact), cleared 0 c.args.text.now c.clear.new.t c.clear.ensures)

pub returns-in-Ok : goal.returns-in-Ok
returns-in-Ok c =
    let s = c.args.s.now in
    write_sound s.planes.now s.nodes.now s.root (length c.args.work.now) refl (sym c.in-Ok.ensures.exact)
    (fitted_lent s.planes.now s.nodes.now (counts s.planes.now s.nodes.now s.root) c.clear.new.t c.args.text.now c.clear.auto.t c.put_text.ensures) c.judge.ensures.zeros

pub returns-in-Err : goal.returns-in-Err
returns-in-Err c =
    let s = c.args.s.now in
    write_refused s.planes.now s.nodes.now s.root (length c.args.work.now) refl (sym c.in-Err.ensures.exact) c.clear.ensures c.judge.ensures.zeros

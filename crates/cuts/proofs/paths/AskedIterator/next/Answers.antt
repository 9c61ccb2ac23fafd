-- `next` of `cuts::Asked` meets its contract (proofs/Asking). Assumes nothing.
use mathlib.Core.Path.{refl}
use Rattle.cuts.proofs.Asking.{asks_row, asked_rest, rest_less}
use Rattle.cuts.proofs.paths.AskedIterator.next.Goals as goal

pub returns-clause-steps : goal.returns-clause-steps
returns-clause-steps c = record { same = refl; row = asks_row c.requires c.if-self-eq0.false }

pub returns-clause-goes : goal.returns-clause-goes
returns-clause-goes c =
    let r = asked_rest c.requires c.if-self-eq0.false in
    record { on = λ _. (r, tt, rest_less c.requires c.if-self-eq0.false); keeps = r; rests = λ _. tt }

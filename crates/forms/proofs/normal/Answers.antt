-- `forms::normal` meets its contract: what is left in the tables (Rattle.results, proofs/Calls). Assumes nothing.
use borrow.Author.Rules.{rules}
use Rattle.results.proofs.Calls.{told_given}
use Rattle.forms.proofs.normal.Goals as goal

pub returns : goal.returns
returns c = told_given c.give.ensures c.give.auto.planes c.give.auto.nodes (λ l. search (rules, c.give.ensures.enough l))

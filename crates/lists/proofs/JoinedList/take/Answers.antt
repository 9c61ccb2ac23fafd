-- `lists::JoinedList::take` meets its contract. Assumes nothing.
use Rattle.planes.specs.Values.{plane}
use Rattle.lists.proofs.Joins.{first_taken, both_taken, second_taken}
use Rattle.lists.proofs.JoinedList.take.Goals as goal

pub returns-in-Less : goal.returns-in-Less
returns-in-Less c = first_taken c.requires c.store.new.t (plane c.row.result) c.store.ensures c.row.ensures (c.in-Less.ensures)

pub returns-in-Equal : goal.returns-in-Equal
returns-in-Equal c = both_taken c.requires c.store-in-Equal.new.t (plane c.row-in-Equal.result) c.store-in-Equal.ensures c.row-in-Equal.ensures (c.in-Equal.ensures)

pub returns-in-Greater : goal.returns-in-Greater
returns-in-Greater c = second_taken c.requires c.store-in-Greater.new.t (plane c.row-in-Greater.result) c.store-in-Greater.ensures c.row-in-Greater.ensures (c.in-Greater.ensures)

-- `lists::JoinedList::join` meets its contract. The invariant: the planes before A's and B's next ones are joined. Assumes nothing.
use mathlib.Core.Path.{refl}
use native.Mathlib.Omega.{arith}
use Rattle.lists.proofs.Joins.{none_joined, list_few, list_rising, all_joined}
use Rattle.lists.proofs.JoinedList.join.Goals as goal
use Rattle.lists.proofs.JoinedList.join.Goals.{then-t-a, else-t-a+then-t-b}

pub loop-t-init : goal.loop-t-init
loop-t-init c = none_joined c.args.a.now c.args.b.now _ (omega arith) (omega arith) refl

pub take-t-requires : goal.take-t-requires
take-t-requires c =
    let j = c.loop-t.invariant in
    let q = c.requires in
    record {
      so_far = j;
      more = elim c.if-t-a.branch [ then-t-a w ↦ omega (arith, w.if-t-a.true, j.first.inside, j.second.inside) | else-t-a+then-t-b w ↦ omega (arith, w.if-t-b.true, j.first.inside, j.second.inside) ];
      first_rising = list_rising q.first_held;
      second_rising = list_rising q.second_held;
      first_few = list_few q.first_held;
      second_few = list_few q.second_held;
    }

pub returns : goal.returns
returns c =
    let l = c.loop-t in
    all_joined c.args.a.now c.args.b.now l.self l.t.a l.t.b (omega (arith, c.if-t-a.false)) (omega (arith, c.if-t-b.false)) l.invariant

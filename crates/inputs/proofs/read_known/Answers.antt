-- `inputs::read_known` meets its contract: the operation is unknown, or A and then B decide (proofs/Input). Assumes nothing.
use Rattle.std.proofs.Common.{◌≡◌, arith, rules}
use Rattle.std.specs.Prelude.{Result, Err}
use Rattle.refusals.specs.declared.LineRefusal.{LineRefusal}
use Rattle.inputs.specs.declared.Order.{Order}
use Rattle.inputs.proofs.Input.{lent_rooms, none_is, over_is, known_is, unknown, first_refused, second_refused, both_read}
use Rattle.inputs.proofs.read_known.Goals as goal
use Rattle.inputs.proofs.read_known.Goals.{then-op-eq0-via-then-op-eq0, then-op-eq0-via-else-op-eq0+then-op-gt3}

pub returns-then-op-eq0 : goal.returns-then-op-eq0
returns-then-op-eq0 c =
    let a = c.args in
    rw c.at.ensures (elim c.then-op-eq0.branch [ then-op-eq0-via-then-op-eq0 w ↦ unknown a.text.now a.c.at a.op (none_is w.if-op-eq0.true) | then-op-eq0-via-else-op-eq0+then-op-gt3 w ↦ unknown a.text.now a.c.at a.op (over_is (omega (arith, w.if-op-gt3.true))) ])

pub returns-in_err-first : goal.returns-in_err-first
returns-in_err-first c =
    let a = c.args in
    let h = c.requires.lent in
    let f : ◌≡◌ {A = Result Order LineRefusal} c.from_residual.result (Err c.in_err-first.field-0.0) = search rules in
    rw f (first_refused a.text.now a.c.at a.op (known_is c.if-op-eq0.false c.if-op-gt3.false) (lent_rooms a.a_planes.now a.a_nodes.now h.a_planes h.a_nodes) c.read_solid.new.planes c.read_solid.new.nodes a.b_planes.now a.b_nodes.now c.in_err-first.ensures)

pub read_last-requires : goal.read_last-requires
read_last-requires c =
    let h = c.requires.lent in
    let q = c.in_ok-first.ensures in
    record {
      inside = q.inside;
      line = omega (arith, q.near);
      plane_room = h.b_planes;
      node_room = h.b_nodes;
      work_room = omega (arith, h.work_room, c.read_solid.auto.work);
      planes = h.b_blank.planes;
      nodes = h.b_blank.nodes;
    }

pub returns-in_err-b : goal.returns-in_err-b
returns-in_err-b c =
    let a = c.args in
    let h = c.requires.lent in
    let f : ◌≡◌ {A = Result Order LineRefusal} c.from_residual-in_err-b.result (Err c.in_err-b.field-0.0) = search rules in
    rw f (second_refused a.text.now a.c.at a.op (known_is c.if-op-eq0.false c.if-op-gt3.false) (lent_rooms a.a_planes.now a.a_nodes.now h.a_planes h.a_nodes) c.in_ok-first.ensures c.read_last.new.planes c.read_last.new.nodes c.in_err-b.ensures)

pub returns : goal.returns
returns c =
    let a = c.args in
    let h = c.requires.lent in
    both_read a.text.now a.c.at a.op (known_is c.if-op-eq0.false c.if-op-gt3.false) (lent_rooms a.a_planes.now a.a_nodes.now h.a_planes h.a_nodes) c.in_ok-first.ensures c.read_last.new.planes c.read_last.new.nodes c.in_ok-b.ensures

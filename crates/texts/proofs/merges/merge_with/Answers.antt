-- `texts::merges::merge_with` meets its contract: the order is refused, or merged (proofs/TextMerge). Assumes nothing.
use mathlib.Core.Path.{◌∙◌}
use Rattle.std.proofs.Common.{arith, rules}
use lib.IntN.{pos}
use Rattle.zeros.proofs.Fill.{cleared}
use Rattle.outputs.proofs.Texts.{refuses_number}
use Rattle.texts.proofs.TextMerge.{order_refused, order_held, order_merged}
use Rattle.texts.proofs.merges.merge_with.Goals as goal

pub read_order-requires : goal.read_order-requires
read_order-requires c =
    let h = c.requires in
    let a = c.args in
    record {
      a_planes = c.clear.auto.t ∙ h.first.planes;
      a_nodes = c.clear-2.auto.t ∙ h.first.nodes;
      b_planes = c.clear-3.auto.t ∙ h.second.planes;
      b_nodes = c.clear-4.auto.t ∙ h.second.nodes;
      work_room = omega (arith, h.result.enough);
      a_blank = record { planes = cleared (pos 0) a.ap.now c.clear.new.t c.clear.ensures; nodes = cleared 0 a.an.now c.clear-2.new.t c.clear-2.ensures; work = h.zeros };
      b_blank = record { planes = cleared (pos 0) a.bp.now c.clear-3.new.t c.clear-3.ensures; nodes = cleared 0 a.bn.now c.clear-4.new.t c.clear-4.ensures; work = h.zeros };
    }

pub merge_read-requires : goal.merge_read-requires
merge_read-requires c =
    let h = c.requires in
    let r = h.result in
    let q = order_held c.in-Ok.ensures in
    record { first = q.0; second = q.1; result = record { planes = r.planes; nodes = r.nodes; enough = omega (arith, r.enough, c.read_order.auto.work) } }

pub returns-in-Ok : goal.returns-in-Ok
returns-in-Ok c = order_merged c.in-Ok.ensures c.merge_read.ensures

pub returns-in-Err : goal.returns-in-Err
returns-in-Err c = let h = c.in-Err.ensures in search (rules, order_refused, refuses_number)

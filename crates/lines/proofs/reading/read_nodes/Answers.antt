-- `lines::reading::read_nodes` meets its contract. The invariant: i nodes are taken, with at most i trees and at most i rows in them. Assumes nothing.
use Rattle.std.proofs.Common.{◌≡◌, ℕ, ◌+◌, refl, arith, rules}
use Rattle.std.specs.Prelude.{Result, Ok, Err}
use Rattle.refusals.specs.declared.Refusal.{Refusal}
use Rattle.refusals.specs.declared.LineRefusal.{LineRefusal}
use Rattle.frames.specs.declared.Cursor.{Cursor}
use Rattle.tables.specs.Work.{stack, total}
use Rattle.lines.specs.declared.Place.{Place}
use Rattle.lines.proofs.Nodes.{no_marks, node_inside, nodes_start, nodes_next, nodes_refused}
use Rattle.lines.proofs.reading.read_nodes.Goals as goal

pub loop-i-init : goal.loop-i-init
unfolding stack total
loop-i-init c =
    let a = c.args in
    record {
      inside = c.requires.inside;
      deep = omega arith;
      sizes = omega arith;
      over = λ ps e. nodes_start ps a.text.now a.from.cursor.at a.from.line a.m a.nodes.now a.work.now c.requires.blank (no_marks a.work.now c.requires.work_room c.requires.work);
    }

pub read_node-node-requires : goal.read_node-node-requires
read_node-node-requires c =
    let l = c.loop-i in (
      l.invariant.inside,
      record {
        row = omega (arith, c.requires.room, l.auto.nodes);
        few_rows = omega (arith, c.requires.few);
        few_planes = c.requires.few_planes;
        room = omega (arith, c.requires.work_room, l.auto.work);
        deep = l.invariant.deep;
        sizes = l.invariant.sizes;
      },
    )

pub returns-in_err-cursor : goal.returns-in_err-cursor
returns-in_err-cursor c =
    let r = c.in_err-cursor.field-0.0 in
    let e : ◌≡◌ {A = Result (Cursor × ℕ) Refusal} c.read_node-node.result (Err r.refusal) = search rules in
    let f : ◌≡◌ {A = Result (Place × ℕ) LineRefusal} c.from_residual.result (Err r) = search rules in
    let g : r.line ≡ c.args.from.line + c.loop-i.i = search rules in
    let l = c.loop-i in
    rw (f, g) (λ ps k. nodes_refused (l.invariant.over ps k) k (omega arith) (omega (arith, c.requires.room, l.auto.nodes)) (rw e at c.read_node-node.ensures))

pub loop-i-preserved : goal.loop-i-preserved
loop-i-preserved c =
    let l = c.loop-i in
    let e : ◌≡◌ {A = Result (Cursor × ℕ) Refusal} c.read_node-node.result (Ok (c.in_ok-cursor.field-0-0, c.in_ok-cursor.field-0-1)) = search rules in
    let h = rw e at c.read_node-node.ensures in
    let i = node_inside h in
    record {
      inside = i.0;
      deep = i.1;
      sizes = i.2;
      over = λ ps k. nodes_next (l.invariant.over ps k) k (omega arith) (omega (arith, c.requires.room, l.auto.nodes)) h;
    }

pub returns : goal.returns
returns c =
    let l = c.loop-i in
    let e : l.i ≡ c.args.m = omega (arith, l.auto.i-end) in
    (l.invariant.inside, refl, λ ps k. rw e at l.invariant.over ps k)

-- `polygons::clipping::Clip::step` meets its contract. One way out for each signal (proofs/Loops). Assumes nothing.
use native.Mathlib.Omega.{arith}
use Rattle.polygons.proofs.Loops.{step_nothing, room_keep, step_keep, room_pair, step_pair}
use Rattle.polygons.proofs.clipping.Clip.step.Goals as goal

pub keep-requires : goal.keep-requires
keep-requires c = let q = c.requires in (record { room = q.corner_room; index_small = omega arith }, room_keep _ _ _ _ _ c.args.g c.in-B.is c.args.p.at _ q.room)

pub pair-requires : goal.pair-requires
pair-requires c =
    let q = c.requires in
    record {
      top = q.top;
      region = q.region;
      k_below = q.k_below;
      prev_below = q.prev_below;
      b_below = rw c.index_at.ensures q.b_below;
      room = room_pair _ _ _ _ _ c.args.g c.in-HB.is c.args.p.at _ q.room;
    }

pub returns-in-Nothing : goal.returns-in-Nothing
returns-in-Nothing c = step_nothing _ _ _ _ _ c.args.g c.in-Nothing.is c.args.out.now c.args.p.at

pub returns-in-B : goal.returns-in-B
returns-in-B c = step_keep _ _ _ _ _ c.args.g c.in-B.is c.keep.ensures

pub returns-in-HB : goal.returns-in-HB
returns-in-HB c = step_pair _ _ _ _ _ c.args.g c.in-HB.is c.index_at.result c.index_at.ensures c.pair.ensures

-- `merging::merge_sound` meets its contract: the lists joined, the walk, the listing (proofs/Sound). Assumes nothing.
use mathlib.Core.Path.{refl}
use Rattle.results.proofs.Operands.{join_in, joined_few}
use Rattle.merging.proofs.Sound.{walk_in, merged_rows, put_in}
use Rattle.merging.proofs.merge_sound.Goals as goal

pub join-requires : goal.join-requires
join-requires c = join_in c.requires

pub planes-requires : goal.planes-requires
planes-requires c = joined_few c.requires c.join.ensures

pub side_walk-w-requires : goal.side_walk-w-requires
side_walk-w-requires c = walk_in c.args.op c.requires c.join.ensures c.planes.result c.planes.ensures _ refl

pub put_out-requires : goal.put_out-requires
put_out-requires c = put_in c.args.op c.requires c.join.ensures c.planes.result c.planes.ensures _ refl c.side_walk-w.ensures c.side_walk-w.auto.out

pub returns : goal.returns
returns c = λ A B s a b w. c.put_out.ensures c.args.nodes.now s (merged_rows c.args.op c.requires c.join.ensures c.planes.result c.planes.ensures _ refl c.side_walk-w.ensures c.side_walk-w.auto.out a b w)

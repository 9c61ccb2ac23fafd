-- The measure of `node_walk` and `side_walk`: twice the row, a side above its node, A above B (proofs/Rank).
use Rattle.std.proofs.Common.{◌+◌, ◌*◌}
use Rattle.walks.proofs.Rank.{rank, base}
use Rattle.walks.proofs.+node_walk_side_walk.Given as goal

abbrev pub decreases-node_walk : goal.decreases-node_walk
decreases-node_walk l = base l.t.above + (l.row * 2 + 1)

abbrev pub decreases-side_walk : goal.decreases-side_walk
decreases-side_walk l = base l.t.above + rank l.code

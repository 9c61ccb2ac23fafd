-- The measure of `node_on` and `side_on`: twice the row, a side above its node, and the walks that are left (proofs/Turns).
use Rattle.std.proofs.Common.{◌+◌, ◌*◌}
use Rattle.walks.proofs.Rank.{rank}
use Rattle.borders.proofs.Turns.{left}
use Rattle.borders.proofs.sides.+node_on_side_on.Given as goal

abbrev pub decreases-node_on : goal.decreases-node_on
decreases-node_on l = left l.t + (l.row * 2 + 1)

abbrev pub decreases-side_on : goal.decreases-side_on
decreases-side_on l = left l.t + rank l.code

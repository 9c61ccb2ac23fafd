-- `borders::list_boundary` meets its contract. The invariant: the boundary planes among the first i are listed (proofs/Lists). The measure is what is left of the list. Assumes nothing.
use native.Mathlib.Omega.{arith}
use Rattle.borders.proofs.Lists.{listing_none, next_in, room_in, listing_hit, listing_miss, listing_all}
use Rattle.borders.proofs.list_boundary.Goals as goal
use Rattle.borders.proofs.list_boundary.Goals.{then-is_boundary, else-is_boundary}

pub loop-i-init : goal.loop-i-init
loop-i-init c = listing_none c.requires

pub is_boundary-requires : goal.is_boundary-requires
is_boundary-requires c = next_in c.requires c.loop-i.invariant c.loop-i-test.true

pub overflow_cast-boundary : goal.overflow_cast-boundary
overflow_cast-boundary c = omega (arith, (room_in c.requires c.loop-i.invariant c.loop-i-test.true).1)

pub bounds-boundary-k : goal.bounds-boundary-k
bounds-boundary-k c = (room_in c.requires c.loop-i.invariant c.loop-i-test.true).0

pub loop-i-preserved : goal.loop-i-preserved
loop-i-preserved c = elim c.if-is_boundary.branch [
  | then-is_boundary w ↦ listing_hit c.requires c.loop-i.invariant c.loop-i-test.true c.is_boundary.auto.path c.is_boundary.ensures w.if-is_boundary.true w.boundary-is w.k-is
  | else-is_boundary w ↦ listing_miss c.requires c.loop-i.invariant c.loop-i-test.true c.is_boundary.auto.path c.is_boundary.ensures w.if-is_boundary.false w.boundary-is w.k-is
]

pub returns : goal.returns
returns c = listing_all c.requires c.loop-i.invariant c.loop-i-test.false

-- `cuts::blocks::Block::between` meets its contract. Assumes nothing.
use Prim.Native.Nat.{◌+◌, ◌*◌}
use Rattle.std.proofs.Common.{rules, arith}
use Rattle.std.proofs.lemmas.Int.{ints}
use Rattle.cuts.proofs.blocks.Block.between.Goals as goal

pub overflow_sub-result : goal.overflow_sub-result
overflow_sub-result c =
    let h = c.args.self.now.sized (2 * c.args.axis + 1) (omega arith) in
    search rules

pub returns-then-v-self-gt0 : goal.returns-then-v-self-gt0
returns-then-v-self-gt0 c =
    let g = c.args.self.now.sized (2 * c.args.axis) (omega arith) in
    let h = c.args.self.now.sized (2 * c.args.axis + 1) (omega arith) in
    λ e. record { above = omega (arith, ints); under = omega (arith, ints) }

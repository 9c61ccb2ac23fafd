use Rattle.std.proofs.Common.{◌≡◌, ℕ, ◌<◌, length, get_or}
use Rattle.frames.specs.Bytes.{byte_of}
use Rattle.frames.proofs.characters.bytes.Given as goal

abbrev pub invariant-loop-k : goal.invariant-loop-k
invariant-loop-k g l = (length l.bytes ≡ g.row.N) × ((k : ℕ) → k < l.k → get_or l.bytes k 0 ≡ byte_of l.text l.at k)

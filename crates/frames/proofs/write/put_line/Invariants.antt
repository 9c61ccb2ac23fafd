use Rattle.std.proofs.Common.{◌≡◌, take}
use Rattle.std.proofs.lemmas.List.Edits.{sets}
use Rattle.scope.specs.Text.{hexes}
use Rattle.frames.proofs.write.put_line.Given as goal

abbrev pub invariant-loop-k : goal.invariant-loop-k
invariant-loop-k l = l.text ≡ sets l.fn.text l.at (hexes (take l.k l.bytes))

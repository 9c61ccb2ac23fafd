-- No second answer meets the promise of the public call: `judges_unique`, one answer and one work table.
use Rattle.std.specs.Prelude.{◌≡◌, List, ℕ, ℤ, Result}
use Rattle.std.proofs.Common.{sym, ◌∙◌}
use Rattle.tables.specs.Promises.{Judges}
use Rattle.tables.specs.declared.Solid.{Solid}

module _ {xs : List ℤ} {ns : List ℕ} {r : ℕ} {w u v : List ℤ} where
  pub judges_unique : {i j : Result Solid (ℕ × ℕ)} → Judges xs ns r w u i → Judges xs ns r w v j → (i ≡ j) × (u ≡ v)
  judges_unique h k = (h.exact ∙ sym k.exact, h.zeros ∙ sym k.zeros)

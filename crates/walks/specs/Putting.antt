-- The rows of a tree, put out in post-order.
--     Walked      what a walk answers: the code of its tree and how many rows stand, or the number of the refusal
--     Room        a table has room for n rows, and they are at most 1,000
--     Put         one row put out, or 8
--     Closed      the last step at a node: two equal marks join, else a row is put out
--     rows_flat   the rows of a tree from row n on, as they stand in a table, with the plane numbers of a list
--     Emitted     all rows of a tree put out, or 8
use Rattle.std.specs.Prelude.{◌≡◌, List, [], ◌∷◌, ℕ, suc, ◌+◌, ◌*◌, ◌≤◌, ◌<◌, length, Result, Ok, Err}
use Rattle.std.proofs.lemmas.List.Edits.{sets}
use Rattle.scope.specs.Planes.{Plane}
use Rattle.scope.specs.Solids.{Tree, rows, code, number, post, entries}
use Rattle.scope.specs.Answers.{flat_nodes}

abbrev pub Walked : Type 0
Walked = Result (ℕ × ℕ) ℕ

pub record Room (o : List ℕ) (n : ℕ) : Type 0 where
  pub rows : 3 * n ≤ length o
  pub few : n ≤ 1000

pub record Put (o₀ o₁ : List ℕ) (next n f b : ℕ) (r : Walked) : Type 0 where
  pub fits : Room o₀ (suc next) → (r ≡ Ok (next, suc next)) × (o₁ ≡ sets o₀ (3 * next) (n ∷ f ∷ b ∷ []))
  pub over : ¬ Room o₀ (suc next) → r ≡ Err 8

pub record Closed (o₀ o₁ : List ℕ) (next n f b : ℕ) (r : Walked) : Type 0 where
  pub same : f ≡ b → 65534 ≤ f → (r ≡ Ok (f, next)) × (o₁ ≡ o₀)
  pub row : (f ≡ b → f < 65534) → Put o₀ o₁ next n f b r

abbrev pub rows_flat : List Plane → ℕ → Tree → List ℕ
rows_flat J n t = flat_nodes (entries J (post n t))

pub record Emitted (J : List Plane) (o₀ o₁ : List ℕ) (next : ℕ) (t : Tree) (r : Walked) : Type 0 where
  pub fits : Room o₀ (next + rows t) → (r ≡ Ok (number (code next t), next + rows t)) × (o₁ ≡ sets o₀ (3 * next) (rows_flat J next t))
  pub over : ¬ Room o₀ (next + rows t) → r ≡ Err 8

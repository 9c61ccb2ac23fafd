-- What the theory asks of planes: none is nothing, and different ones are not multiples of one another, as rows of four numbers.
use Rattle.std.specs.Prelude.{List, ◌≢◌, pos, ◌-ℤ◌, ◌*ℤ◌}
use Rattle.whole.specs.Order.{◌⋖◌}
use Rattle.whole.specs.Members.{◌∈◌}
use Rattle.scope.specs.Planes.{Plane, at}

abbrev pub Nonzero : Plane → Type 0
Nonzero p = pos 0 ⋖ at p p

-- Gram's determinant is positive
abbrev pub Independent : Plane → Plane → Type 0
Independent p q = pos 0 ⋖ at p p *ℤ at q q -ℤ at p q *ℤ at p q

pub record General (ps : List Plane) : Type 0 where
  pub nonzero : (p : Plane) → p ∈ ps → Nonzero p
  pub apart : (p q : Plane) → p ∈ ps → q ∈ ps → p ≢ q → Independent p q

pub general_sub : (ps qs : List Plane) → General ps → ((q : Plane) → q ∈ qs → q ∈ ps) → General qs
general_sub ps qs g s = record { nonzero = λ p m. g.nonzero p (s p m); apart = λ p q m n. g.apart p q (s p m) (s q n) }

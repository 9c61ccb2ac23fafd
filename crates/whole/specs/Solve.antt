-- `solve`: an identity in numbers and vectors, from its two sides as expressions.
--     solve (nums 2) (λ a b. a ⊕ b ≐ b ⊕ a) tt : (a b : ℤ) → a +ℤ b ≡ b +ℤ a
-- An equation of vectors is `◌≐₃◌`.
use Rattle.std.specs.Prelude.{◌≡◌, Bool, ◌&&◌, T, List, [], ◌∷◌, ℕ, zero, suc, ◌+◌, ℤ}
use Rattle.whole.specs.Tests.{and3}
use Rattle.whole.specs.Expr.{Expr, v, ◌⊖◌, eval}
use Rattle.whole.specs.Ring.{vanishes, ring}
use Rattle.whole.specs.Vec.{V3, V4}

infix 5 ◌≐◌ ◌≐₃◌
pub data Eqn : Type 0 where
  ◌≐◌ : Expr → Expr → Eqn
  ◌≐₃◌ : V3 Expr → V3 Expr → Eqn

abbrev pub same : Eqn → Bool
same (l ≐ r) = vanishes (l ⊖ r)
same (l ≐₃ r) = vanishes (l.x ⊖ r.x) && (vanishes (l.y ⊖ r.y) && vanishes (l.z ⊖ r.z))

abbrev pub eval3 : List ℤ → V3 Expr → V3 ℤ
eval3 ρ p = record { x = eval ρ p.x; y = eval ρ p.y; z = eval ρ p.z }

abbrev pub Holds : List ℤ → Eqn → Type 0
Holds ρ (l ≐ r) = eval ρ l ≡ eval ρ r
Holds ρ (l ≐₃ r) = eval3 ρ l ≡ eval3 ρ r

holds : (ρ : List ℤ) (e : Eqn) → T (same e) → Holds ρ e
holds ρ (l ≐ r) h = ring ρ l r h
holds ρ (l ≐₃ r) h =
    let t = and3 (vanishes (l.x ⊖ r.x)) (vanishes (l.y ⊖ r.y)) (vanishes (l.z ⊖ r.z)) h in
    λ i. record { x = ring ρ l.x r.x t.0 i; y = ring ρ l.y r.y t.1 i; z = ring ρ l.z r.z t.2 i }

-- what an argument is
pub data Shape : Type 0 where
  num : Shape
  vec3 : Shape
  vec4 : Shape

-- n of one kind: `nums 2` is `num ∷ num ∷ []`
abbrev pub many : Shape → ℕ → List Shape
many s zero = []
many s (suc n) = s ∷ many s n

abbrev pub nums : ℕ → List Shape
nums n = many num n

abbrev pub vec3s : ℕ → List Shape
vec3s n = many vec3 n

abbrev pub vec4s : ℕ → List Shape
vec4s n = many vec4 n

abbrev pub Of : Type 0 → Shape → Type 0
Of A num = A
Of A vec3 = V3 A
Of A vec4 = V4 A

abbrev pub size : Shape → ℕ
size num = 1
size vec3 = 3
size vec4 = 4

abbrev pub sizes : List Shape → ℕ
sizes [] = 0
sizes (s ∷ ss) = size s + sizes ss

-- the argument whose last coordinate is the variable i
abbrev pub quoted : (s : Shape) → ℕ → Of Expr s
quoted num i = v i
quoted vec3 i = record { x = v (i + 2); y = v (i + 1); z = v i }
quoted vec4 i = record { x = v (i + 3); y = v (i + 2); z = v (i + 1); w = v i }

abbrev pub pushed : (s : Shape) → Of ℤ s → List ℤ → List ℤ
pushed num a ρ = a ∷ ρ
pushed vec3 p ρ = p.z ∷ p.y ∷ p.x ∷ ρ
pushed vec4 p ρ = p.w ∷ p.z ∷ p.y ∷ p.x ∷ ρ

abbrev pub Fun : List Shape → Type 0
Fun [] = Eqn
Fun (s ∷ ss) = Of Expr s → Fun ss

abbrev pub applied : (ss : List Shape) → Fun ss → Eqn
applied [] f = f
applied (s ∷ ss) f = applied ss (f (quoted s (sizes ss)))

abbrev pub All : List Shape → List ℤ → Eqn → Type 0
All [] ρ e = Holds ρ e
All (s ∷ ss) ρ e = (a : Of ℤ s) → All ss (pushed s a ρ) e

all : (ss : List Shape) (ρ : List ℤ) (e : Eqn) → T (same e) → All ss ρ e
all [] ρ e h = holds ρ e h
all (s ∷ ss) ρ e h = λ a. all ss (pushed s a ρ) e h

pub solve : (ss : List Shape) (f : Fun ss) → T (same (applied ss f)) → All ss [] (applied ss f)
solve ss f h = all ss [] (applied ss f) h

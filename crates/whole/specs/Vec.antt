-- Vectors of three and four coordinates, and their products and determinants, written once over any sum, difference and product (the names with ᴳ).
-- At ℤ they are the specification (`det3`), and at `Expr` what `solve` reads (`det3ᴱ`).
use Rattle.std.specs.Prelude.{ℤ, pos, ◌+ℤ◌, ◌-ℤ◌, ◌*ℤ◌}
use Rattle.whole.specs.Expr.{Expr, #, ◌⊕◌, ◌⊖◌, ◌⊗◌}

pub record V3 (A : Type 0) : Type 0 where
  pub x : A
  pub y : A
  pub z : A

pub record V4 (A : Type 0) : Type 0 where
  pub x : A
  pub y : A
  pub z : A
  pub w : A

-- a vector of four without one of its coordinates
module _ {A : Type 0} where
  abbrev pub yzw : V4 A → V3 A
  yzw p = record { x = p.y; y = p.z; z = p.w }

  abbrev pub xzw : V4 A → V3 A
  xzw p = record { x = p.x; y = p.z; z = p.w }

  abbrev pub xyw : V4 A → V3 A
  xyw p = record { x = p.x; y = p.y; z = p.w }

  abbrev pub xyz : V4 A → V3 A
  xyz p = record { x = p.x; y = p.y; z = p.z }

module _ {A : Type 0} (◌+◌ ◌-◌ ◌*◌ : A → A → A) where
  infixl 6 ◌+◌ ◌-◌
  infixl 7 ◌*◌
  abbrev pub add3ᴳ : V3 A → V3 A → V3 A
  add3ᴳ p q = record { x = p.x + q.x; y = p.y + q.y; z = p.z + q.z }

  abbrev pub sub3ᴳ : V3 A → V3 A → V3 A
  sub3ᴳ p q = record { x = p.x - q.x; y = p.y - q.y; z = p.z - q.z }

  abbrev pub scale3ᴳ : A → V3 A → V3 A
  scale3ᴳ k p = record { x = k * p.x; y = k * p.y; z = k * p.z }

  abbrev pub dot3ᴳ : V3 A → V3 A → A
  dot3ᴳ p q = p.x * q.x + p.y * q.y + p.z * q.z

  abbrev pub cross3ᴳ : V3 A → V3 A → V3 A
  cross3ᴳ p q = record { x = p.y * q.z - p.z * q.y; y = p.z * q.x - p.x * q.z; z = p.x * q.y - p.y * q.x }

  abbrev pub det3ᴳ : V3 A → V3 A → V3 A → A
  det3ᴳ p q r = p.x * (q.y * r.z - q.z * r.y) - p.y * (q.x * r.z - q.z * r.x) + p.z * (q.x * r.y - q.y * r.x)

  abbrev pub dot4ᴳ : V4 A → V4 A → A
  dot4ᴳ p q = p.x * q.x + p.y * q.y + p.z * q.z + p.w * q.w

  -- along the first row
  abbrev pub det4ᴳ : V4 A → V4 A → V4 A → V4 A → A
  det4ᴳ p q r s = p.x * det3ᴳ (yzw q) (yzw r) (yzw s) - p.y * det3ᴳ (xzw q) (xzw r) (xzw s) + p.z * det3ᴳ (xyw q) (xyw r) (xyw s) - p.w * det3ᴳ (xyz q) (xyz r) (xyz s)

  -- the meet of three vectors of four: each of them times it is 0 (o is 0)
  abbrev pub cross4ᴳ : A → V4 A → V4 A → V4 A → V4 A
  cross4ᴳ o p q r = record {
    x = o - det3ᴳ (yzw p) (yzw q) (yzw r);
    y = det3ᴳ (xzw p) (xzw q) (xzw r);
    z = o - det3ᴳ (xyw p) (xyw q) (xyw r);
    w = det3ᴳ (xyz p) (xyz q) (xyz r);
  }

-- ---- at ℤ

abbrev pub add3 : V3 ℤ → V3 ℤ → V3 ℤ
add3 = add3ᴳ ◌+ℤ◌ ◌-ℤ◌ ◌*ℤ◌

abbrev pub sub3 : V3 ℤ → V3 ℤ → V3 ℤ
sub3 = sub3ᴳ ◌+ℤ◌ ◌-ℤ◌ ◌*ℤ◌

abbrev pub scale3 : ℤ → V3 ℤ → V3 ℤ
scale3 = scale3ᴳ ◌+ℤ◌ ◌-ℤ◌ ◌*ℤ◌

abbrev pub dot3 : V3 ℤ → V3 ℤ → ℤ
dot3 = dot3ᴳ ◌+ℤ◌ ◌-ℤ◌ ◌*ℤ◌

abbrev pub cross3 : V3 ℤ → V3 ℤ → V3 ℤ
cross3 = cross3ᴳ ◌+ℤ◌ ◌-ℤ◌ ◌*ℤ◌

abbrev pub det3 : V3 ℤ → V3 ℤ → V3 ℤ → ℤ
det3 = det3ᴳ ◌+ℤ◌ ◌-ℤ◌ ◌*ℤ◌

abbrev pub dot4 : V4 ℤ → V4 ℤ → ℤ
dot4 = dot4ᴳ ◌+ℤ◌ ◌-ℤ◌ ◌*ℤ◌

abbrev pub det4 : V4 ℤ → V4 ℤ → V4 ℤ → V4 ℤ → ℤ
det4 = det4ᴳ ◌+ℤ◌ ◌-ℤ◌ ◌*ℤ◌

abbrev pub cross4 : V4 ℤ → V4 ℤ → V4 ℤ → V4 ℤ
cross4 = cross4ᴳ ◌+ℤ◌ ◌-ℤ◌ ◌*ℤ◌ (pos 0)

-- ---- at expressions

abbrev pub add3ᴱ : V3 Expr → V3 Expr → V3 Expr
add3ᴱ = add3ᴳ ◌⊕◌ ◌⊖◌ ◌⊗◌

abbrev pub sub3ᴱ : V3 Expr → V3 Expr → V3 Expr
sub3ᴱ = sub3ᴳ ◌⊕◌ ◌⊖◌ ◌⊗◌

abbrev pub scale3ᴱ : Expr → V3 Expr → V3 Expr
scale3ᴱ = scale3ᴳ ◌⊕◌ ◌⊖◌ ◌⊗◌

abbrev pub dot3ᴱ : V3 Expr → V3 Expr → Expr
dot3ᴱ = dot3ᴳ ◌⊕◌ ◌⊖◌ ◌⊗◌

abbrev pub cross3ᴱ : V3 Expr → V3 Expr → V3 Expr
cross3ᴱ = cross3ᴳ ◌⊕◌ ◌⊖◌ ◌⊗◌

abbrev pub det3ᴱ : V3 Expr → V3 Expr → V3 Expr → Expr
det3ᴱ = det3ᴳ ◌⊕◌ ◌⊖◌ ◌⊗◌

abbrev pub dot4ᴱ : V4 Expr → V4 Expr → Expr
dot4ᴱ = dot4ᴳ ◌⊕◌ ◌⊖◌ ◌⊗◌

abbrev pub det4ᴱ : V4 Expr → V4 Expr → V4 Expr → V4 Expr → Expr
det4ᴱ = det4ᴳ ◌⊕◌ ◌⊖◌ ◌⊗◌

abbrev pub cross4ᴱ : V4 Expr → V4 Expr → V4 Expr → V4 Expr
cross4ᴱ = cross4ᴳ ◌⊕◌ ◌⊖◌ ◌⊗◌ (# 0)

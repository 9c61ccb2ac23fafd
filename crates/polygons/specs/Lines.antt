-- The line of two planes.
--     LineOf      the six 2×2 minors of two planes
--     OnLineIn    what the code's meeting with a third plane is given: numbers that are small enough
--     mixture, MixedIn   a sum of three products
use Rattle.std.specs.Prelude.{◌≡◌, ℕ, ℤ, ◌+ℤ◌, ◌-ℤ◌, ◌*ℤ◌}
use Rattle.whole.specs.Bounds.{Within}
use Rattle.scope.specs.Limits.{most_abc, most_d}
use Rattle.scope.specs.Planes as scope
use Rattle.planes.specs.Bounds.{PlaneIn}
use Rattle.planes.specs.declared.Plane.{Plane}
use Rattle.polygons.specs.declared.Line.{Line}

pub record LineOf (p q : scope.Plane) (l : Line) : Type 0 where
  pub ab : l.ab ≡ scope.minor p.x p.y q.x q.y
  pub ac : l.ac ≡ scope.minor p.x p.z q.x q.z
  pub ad : l.ad ≡ scope.minor p.x p.w q.x q.w
  pub bc : l.bc ≡ scope.minor p.y p.z q.y q.z
  pub bd : l.bd ≡ scope.minor p.y p.w q.y q.w
  pub cd : l.cd ≡ scope.minor p.z p.w q.z q.w

-- minors of two planes in range
abbrev pub most_minor : ℕ
most_minor = 2000000

abbrev pub most_minor_d : ℕ
most_minor_d = 200000000000

pub record OnLineIn (l : Line) (r : Plane) : Type 0 where
  pub ab_in : Within l.ab most_minor
  pub ac_in : Within l.ac most_minor
  pub ad_in : Within l.ad most_minor_d
  pub bc_in : Within l.bc most_minor
  pub bd_in : Within l.bd most_minor_d
  pub cd_in : Within l.cd most_minor_d
  pub third : PlaneIn r.a r.b r.c r.d

-- ---- three products

abbrev pub mixture : ℤ → ℤ → ℤ → ℤ → ℤ → ℤ → ℤ
mixture u a v b w c = u *ℤ a -ℤ v *ℤ b +ℤ w *ℤ c

pub record MixedIn (u a v b w c : ℤ) : Type 0 where
  pub u_in : Within u most_minor
  pub a_in : Within a most_d
  pub v_in : Within v most_minor_d
  pub b_in : Within b most_abc
  pub w_in : Within w most_minor_d
  pub c_in : Within c most_abc

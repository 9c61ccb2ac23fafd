-- What a bound puts out, sides and ways: what the code's stand for, and back.
use mathlib.Core.Path.{◌≡◌, refl, sym, ap, ◌∙◌}
use mathlib.Core.Bool.{Bool, true, false}
use Prim.Native.Nat.{ℕ, ◌+◌, ◌≤◌, ◌<◌}
use native.Mathlib.Omega.{arith}
use lib.Dec.{leb}
use lib.IntN.{ℤ, pos, negsuc, nat_abs}
use borrow.Author.Tests.{le-leb, lt-leb}
use Rattle.whole.specs.Tests.{◌and◌}
use Rattle.whole.specs.Sign.{Sign, minus, nought, plus}
use Rattle.scope.specs.Planes.{Plane}
use Rattle.scope.specs.Section as scope
use Rattle.planes.specs.Values.{side_is, side_sign}
use Rattle.polygons.specs.declared.Signal.{Signal}
use Rattle.polygons.specs.Values.{signal_is, signal_of, way_code, way_of, way_from}

-- ---- signals

-- what the code says is what the signal is
pub signal_back : (s : scope.Signal) → signal_of (signal_is s) ≡ s
unfolding signal_of
signal_back scope.nothing = refl
signal_back scope.B = refl
signal_back scope.HB = refl

pub signal_from : {g : Signal} (s : scope.Signal) → g ≡ signal_is s → signal_of g ≡ s
signal_from s e = ap signal_of e ∙ signal_back s

-- ---- sides

pub sign_back : (g : Sign) → side_sign (side_is g) ≡ g
sign_back minus = refl
sign_back nought = refl
sign_back plus = refl

-- ---- ways

pub way_back : (w : scope.Way) → way_of (way_code w) ≡ w
unfolding way_of
way_back scope.along_x = refl
way_back scope.against_x = refl
way_back scope.along_y = refl
way_back scope.against_y = refl
way_back scope.along_z = refl
way_back scope.against_z = refl

pub way_small : (w : scope.Way) → way_code w < 6
way_small scope.along_x = omega arith
way_small scope.against_x = omega arith
way_small scope.along_y = omega arith
way_small scope.against_y = omega arith
way_small scope.along_z = omega arith
way_small scope.against_z = omega arith

way_code_sign : (z : ℤ) (w : ℕ) (p m : scope.Way) → way_code p ≡ w → way_code m ≡ w + 1 → way_from z w ≡ way_code (scope.by_sign z p m)
way_code_sign (pos n) w p m e f = sym e
way_code_sign (negsuc n) w p m e f = sym f

-- the three ways out of the code's tests
module _ (s : Plane) where
  pub way_x : (leb (nat_abs s.y) (nat_abs s.x) and leb (nat_abs s.z) (nat_abs s.x)) ≡ true → way_from s.x 0 ≡ way_code (scope.way s)
  way_x e = rw e (way_code_sign s.x 0 scope.along_x scope.against_x refl refl)

  module _ (e : (leb (nat_abs s.y) (nat_abs s.x) and leb (nat_abs s.z) (nat_abs s.x)) ≡ false) where
    pub way_y : leb (nat_abs s.z) (nat_abs s.y) ≡ true → way_from s.y 2 ≡ way_code (scope.way s)
    way_y f = rw (e, f) (way_code_sign s.y 2 scope.along_y scope.against_y refl refl)

    pub way_z : leb (nat_abs s.z) (nat_abs s.y) ≡ false → way_from s.z 4 ≡ way_code (scope.way s)
    way_z f = rw (e, f) (way_code_sign s.z 4 scope.along_z scope.against_z refl refl)

-- ---- the way, from the code's tests

-- the sizes x, y, z of the coefficients, and the first test g
module _ (s : Plane) {x y z : ℕ} (a : x ≡ nat_abs s.x) (b : y ≡ nat_abs s.y) (c : z ≡ nat_abs s.z) {g : Bool} (e : g ≡ (leb y x and leb z x)) where
  tested : g ≡ (leb (nat_abs s.y) (nat_abs s.x) and leb (nat_abs s.z) (nat_abs s.x))
  tested = e ∙ (λ t. leb (b t) (a t) and leb (c t) (a t))

  pub way_first : g ≡ true → {r : ℕ} → r ≡ way_from s.x 0 → r ≡ way_code (scope.way s)
  way_first h p = p ∙ way_x s (sym tested ∙ h)

  pub way_second : g ≡ false → z ≤ y → {r : ℕ} → r ≡ way_from s.y 2 → r ≡ way_code (scope.way s)
  way_second h l p = p ∙ way_y s (sym tested ∙ h) ((λ t. leb (sym c t) (sym b t)) ∙ le-leb z y l)

  pub way_third : g ≡ false → y < z → {r : ℕ} → r ≡ way_from s.z 4 → r ≡ way_code (scope.way s)
  way_third h l p = p ∙ way_z s (sym tested ∙ h) ((λ t. leb (sym c t) (sym b t)) ∙ lt-leb z y l)

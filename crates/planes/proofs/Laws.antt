-- Laws of the values that the code hands about. A number that is handed to a function or kept in a local is read back from its bits, `k z`: what the sums are given, and what they come to, do not see that.
use mathlib.Core.Path.{◌≡◌, refl, sym, ap, ◌∙◌}
use mathlib.Core.Bool.{true, false}
use mathlib.Core.List.{[], ◌∷◌}
use Prim.Native.Nat.{zero, suc}
use native.Mathlib.Omega.{arith}
use lib.Dec.{eqb}
use lib.IntN.{ℤ, pos, negsuc, ◌-ℤ◌}
use mir.Syntax.{w64}
use mir.Val.{SFits, to_z, of_z}
use mir.Facts.{to_z-of_z}
use Rattle.whole.specs.Tests.{differ, eq_false}
use Rattle.whole.specs.Expr.{con, v, ◌⊖◌}
use Rattle.whole.specs.Bounds.{Within, w_up}
use Rattle.whole.specs.Code.{arg, in64, code_fits, code_is}
use Rattle.whole.specs.Vec.{det3}
use Rattle.whole.specs.Sign.{Sign, minus, nought, plus, ◌·◌}
use Rattle.scope.specs.Planes as scope
use Rattle.planes.specs.Values.{triple, quad, side_is, side_sign, side_times}
use Rattle.planes.specs.Bounds.{PlaneIn, PointIn, SumIn, RowsIn, MinorIn, MeetingIn, rows_bound}
use Rattle.planes.specs.declared.Plane.{Plane}
use Rattle.planes.specs.declared.Side.{Side}

-- a number, read back from its bits
abbrev pub k : ℤ → ℤ
k z = to_z w64 (of_z w64 z)

-- ---- signs as sides

pub times_is : (s t : Sign) → side_times (side_is s) (side_is t) ≡ side_is (s · t)
times_is plus t = refl
times_is nought t = refl
times_is minus plus = refl
times_is minus nought = refl
times_is minus minus = refl

pub sign_back : (s : Sign) → side_sign (side_is s) ≡ s
sign_back plus = refl
sign_back nought = refl
sign_back minus = refl

-- a sign, from the side that it is
pub sign_from : (s : Sign) {r t : Side} → r ≡ side_is s → r ≡ t → s ≡ side_sign t
sign_from s e f = sym (sign_back s) ∙ ap side_sign (sym e ∙ f)

-- ---- zero

pub zero_yes : {z : ℤ} → z ≡ pos 0 → scope.is_zero z ≡ true
zero_yes e = rw e

pub zero_no : (z : ℤ) → (z ≡ pos 0 → ⊥) → scope.is_zero z ≡ false
zero_no (pos zero) h = absurd (h refl)
zero_no (pos (suc n)) h = refl
zero_no (negsuc n) h = refl

-- the code's test of it, on the bits
pub bits_zero : (z : ℤ) → SFits w64 z → of_z w64 z ≡ 0 → z ≡ pos 0
bits_zero z h e = sym (to_z-of_z h) ∙ ap (to_z w64) e

pub zero_test : (z : ℤ) → SFits w64 z → eqb (of_z w64 z) 0 ≡ scope.is_zero z
zero_test (pos zero) h = refl
zero_test (pos (suc n)) h = eq_false (of_z w64 (pos (suc n))) 0 (λ e. let f : pos (suc n) ≡ pos 0 = bits_zero (pos (suc n)) h e in let g : suc n ≡ 0 = cc in omega arith)
zero_test (negsuc n) h = eq_false (of_z w64 (negsuc n)) 0 (λ e. let f : negsuc n ≡ pos 0 = bits_zero (negsuc n) h e in differ (cc))

-- ---- the sum

module _ {a b c d x y z w : ℤ} where
  pub sum_in : PlaneIn a b c d → PointIn x y z w → SumIn a b c d x y z w
  sum_in h i = record { a_in = h.a_in; b_in = h.b_in; c_in = h.c_in; d_in = h.d_in; x_in = w_up i.x_in tt; y_in = w_up i.y_in tt; z_in = w_up i.z_in tt; w_in = w_up i.w_in tt }

  pub sum_in_meeting : PlaneIn a b c d → MeetingIn (quad x y z w) → SumIn a b c d x y z w
  sum_in_meeting h i = record { a_in = h.a_in; b_in = h.b_in; c_in = h.c_in; d_in = h.d_in; x_in = w_up i.x_in tt; y_in = w_up i.y_in tt; z_in = w_up i.z_in tt; w_in = w_up i.w_in tt }

-- ---- determinants

module _ {a1 a2 a3 b1 b2 b3 c1 c2 c3 : ℤ} (h : RowsIn a1 a2 a3 b1 b2 b3 c1 c2 c3) where
  rows_kept : det3 (triple (k a1) (k a2) (k a3)) (triple (k b1) (k b2) (k b3)) (triple (k c1) (k c2) (k c3)) ≡ det3 (triple a1 a2 a3) (triple b1 b2 b3) (triple c1 c2 c3)
  rows_kept = cc (in64 h.a1_in tt, in64 h.a2_in tt, in64 h.a3_in tt, in64 h.b1_in tt, in64 h.b2_in tt, in64 h.b3_in tt, in64 h.c1_in tt, in64 h.c2_in tt, in64 h.c3_in tt)

  module _ {r : ℤ} (e : r ≡ det3 (triple (k a1) (k a2) (k a3)) (triple (k b1) (k b2) (k b3)) (triple (k c1) (k c2) (k c3))) where
    det_is : r ≡ det3 (triple a1 a2 a3) (triple b1 b2 b3) (triple c1 c2 c3)
    det_is = e ∙ rows_kept

    det_in : Within r 600000000000000
    det_in = rw det_is (rows_bound h)

    -- handed on, and turned
    pub det_kept : k r ≡ det3 (triple a1 a2 a3) (triple b1 b2 b3) (triple c1 c2 c3)
    det_kept = in64 det_in tt ∙ det_is

    pub det_turned_fits : SFits w64 (pos 0 -ℤ k r)
    det_turned_fits = code_fits (arg det_in ∷ []) (con (pos 0) ⊖ v 0) tt

    pub det_turned : k (pos 0 -ℤ k r) ≡ pos 0 -ℤ det3 (triple a1 a2 a3) (triple b1 b2 b3) (triple c1 c2 c3)
    det_turned = code_is (arg det_in ∷ []) (con (pos 0) ⊖ v 0) tt ∙ ap (λ t. pos 0 -ℤ t) det_is

-- ---- 2×2 minors

module _ {a b c d : ℤ} (h : MinorIn a b c d) where
  pub minor_kept_in : MinorIn (k a) (k b) (k c) (k d)
  minor_kept_in = rw (in64 h.a_in tt, in64 h.b_in tt, in64 h.c_in tt, in64 h.d_in tt) h

  pub minor_kept : scope.minor (k a) (k b) (k c) (k d) ≡ scope.minor a b c d
  minor_kept = cc (in64 h.a_in tt, in64 h.b_in tt, in64 h.c_in tt, in64 h.d_in tt)

-- the six of two planes
module _ {p q : Plane} (h : PlaneIn p.a p.b p.c p.d) (i : PlaneIn q.a q.b q.c q.d) where
  pub minor_ab : MinorIn p.a p.b q.a q.b
  minor_ab = record { a_in = h.a_in; b_in = w_up h.b_in tt; c_in = i.a_in; d_in = w_up i.b_in tt }

  pub minor_ac : MinorIn p.a p.c q.a q.c
  minor_ac = record { a_in = h.a_in; b_in = w_up h.c_in tt; c_in = i.a_in; d_in = w_up i.c_in tt }

  pub minor_ad : MinorIn p.a p.d q.a q.d
  minor_ad = record { a_in = h.a_in; b_in = h.d_in; c_in = i.a_in; d_in = i.d_in }

  pub minor_bc : MinorIn p.b p.c q.b q.c
  minor_bc = record { a_in = h.b_in; b_in = w_up h.c_in tt; c_in = i.b_in; d_in = w_up i.c_in tt }

  pub minor_bd : MinorIn p.b p.d q.b q.d
  minor_bd = record { a_in = h.b_in; b_in = h.d_in; c_in = i.b_in; d_in = i.d_in }

  pub minor_cd : MinorIn p.c p.d q.c q.d
  minor_cd = record { a_in = h.c_in; b_in = h.d_in; c_in = i.c_in; d_in = i.d_in }

-- ---- four numbers that were read back

module _ {a b c d : ℤ} (f : SFits w64 a) (g : SFits w64 b) (h : SFits w64 c) (i : SFits w64 d) where
  pub quad_kept : quad (k a) (k b) (k c) (k d) ≡ quad a b c d
  quad_kept = cc (to_z-of_z f, to_z-of_z g, to_z-of_z h, to_z-of_z i)

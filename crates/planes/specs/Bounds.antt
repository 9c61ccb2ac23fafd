-- The numbers that the sums are given, each with the largest size that it may have; and document 01's bounds of what they come to (N.13, N.15).
--     PlaneIn, TwoIn, ThreeIn         the limits of a plane, and of two and three
--     PointIn, AxisIn                 those of a point given to a call, and of one of its coordinates
--     SumIn, RowsIn, MinorIn          what the code's sum, 3×3 determinant and 2×2 minor are given
--     in_range_in, point_range_in     the limits, from the tests of document 01
--     sum_bound, rows_bound, minor_bound   what they come to at most: 7.2·10^18, 6·10^14, 2·10^11
--     side_bound                      at the limits the sum of a side is at most 4·10^18
--     normals_bound, meeting_bound    the determinant of three normals is at most 6·10^9, the point's other numbers at most 6·10^14
--     four_bound                      the 4×4 determinant is at most 2.4·10^18
use Rattle.std.specs.Prelude.{◌≡◌, true, [], ◌∷◌, ℕ, leb, ℤ, pos, nat_abs, ◌-ℤ◌}
use Rattle.std.specs.Int.Signed.{lt_z}
use Rattle.std.proofs.Common.{leb-true}
use Rattle.whole.specs.Tests.{and_true}
use Rattle.whole.specs.Expr.{Expr, v, con, ◌⊖◌, ◌⊗◌}
use Rattle.whole.specs.Bounds.{Within, w_up}
use Rattle.whole.specs.Code.{local, value_within}
use Rattle.whole.specs.Vec.{V4, det3, dot4, det4, cross4, det3ᴱ, dot4ᴱ}
use Rattle.whole.specs.Identities.{det4_last}
use Rattle.scope.specs.Limits.{most_abc, most_d, most_xyz, most_w}
use Rattle.scope.specs.Planes.{at, meet, minor, in_range, point_in_range}
use Rattle.planes.specs.Values.{triple, quad}
use Rattle.planes.specs.declared.Plane.{Plane}

-- ---- what is given

-- a, b, c at most 1,000 and d at most 100,000,000
pub record PlaneIn (a b c d : ℤ) : Type 0 where
  pub a_in : Within a most_abc
  pub b_in : Within b most_abc
  pub c_in : Within c most_abc
  pub d_in : Within d most_d

-- two planes, and three
pub record TwoIn (p q : Plane) : Type 0 where
  pub first : PlaneIn p.a p.b p.c p.d
  pub second : PlaneIn q.a q.b q.c q.d

pub record ThreeIn (p q r : Plane) : Type 0 where
  pub first : PlaneIn p.a p.b p.c p.d
  pub second : PlaneIn q.a q.b q.c q.d
  pub third : PlaneIn r.a r.b r.c r.d

-- x, y, z at most 10^15 and w at most 10^10
pub record PointIn (x y z w : ℤ) : Type 0 where
  pub x_in : Within x most_xyz
  pub y_in : Within y most_xyz
  pub z_in : Within z most_xyz
  pub w_in : Within w most_w

-- a coordinate of a point, and its w
pub record AxisIn (x w : ℤ) : Type 0 where
  pub x_in : Within x most_xyz
  pub w_in : Within w most_w

-- a plane, and a point of up to 1.8 times the limits
pub record SumIn (a b c d x y z w : ℤ) : Type 0 where
  pub a_in : Within a most_abc
  pub b_in : Within b most_abc
  pub c_in : Within c most_abc
  pub d_in : Within d most_d
  pub x_in : Within x 1800000000000000
  pub y_in : Within y 1800000000000000
  pub z_in : Within z 1800000000000000
  pub w_in : Within w 18000000000

-- three rows of a normal's numbers, or of two of them and d
pub record RowsIn (a1 a2 a3 b1 b2 b3 c1 c2 c3 : ℤ) : Type 0 where
  pub a1_in : Within a1 most_abc
  pub a2_in : Within a2 most_abc
  pub a3_in : Within a3 most_d
  pub b1_in : Within b1 most_abc
  pub b2_in : Within b2 most_abc
  pub b3_in : Within b3 most_d
  pub c1_in : Within c1 most_abc
  pub c2_in : Within c2 most_abc
  pub c3_in : Within c3 most_d

-- two rows of a number of a normal's, and another or d
pub record MinorIn (a b c d : ℤ) : Type 0 where
  pub a_in : Within a most_abc
  pub b_in : Within b most_d
  pub c_in : Within c most_abc
  pub d_in : Within d most_d

-- ---- the limits, from the tests

within_of : {z : ℤ} {B : ℕ} → leb (nat_abs z) B ≡ true → Within z B
within_of {z} {B} e = record { within = leb-true (nat_abs z) B e }

module _ {a b c d : ℤ} (e : in_range (quad a b c d) ≡ true) where
  pub in_range_in : PlaneIn a b c d
  unfolding in_range
  in_range_in =
      let p = and_true _ _ e in
      let q = and_true _ _ p.1 in
      let r = and_true _ _ q.1 in
      record { a_in = within_of p.0; b_in = within_of q.0; c_in = within_of r.0; d_in = within_of r.1 }

module _ {x y z w : ℤ} (e : point_in_range (quad x y z w) ≡ true) where
  pub point_range_in : PointIn x y z w
  unfolding point_in_range
  point_range_in =
      let p = and_true _ _ e in
      let q = and_true _ _ p.1 in
      let r = and_true _ _ q.1 in
      let s = and_true (lt_z (pos 0) w) (leb (nat_abs w) most_w) r.1 in
      record { x_in = within_of p.0; y_in = within_of q.0; z_in = within_of r.0; w_in = within_of s.1 }

-- ---- what the sums come to

-- the expression's variables are the entries, in order
abbrev sum : Expr
sum = dot4ᴱ (record { x = v 0; y = v 1; z = v 2; w = v 3 }) (record { x = v 4; y = v 5; z = v 6; w = v 7 })

abbrev rows : Expr
rows = det3ᴱ (record { x = v 0; y = v 1; z = v 2 }) (record { x = v 3; y = v 4; z = v 5 }) (record { x = v 6; y = v 7; z = v 8 })

module _ {a b c d x y z w : ℤ} (h : SumIn a b c d x y z w) where
  pub sum_bound : Within (dot4 (quad a b c d) (quad x y z w)) 7200000000000000000
  sum_bound = value_within (local h.a_in ∷ local h.b_in ∷ local h.c_in ∷ local h.d_in ∷ local h.x_in ∷ local h.y_in ∷ local h.z_in ∷ local h.w_in ∷ []) sum

module _ {a b c d x y z w : ℤ} (h : PlaneIn a b c d) (k : PointIn x y z w) where
  -- N.13
  pub side_bound : Within (at (quad a b c d) (quad x y z w)) 4000000000000000000
  unfolding at
  side_bound = value_within (local h.a_in ∷ local h.b_in ∷ local h.c_in ∷ local h.d_in ∷ local k.x_in ∷ local k.y_in ∷ local k.z_in ∷ local k.w_in ∷ []) sum

module _ {a1 a2 a3 b1 b2 b3 c1 c2 c3 : ℤ} (h : RowsIn a1 a2 a3 b1 b2 b3 c1 c2 c3) where
  pub rows_bound : Within (det3 (triple a1 a2 a3) (triple b1 b2 b3) (triple c1 c2 c3)) 600000000000000
  rows_bound =
      value_within (local h.a1_in ∷ local h.a2_in ∷ local h.a3_in ∷ local h.b1_in ∷ local h.b2_in ∷ local h.b3_in ∷ local h.c1_in ∷ local h.c2_in ∷ local h.c3_in ∷ []) rows

module _ {a b c d : ℤ} (h : MinorIn a b c d) where
  pub minor_bound : Within (minor a b c d) 200000000000
  minor_bound = value_within (local h.a_in ∷ local h.b_in ∷ local h.c_in ∷ local h.d_in ∷ []) (v 0 ⊗ v 3 ⊖ v 1 ⊗ v 2)

-- three planes (N.15)
module _ {a1 b1 c1 d1 a2 b2 c2 d2 a3 b3 c3 d3 : ℤ} (h : PlaneIn a1 b1 c1 d1) (i : PlaneIn a2 b2 c2 d2) (j : PlaneIn a3 b3 c3 d3) where
  -- the rows of the four minors: without a, without b, without c, and the normals
  pub rows_bcd : RowsIn b1 c1 d1 b2 c2 d2 b3 c3 d3
  rows_bcd = record { a1_in = h.b_in; a2_in = h.c_in; a3_in = h.d_in; b1_in = i.b_in; b2_in = i.c_in; b3_in = i.d_in; c1_in = j.b_in; c2_in = j.c_in; c3_in = j.d_in }

  pub rows_acd : RowsIn a1 c1 d1 a2 c2 d2 a3 c3 d3
  rows_acd = record { a1_in = h.a_in; a2_in = h.c_in; a3_in = h.d_in; b1_in = i.a_in; b2_in = i.c_in; b3_in = i.d_in; c1_in = j.a_in; c2_in = j.c_in; c3_in = j.d_in }

  pub rows_abd : RowsIn a1 b1 d1 a2 b2 d2 a3 b3 d3
  rows_abd = record { a1_in = h.a_in; a2_in = h.b_in; a3_in = h.d_in; b1_in = i.a_in; b2_in = i.b_in; b3_in = i.d_in; c1_in = j.a_in; c2_in = j.b_in; c3_in = j.d_in }

  pub rows_abc : RowsIn a1 b1 c1 a2 b2 c2 a3 b3 c3
  rows_abc = record { a1_in = h.a_in; a2_in = h.b_in; a3_in = w_up h.c_in tt; b1_in = i.a_in; b2_in = i.b_in; b3_in = w_up i.c_in tt; c1_in = j.a_in; c2_in = j.b_in; c3_in = w_up j.c_in tt }

  pub normals_bound : Within (det3 (triple a1 b1 c1) (triple a2 b2 c2) (triple a3 b3 c3)) 6000000000
  normals_bound =
      value_within (local h.a_in ∷ local h.b_in ∷ local h.c_in ∷ local i.a_in ∷ local i.b_in ∷ local i.c_in ∷ local j.a_in ∷ local j.b_in ∷ local j.c_in ∷ []) rows

-- the point's numbers
pub record MeetingIn (X : V4 ℤ) : Type 0 where
  pub x_in : Within X.x 600000000000000
  pub y_in : Within X.y 600000000000000
  pub z_in : Within X.z 600000000000000
  pub w_in : Within X.w 6000000000

turned : {z : ℤ} → Within z 600000000000000 → Within (pos 0 -ℤ z) 600000000000000
turned h = value_within (local h ∷ []) (con (pos 0) ⊖ v 0)

module _ {a1 b1 c1 d1 a2 b2 c2 d2 a3 b3 c3 d3 : ℤ} (h : PlaneIn a1 b1 c1 d1) (i : PlaneIn a2 b2 c2 d2) (j : PlaneIn a3 b3 c3 d3) where
  pub meeting_bound : MeetingIn (meet (quad a1 b1 c1 d1) (quad a2 b2 c2 d2) (quad a3 b3 c3 d3))
  unfolding meet
  meeting_bound = record {
    x_in = turned (rows_bound (rows_bcd h i j));
    y_in = rows_bound (rows_acd h i j);
    z_in = turned (rows_bound (rows_abd h i j));
    w_in = normals_bound h i j;
  }

module _ {a b c d : ℤ} (h : PlaneIn a b c d) (X : V4 ℤ) (k : MeetingIn X) where
  at_meeting_bound : Within (dot4 (quad a b c d) X) 2400000000000000000
  at_meeting_bound = value_within (local h.a_in ∷ local h.b_in ∷ local h.c_in ∷ local h.d_in ∷ local k.x_in ∷ local k.y_in ∷ local k.z_in ∷ local k.w_in ∷ []) sum

module _ {a1 b1 c1 d1 a2 b2 c2 d2 a3 b3 c3 d3 a b c d : ℤ} (h : PlaneIn a1 b1 c1 d1) (i : PlaneIn a2 b2 c2 d2) (j : PlaneIn a3 b3 c3 d3) (l : PlaneIn a b c d) where
  pub four_bound : Within (det4 (quad a1 b1 c1 d1) (quad a2 b2 c2 d2) (quad a3 b3 c3 d3) (quad a b c d)) 2400000000000000000
  unfolding meet
  four_bound = rw det4_last (at_meeting_bound l (cross4 (quad a1 b1 c1 d1) (quad a2 b2 c2 d2) (quad a3 b3 c3 d3)) (meeting_bound h i j))

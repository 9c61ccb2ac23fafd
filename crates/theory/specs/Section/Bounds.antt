-- Sizes of the numbers of a section, for planes in range: what an i64 must hold.
--     Sized             x, y and z of size at most A, and w at most B
--     meet_bounds       the point on three planes: 6·10^14 and 6·10^9
--     det4_bounds       the 4×4 determinant: 2.4·10^18
--     side_bounds       a plane at a point in range: 4·10^18
--     witness_bounds    the witness of bounds in range: 1.8·10^15 and 1.8·10^10
use Rattle.std.specs.Prelude.{List, ℕ, ◌+◌, ◌*◌, T, leb, ℤ, pos, nat_abs}
use Rattle.std.proofs.Common.{leb→le}
use Rattle.std.specs.Int.Signed.{lt_z}
use Rattle.whole.specs.Tests.{and_split}
use Rattle.whole.specs.Vec.{V3, V4, yzw, xzw, xyw, xyz, dot4, det3, det4}
use Rattle.whole.specs.Bounds.{Within, w_self, w_add, w_sub, w_mul, w_up}
use Rattle.whole.specs.Identities.{det4_last}
use Rattle.whole.specs.Lists.{Each.none, Each.◌and◌, Each, each_final}
use Rattle.whole.specs.Members.{◌∈◌, in_each}
use Rattle.scope.specs.Limits.{most_abc, most_d, most_xyz, most_w}
use Rattle.scope.specs.Planes.{Plane, Point, at, meet, in_range, point_in_range}
use Rattle.theory.specs.Section.Witness.{added, witness}

pub record Sized (X : V4 ℤ) (A B : ℕ) : Type 0 where
  pub x_size : Within X.x A
  pub y_size : Within X.y A
  pub z_size : Within X.z A
  pub w_size : Within X.w B

of_leb : {z : ℤ} {B : ℕ} → T (leb (nat_abs z) B) → Within z B
of_leb {z} {B} t = record { within = leb→le (nat_abs z) B t }

sized_up : {X : V4 ℤ} {A B A' B' : ℕ} → Sized X A B → T (leb A A') → T (leb B B') → Sized X A' B'
sized_up s t u = record { x_size = w_up s.x_size t; y_size = w_up s.y_size t; z_size = w_up s.z_size t; w_size = w_up s.w_size u }

-- ---- what is in range

pub plane_sized : (p : Plane) → T (in_range p) → Sized p most_abc most_d
unfolding in_range
plane_sized p t =
    let a = and_split (leb (nat_abs p.x) most_abc) _ t in
    let b = and_split (leb (nat_abs p.y) most_abc) _ a.1 in
    let c = and_split (leb (nat_abs p.z) most_abc) (leb (nat_abs p.w) most_d) b.1 in
    record { x_size = of_leb a.0; y_size = of_leb b.0; z_size = of_leb c.0; w_size = of_leb c.1 }

pub point_sized : (X : Point) → T (point_in_range X) → Sized X most_xyz most_w
unfolding point_in_range
point_sized X t =
    let a = and_split (leb (nat_abs X.x) most_xyz) _ t in
    let b = and_split (leb (nat_abs X.y) most_xyz) _ a.1 in
    let c = and_split (leb (nat_abs X.z) most_xyz) _ b.1 in
    let d = and_split (lt_z (pos 0) X.w) (leb (nat_abs X.w) most_w) c.1 in
    record { x_size = of_leb a.0; y_size = of_leb b.0; z_size = of_leb c.0; w_size = of_leb d.1 }

-- ---- sums of products

dot4_bounds : {p q : V4 ℤ} {A B C D : ℕ} → Sized p A B → Sized q C D → Within (dot4 p q) (A * C + A * C + A * C + B * D)
dot4_bounds s t = w_add (w_add (w_add (w_mul s.x_size t.x_size) (w_mul s.y_size t.y_size)) (w_mul s.z_size t.z_size)) (w_mul s.w_size t.w_size)

-- the first two of each row at most A, the last at most B
record Rowed (p : V3 ℤ) (A B : ℕ) : Type 0 where
  first : Within p.x A
  second : Within p.y A
  third : Within p.z B

det3_bounds : {p q r : V3 ℤ} {A B : ℕ} → Rowed p A B → Rowed q A B → Rowed r A B → Within (det3 p q r) (A * (A * B + B * A) + A * (A * B + B * A) + B * (A * A + A * A))
det3_bounds p q r = w_add
    (w_sub (w_mul p.first (w_sub (w_mul q.second r.third) (w_mul q.third r.second))) (w_mul p.second (w_sub (w_mul q.first r.third) (w_mul q.third r.first))))
    (w_mul p.third (w_sub (w_mul q.first r.second) (w_mul q.second r.first)))

-- ---- three planes, and four

module _ {p : Plane} (s : Sized p most_abc most_d) where
  in_yzw : Rowed (yzw p) most_abc most_d
  in_yzw = record { first = s.y_size; second = s.z_size; third = s.w_size }

  in_xzw : Rowed (xzw p) most_abc most_d
  in_xzw = record { first = s.x_size; second = s.z_size; third = s.w_size }

  in_xyw : Rowed (xyw p) most_abc most_d
  in_xyw = record { first = s.x_size; second = s.y_size; third = s.w_size }

  in_xyz : Rowed (xyz p) most_abc most_abc
  in_xyz = record { first = s.x_size; second = s.y_size; third = s.z_size }

meet_sized : {p q r : Plane} → Sized p most_abc most_d → Sized q most_abc most_d → Sized r most_abc most_d → Sized (meet p q r) 600000000000000 6000000000
unfolding meet
meet_sized i j k = record {
  x_size = w_up (w_sub (w_self (pos 0)) (det3_bounds (in_yzw i) (in_yzw j) (in_yzw k))) tt;
  y_size = w_up (det3_bounds (in_xzw i) (in_xzw j) (in_xzw k)) tt;
  z_size = w_up (w_sub (w_self (pos 0)) (det3_bounds (in_xyw i) (in_xyw j) (in_xyw k))) tt;
  w_size = w_up (det3_bounds (in_xyz i) (in_xyz j) (in_xyz k)) tt;
}

module _ (p q r : Plane) (i : T (in_range p)) (j : T (in_range q)) (k : T (in_range r)) where
  pub meet_bounds : Sized (meet p q r) 600000000000000 6000000000
  meet_bounds = meet_sized (plane_sized p i) (plane_sized q j) (plane_sized r k)

  pub det4_bounds : (h : Plane) → T (in_range h) → Within (det4 p q r h) 2400000000000000000
  unfolding meet
  det4_bounds h l = rw (det4_last p q r h) (w_up (dot4_bounds (plane_sized h l) meet_bounds) tt)

pub side_bounds : (p : Plane) (X : Point) → T (in_range p) → T (point_in_range X) → Within (at p X) 4000000000000000000
unfolding at
side_bounds p X i j = w_up (dot4_bounds (plane_sized p i) (point_sized X j)) tt

-- ---- the witness

added_sized : {X Y Z : Point} {A B : ℕ} → Sized X A B → Sized Y A B → Sized Z A B → Sized (added X Y Z) (A + A + A) (B + B + B)
added_sized i j k = record {
  x_size = w_add (w_add i.x_size j.x_size) k.x_size;
  y_size = w_add (w_add i.y_size j.y_size) k.y_size;
  z_size = w_add (w_add i.z_size j.z_size) k.z_size;
  w_size = w_add (w_add i.w_size j.w_size) k.w_size;
}

witness_sized : {s : Plane} {bs : List Plane} → Sized s most_abc most_d → Each (λ b. Sized b most_abc most_d) bs → Sized (witness s bs) 1800000000000000 18000000000
unfolding witness
witness_sized i none = sized_up i tt tt
witness_sized i (a and none) = sized_up i tt tt
witness_sized i (a and b and none) = sized_up i tt tt
witness_sized i (◌and◌ a (◌and◌ b (◌and◌ {x = c} {xs = bs} j e))) = added_sized (meet_sized i (each_final c bs (j and e)) a) (meet_sized i a b) (meet_sized i b j)

pub witness_bounds : (s : Plane) (bs : List Plane) → T (in_range s) → ((b : Plane) → b ∈ bs → T (in_range b)) → Sized (witness s bs) 1800000000000000 18000000000
witness_bounds s bs i j = witness_sized (plane_sized s i) (in_each bs (λ b m. plane_sized b (j b m)))

-- Flat geometry in homogeneous coordinates: points and lines are vectors of ℤ³. Nothing here speaks of document 01's planes; `Frames` brings the section to this ground.
--     dt, cr, dv, ez        a line at a point; the point on two lines or the line through two points; the orientation of three points; the line whose value is a point's weight
--     dv_swap, on_second, cramer, four, dt_sum   identities
--     Mix, mix_..           a point that is a combination of two others, with factors that are not negative
--     Corner, Step          a vertex with the line of the edge that starts there; from a corner to the next
--     Left, Weak            three corners that turn left; that do not turn right
--     In, Out, Near, Up, Sees   of a corner: its vertex against a line, its weight; a point against its line
--     edge_.., mix_out, mix_in   the line of an edge at a point; where a line leaves an edge, and where it enters
use Rattle.std.specs.Prelude.{◌≡◌, [], ◌∷◌, ℤ, pos, neg_ℤ, ◌+ℤ◌, ◌-ℤ◌, ◌*ℤ◌}
use Rattle.std.proofs.Common.{sym, ap, ◌∙◌}
use Rattle.whole.specs.Expr.{#, ◌⊕◌, ◌⊖◌, ◌⊗◌, neg}
use Rattle.whole.specs.Vec.{V3, add3, dot3, cross3, add3ᴱ, dot3ᴱ, cross3ᴱ}
use Rattle.whole.specs.Solve.{solve, ◌≐◌, nums, vec3s}
use Rattle.whole.specs.Combo.{combo, ◌⊩◌, ◌⊠◌, ◌≗◌}
use Rattle.whole.specs.Order.{◌⩽◌, ◌⋖◌, mul_pos, mul_nonneg, lt_le, eq_le, add_pos, add_pos', add_nonneg, pos_cancel, nonneg_cancel, neg_nonneg}

unfoldable pub dt : V3 ℤ → V3 ℤ → ℤ
dt = dot3

unfoldable pub cr : V3 ℤ → V3 ℤ → V3 ℤ
cr = cross3

abbrev pub dv : V3 ℤ → V3 ℤ → V3 ℤ → ℤ
dv a b c = dt (cr a b) c

unfoldable pub ez : V3 ℤ
ez = record { x = pos 0; y = pos 0; z = pos 1 }

-- ---- identities

dv_turn : (a b c : V3 ℤ) → dv a b c ≡ dv b c a
unfolding dt cr
dv_turn = solve (vec3s 3) (λ a b c. dot3ᴱ (cross3ᴱ a b) c ≐ dot3ᴱ (cross3ᴱ b c) a) tt

dv_1 : (a b : V3 ℤ) → dv a b a ≡ pos 0
unfolding dt cr
dv_1 = solve (vec3s 2) (λ a b. dot3ᴱ (cross3ᴱ a b) a ≐ # 0) tt

dv_2 : (a b : V3 ℤ) → dv a b b ≡ pos 0
unfolding dt cr
dv_2 = solve (vec3s 2) (λ a b. dot3ᴱ (cross3ᴱ a b) b ≐ # 0) tt

dv_3 : (a b : V3 ℤ) → dv a a b ≡ pos 0
unfolding dt cr
dv_3 = solve (vec3s 2) (λ a b. dot3ᴱ (cross3ᴱ a a) b ≐ # 0) tt

pub dv_swap : (a b c : V3 ℤ) → dv a b c ≡ neg_ℤ (dv b a c)
unfolding dt cr
dv_swap = solve (vec3s 3) (λ a b c. dot3ᴱ (cross3ᴱ a b) c ≐ neg (dot3ᴱ (cross3ᴱ b a) c)) tt

pub on_second : (a b : V3 ℤ) → dt b (cr a b) ≡ pos 0
unfolding dt cr
on_second = solve (vec3s 2) (λ a b. dot3ᴱ b (cross3ᴱ a b) ≐ # 0) tt

-- the line through v and the point on l and l'
join : (v l l' x : V3 ℤ) → dv v (cr l l') x ≡ dt l' v *ℤ dt l x -ℤ dt l v *ℤ dt l' x
unfolding dt cr
join = solve (vec3s 4) (λ v l l' x. dot3ᴱ (cross3ᴱ v (cross3ᴱ l l')) x ≐ dot3ᴱ l' v ⊗ dot3ᴱ l x ⊖ dot3ᴱ l v ⊗ dot3ᴱ l' x) tt

-- where h cuts l, as a combination of v and the point on l and l'
cut : (l l' v h g : V3 ℤ) → dt l' v *ℤ dt g (cr l h) ≡ dt h v *ℤ dt g (cr l l') -ℤ dt h (cr l l') *ℤ dt g v +ℤ dt l v *ℤ dt g (cr l' h)
unfolding dt cr
cut = solve (vec3s 5) (λ l l' v h g. dot3ᴱ l' v ⊗ dot3ᴱ g (cross3ᴱ l h) ≐ dot3ᴱ h v ⊗ dot3ᴱ g (cross3ᴱ l l') ⊖ dot3ᴱ h (cross3ᴱ l l') ⊗ dot3ᴱ g v ⊕ dot3ᴱ l v ⊗ dot3ᴱ g (cross3ᴱ l' h)) tt

cut' : (l l' v h g : V3 ℤ) → dt l' v *ℤ dt g (cr h l) ≡ dt h (cr l l') *ℤ dt g v -ℤ dt h v *ℤ dt g (cr l l') -ℤ dt l v *ℤ dt g (cr l' h)
unfolding dt cr
cut' = solve (vec3s 5) (λ l l' v h g. dot3ᴱ l' v ⊗ dot3ᴱ g (cross3ᴱ h l) ≐ dot3ᴱ h (cross3ᴱ l l') ⊗ dot3ᴱ g v ⊖ dot3ᴱ h v ⊗ dot3ᴱ g (cross3ᴱ l l') ⊖ dot3ᴱ l v ⊗ dot3ᴱ g (cross3ᴱ l' h)) tt

-- a fourth point is a combination of three
pub cramer : (a b c x g : V3 ℤ) → dv a b c *ℤ dt g x ≡ dv b c x *ℤ dt g a +ℤ dv c a x *ℤ dt g b +ℤ dv a b x *ℤ dt g c
unfolding dt cr
cramer = solve (vec3s 5) (λ a b c x g. dot3ᴱ (cross3ᴱ a b) c ⊗ dot3ᴱ g x ≐ dot3ᴱ (cross3ᴱ b c) x ⊗ dot3ᴱ g a ⊕ dot3ᴱ (cross3ᴱ c a) x ⊗ dot3ᴱ g b ⊕ dot3ᴱ (cross3ᴱ a b) x ⊗ dot3ᴱ g c) tt

-- of four points two and two are combined to the same
pub four : (a b c d h : V3 ℤ) → dv b c d *ℤ dt h a +ℤ dv a b d *ℤ dt h c ≡ dv a c d *ℤ dt h b +ℤ dv a b c *ℤ dt h d
unfolding dt cr
four = solve (vec3s 5) (λ a b c d h. dot3ᴱ (cross3ᴱ b c) d ⊗ dot3ᴱ h a ⊕ dot3ᴱ (cross3ᴱ a b) d ⊗ dot3ᴱ h c ≐ dot3ᴱ (cross3ᴱ a c) d ⊗ dot3ᴱ h b ⊕ dot3ᴱ (cross3ᴱ a b) c ⊗ dot3ᴱ h d) tt

-- three points added
abbrev pub sum : V3 ℤ → V3 ℤ → V3 ℤ → V3 ℤ
sum a b c = add3 (add3 a b) c

pub dt_sum : (g a b c : V3 ℤ) → dt g (sum a b c) ≡ dt g a +ℤ dt g b +ℤ dt g c
unfolding dt
dt_sum = solve (vec3s 4) (λ g a b c. dot3ᴱ g (add3ᴱ (add3ᴱ a b) c) ≐ dot3ᴱ g a ⊕ dot3ᴱ g b ⊕ dot3ᴱ g c) tt

-- ---- a point f that is, up to a factor, a p + b q with a > 0 and b ≥ 0

pub record Mix (b : ℤ) (f p q : V3 ℤ) : Type 0 where
  pub k : ℤ
  pub a : ℤ
  pub k_pos : pos 0 ⋖ k
  pub a_pos : pos 0 ⋖ a
  pub b_pos : pos 0 ⩽ b
  pub mix : (g : V3 ℤ) → k *ℤ dt g f ≡ a *ℤ dt g p +ℤ b *ℤ dt g q

module _ {b : ℤ} {f p q : V3 ℤ} (m : Mix b f p q) (g : V3 ℤ) where
  pub mix_pos : pos 0 ⋖ dt g p → pos 0 ⩽ dt g q → pos 0 ⋖ dt g f
  mix_pos x y = pos_cancel {a = m.k} {b = dt g f} (rw (m.mix g) (add_pos (mul_pos m.a_pos x) (mul_nonneg m.b_pos y))) m.k_pos

  pub mix_nonneg : pos 0 ⩽ dt g p → pos 0 ⩽ dt g q → pos 0 ⩽ dt g f
  mix_nonneg x y = nonneg_cancel {a = m.k} {b = dt g f} (rw (m.mix g) (add_nonneg (mul_nonneg (lt_le m.a_pos) x) (mul_nonneg m.b_pos y))) m.k_pos

  pub mix_other : pos 0 ⋖ b → pos 0 ⩽ dt g p → pos 0 ⋖ dt g q → pos 0 ⋖ dt g f
  mix_other i x y = pos_cancel {a = m.k} {b = dt g f} (rw (m.mix g) (add_pos' (mul_nonneg (lt_le m.a_pos) x) (mul_pos i y))) m.k_pos

-- ---- a vertex with the line of the edge that starts there; a step from it to the next

pub record Corner : Type 0 where
  pub v : V3 ℤ
  pub l : V3 ℤ

abbrev pub line_of : Corner → V3 ℤ
line_of z = z.l

-- the vertex strictly inside the line h, not inside it, not outside it; of positive weight
abbrev pub In : V3 ℤ → Corner → Type 0
In h z = pos 0 ⋖ dt h z.v

abbrev pub Out : V3 ℤ → Corner → Type 0
Out h z = dt h z.v ⩽ pos 0

abbrev pub Near : V3 ℤ → Corner → Type 0
Near h z = pos 0 ⩽ dt h z.v

abbrev pub Up : Corner → Type 0
Up z = In ez z

-- the point x strictly inside the corner's line
abbrev pub Sees : V3 ℤ → Corner → Type 0
Sees x z = pos 0 ⋖ dt z.l x

pub record Step (z z' : Corner) : Type 0 where
  pub meet : z'.v ≡ cr z.l z'.l
  pub on : dt z.l z.v ≡ pos 0
  pub turn : pos 0 ⋖ dt z'.l z.v

pub record Left (a b c : Corner) : Type 0 where
  pub ccw : pos 0 ⋖ dv a.v b.v c.v

pub record Weak (a b c : Corner) : Type 0 where
  pub nocw : pos 0 ⩽ dv a.v b.v c.v

-- the three corners taken in turn; two of them the same
pub left_turn : {a b c : Corner} → Left a b c → Left b c a
left_turn {a} {b} {c} h = record { ccw = rw (dv_turn a.v b.v c.v) at h.ccw }

pub weak_turn : {a b c : Corner} → Weak a b c → Weak b c a
weak_turn {a} {b} {c} h = record { nocw = rw (dv_turn a.v b.v c.v) at h.nocw }

pub weaken : {a b c : Corner} → Left a b c → Weak a b c
weaken h = record { nocw = lt_le h.ccw }

pub weak_1 : (a b : Corner) → Weak a b a
weak_1 a b = record { nocw = eq_le (sym (dv_1 a.v b.v)) }

pub weak_2 : (a b : Corner) → Weak a b b
weak_2 a b = record { nocw = eq_le (sym (dv_2 a.v b.v)) }

pub weak_3 : (a b : Corner) → Weak a a b
weak_3 a b = record { nocw = eq_le (sym (dv_3 a.v b.v)) }

-- the line of an edge, at a point: up to a positive factor it is the line through the edge's two vertices
edge : {z z' : Corner} → Step z z' → (x : V3 ℤ) → dv z.v z'.v x ≡ dt z'.l z.v *ℤ dt z.l x
edge {z} {z'} s x = ap (λ (t : V3 ℤ). dv z.v t x) s.meet ∙ join z.v z.l z'.l x
    ∙ combo (nums 4) (λ a b c d. (neg d ⊠ (c ≗ # 0)) ∷ [] ⊩ a ⊗ b ⊖ c ⊗ d ≗ a ⊗ b) tt (dt z'.l z.v) (dt z.l x) (dt z.l z.v) (dt z'.l x) s.on

module _ {z z' : Corner} (s : Step z z') (x : V3 ℤ) where
  pub edge_pos : pos 0 ⋖ dv z.v z'.v x → pos 0 ⋖ dt z.l x
  edge_pos h = pos_cancel (rw (edge s x) at h) s.turn

  pub edge_nonneg : pos 0 ⩽ dv z.v z'.v x → pos 0 ⩽ dt z.l x
  edge_nonneg h = nonneg_cancel (rw (edge s x) at h) s.turn

  pub pos_edge : pos 0 ⋖ dt z.l x → pos 0 ⋖ dv z.v z'.v x
  pos_edge h = rw (edge s x) (mul_pos s.turn h)

-- a corner strictly inside the line of an edge is to the left of it
pub edge_left : {z z' y : Corner} → Step z z' → pos 0 ⋖ dt z.l y.v → Left z z' y
edge_left {y = y} s h = record { ccw = pos_edge s y.v h }

-- where h cuts the edge from z to z', leaving or entering
module _ {z z' : Corner} (s : Step z z') (h : V3 ℤ) where
  pub mix_out : pos 0 ⋖ dt h z.v → dt h z'.v ⩽ pos 0 → Mix (neg_ℤ (dt h z'.v)) (cr z.l h) z'.v z.v
  mix_out x y = record {
    k = dt z'.l z.v;
    a = dt h z.v;
    k_pos = s.turn;
    a_pos = x;
    b_pos = neg_nonneg y;
    mix = λ g. cut z.l z'.l z.v h g ∙ combo (nums 6) (λ a n b v c d. (d ⊠ (c ≗ # 0)) ∷ [] ⊩ a ⊗ n ⊖ b ⊗ v ⊕ c ⊗ d ≗ a ⊗ n ⊕ neg b ⊗ v) tt (dt h z.v) (dt g (cr z.l z'.l)) (dt h (cr z.l z'.l)) (dt g z.v) (dt z.l z.v) (dt g (cr z'.l h)) s.on
        ∙ ap (λ (t : V3 ℤ). dt h z.v *ℤ dt g t +ℤ neg_ℤ (dt h t) *ℤ dt g z.v) (sym s.meet);
  }

  pub mix_in : dt h z.v ⩽ pos 0 → pos 0 ⋖ dt h z'.v → Mix (neg_ℤ (dt h z.v)) (cr h z.l) z.v z'.v
  mix_in x y = record {
    k = dt z'.l z.v;
    a = dt h z'.v;
    k_pos = s.turn;
    a_pos = y;
    b_pos = neg_nonneg x;
    mix = λ g. cut' z.l z'.l z.v h g ∙ combo (nums 6) (λ a v b n c d. (neg d ⊠ (c ≗ # 0)) ∷ [] ⊩ a ⊗ v ⊖ b ⊗ n ⊖ c ⊗ d ≗ a ⊗ v ⊕ neg b ⊗ n) tt (dt h (cr z.l z'.l)) (dt g z.v) (dt h z.v) (dt g (cr z.l z'.l)) (dt z.l z.v) (dt g (cr z'.l h)) s.on
        ∙ ap (λ (t : V3 ℤ). dt h t *ℤ dt g z.v +ℤ neg_ℤ (dt h z.v) *ℤ dt g t) (sym s.meet);
  }

-- Different lawful planes are not multiples of one another, and coincident ones are equal. Proportional planes have a common part, by Euclid's rule on planes.
--     lawful_coincident   coincident lawful planes are equal
--     independent         different lawful planes are independent
--     lawful_general      what the theory of cells asks
use Rattle.std.specs.Prelude.{◌≡◌, refl, List, [], ◌∷◌, ◌≢◌, ℕ, zero, suc, ◌+◌, T, ℤ, pos, negsuc, ◌+ℤ◌, ◌-ℤ◌, ◌*ℤ◌}
use Rattle.std.proofs.Common.{sym, ap, ◌∙◌, arith}
use Rattle.whole.specs.Expr.{Expr, #, ◌⊕◌, ◌⊖◌, ◌⊗◌, neg}
use Rattle.whole.specs.Vec.{dot4ᴱ}
use Rattle.whole.specs.Solve.{solve, ◌≐◌, nums, vec4s}
use Rattle.whole.specs.Lin.{lin, ◌⊢◌, ◌≦◌, ◌≺◌, ◌≋◌}
use Rattle.whole.specs.Combo.{combo, ◌⊩◌, ◌⊠◌, ◌≗◌}
use Rattle.whole.specs.Order.{◌⩽◌, ◌⋖◌, signs, Lies, below, on, above, lies, lt_le, eq_le, mul_pos, mul_nonneg, mul_cancel, sq_nonneg, square_0, lt_not_lt, pos_not_zero, neg_pos}
use Rattle.whole.specs.Members.{◌∈◌}
use Rattle.scope.specs.Planes.{Plane, at, minor, coincident, Lawful}
use Rattle.theory.specs.Planes.General.{Independent, General}
use Rattle.theory.specs.Planes.Minors.{minorᴱ, Minors, minors}
use Rattle.theory.specs.Planes.Lawful.{Divides, Primitive, primitive, Leading, lead_a, lead_b, lead_c, leading, lawful_nonzero}

abbrev sq : ℤ → ℤ
sq m = m *ℤ m

abbrev sqᴱ : Expr → Expr
sqᴱ m = m ⊗ m

abbrev sumᴱ : Expr → Expr → Expr → Expr → Expr → Expr → Expr
sumᴱ a b c d e f = sqᴱ a ⊕ sqᴱ b ⊕ sqᴱ c ⊕ sqᴱ d ⊕ sqᴱ e ⊕ sqᴱ f

-- ---- proportional planes have a common part: Euclid, on planes

-- b p is a q
record Prop (b : ℤ) (p : Plane) (a : ℤ) (q : Plane) : Type 0 where
  x : b *ℤ p.x ≡ a *ℤ q.x
  y : b *ℤ p.y ≡ a *ℤ q.y
  z : b *ℤ p.z ≡ a *ℤ q.z
  w : b *ℤ p.w ≡ a *ℤ q.w

minus : Plane → Plane → Plane
minus p q = record { x = p.x -ℤ q.x; y = p.y -ℤ q.y; z = p.z -ℤ q.z; w = p.w -ℤ q.w }

record Common (p q : Plane) : Type 0 where
  part : Plane
  k : ℤ
  l : ℤ
  k_pos : pos 0 ⋖ k
  l_pos : pos 0 ⋖ l
  p_is : Prop (pos 1) p k part
  q_is : Prop (pos 1) q l part

less_p : (a b u v : ℤ) → b *ℤ u ≡ a *ℤ v → b *ℤ (u -ℤ v) ≡ (a -ℤ b) *ℤ v
less_p = lin (nums 4) (λ a b u v. (b ⊗ u ≋ a ⊗ v) ∷ [] ⊢ b ⊗ (u ⊖ v) ≋ (a ⊖ b) ⊗ v) (omega arith)

less_q : (a b u v : ℤ) → b *ℤ u ≡ a *ℤ v → (b -ℤ a) *ℤ u ≡ a *ℤ (v -ℤ u)
less_q = lin (nums 4) (λ a b u v. (b ⊗ u ≋ a ⊗ v) ∷ [] ⊢ (b ⊖ a) ⊗ u ≋ a ⊗ (v ⊖ u)) (omega arith)

back : (k l u v r : ℤ) → pos 1 *ℤ (u -ℤ v) ≡ k *ℤ r → pos 1 *ℤ v ≡ l *ℤ r → pos 1 *ℤ u ≡ (k +ℤ l) *ℤ r
back = lin (nums 5) (λ k l u v r. (# 1 ⊗ (u ⊖ v) ≋ k ⊗ r) ∷ (# 1 ⊗ v ≋ l ⊗ r) ∷ [] ⊢ # 1 ⊗ u ≋ (k ⊕ l) ⊗ r) (omega arith)

sum_pos : {k l : ℤ} → pos 0 ⋖ k → pos 0 ⋖ l → pos 0 ⋖ k +ℤ l
sum_pos {k} {l} = lin (nums 2) (λ k l. (# 0 ≺ k) ∷ (# 0 ≺ l) ∷ [] ⊢ # 0 ≺ k ⊕ l) (omega arith) k l

grow_p : {p q : Plane} → Common (minus p q) q → Common p q
unfolding minus
grow_p {p} {q} c = record {
  part = c.part;
  k = c.k +ℤ c.l;
  l = c.l;
  k_pos = sum_pos c.k_pos c.l_pos;
  l_pos = c.l_pos;
  q_is = c.q_is;
  p_is = record {
    x = back c.k c.l p.x q.x c.part.x c.p_is.x c.q_is.x;
    y = back c.k c.l p.y q.y c.part.y c.p_is.y c.q_is.y;
    z = back c.k c.l p.z q.z c.part.z c.p_is.z c.q_is.z;
    w = back c.k c.l p.w q.w c.part.w c.p_is.w c.q_is.w;
  };
}

turn : {p q : Plane} → Common p q → Common q p
turn c = record { part = c.part; k = c.l; l = c.k; k_pos = c.l_pos; l_pos = c.k_pos; p_is = c.q_is; q_is = c.p_is }

common : (n : ℕ) (p q : Plane) (a b : ℤ) → pos 0 ⋖ a → pos 0 ⋖ b → a +ℤ b ⩽ pos n → Prop b p a q → Common p q
unfolding minus
common zero p q a b h k m e = absurd (lt_not_lt h (lin (nums 2) (λ a b. (# 0 ≺ a) ∷ (# 0 ≺ b) ∷ (a ⊕ b ≦ # 0) ∷ [] ⊢ a ≺ # 0) (omega arith) a b h k m))
common (suc n) p q a b h k m e = go (lies (a -ℤ b)) (common n)
  where
    m' : a +ℤ b ⩽ pos n +ℤ pos 1
    m' = let i : suc n ≡ n + 1 = omega arith in rw i at m

    go : Lies (a -ℤ b) → ((p q : Plane) (a b : ℤ) → pos 0 ⋖ a → pos 0 ⋖ b → a +ℤ b ⩽ pos n → Prop b p a q → Common p q) → Common p q
    go (below t) rec = turn (grow_p (turn (rec p (minus q p) a (b -ℤ a) h
        (lin (nums 2) (λ a b. (a ⊖ b ≺ # 0) ∷ [] ⊢ # 0 ≺ b ⊖ a) (omega arith) a b t)
        (lin (nums 3) (λ a b n. (a ⊕ b ≦ n ⊕ # 1) ∷ (# 0 ≺ a) ∷ [] ⊢ a ⊕ (b ⊖ a) ≦ n) (omega arith) a b (pos n) m' h)
        (record { x = less_q a b p.x q.x e.x; y = less_q a b p.y q.y e.y; z = less_q a b p.z q.z e.z; w = less_q a b p.w q.w e.w }))))
    go (on t) rec = record {
      part = q;
      k = pos 1;
      l = pos 1;
      k_pos = record { lt = tt };
      l_pos = record { lt = tt };
      q_is = record { x = refl; y = refl; z = refl; w = refl };
      p_is = record { x = same p.x q.x e.x; y = same p.y q.y e.y; z = same p.z q.z e.z; w = same p.w q.w e.w };
    }
      where
        a_b : a ≡ b
        a_b = lin (nums 2) (λ a b. (a ⊖ b ≋ # 0) ∷ [] ⊢ a ≋ b) (omega arith) a b t

        same : (u v : ℤ) → b *ℤ u ≡ a *ℤ v → pos 1 *ℤ u ≡ pos 1 *ℤ v
        same u v i = ap (λ t. pos 1 *ℤ t) (mul_cancel {a = u} {b = v} {c = b} (lin (nums 4) (λ a b u v. (b ⊗ u ≋ a ⊗ v) ∷ (a ⊗ v ≋ b ⊗ v) ∷ [] ⊢ u ⊗ b ≋ v ⊗ b) (omega arith) a b u v i (ap (λ t. t *ℤ v) a_b)) k)
    go (above t) rec = grow_p (rec (minus p q) q (a -ℤ b) b t k
        (lin (nums 3) (λ a b n. (a ⊕ b ≦ n ⊕ # 1) ∷ (# 0 ≺ b) ∷ [] ⊢ a ⊖ b ⊕ b ≦ n) (omega arith) a b (pos n) m' k)
        (record { x = less_p a b p.x q.x e.x; y = less_p a b p.y q.y e.y; z = less_p a b p.z q.z e.z; w = less_p a b p.w q.w e.w }))

-- ---- no two lawful planes are proportional

-- in a coordinate, b p is a q with b > 0 and a < 0: not both at least 0, unless both are 0
module _ (a b u v : ℤ) (k : pos 0 ⋖ b) (h : a ⋖ pos 0) (e : b *ℤ u ≡ a *ℤ v) where
  not_up : pos 0 ⋖ u → pos 0 ⩽ v → ⊥
  not_up i j = lt_not_lt (mul_pos k i) (lin (nums 4) (λ a b u v. (b ⊗ u ≋ a ⊗ v) ∷ (# 0 ≦ neg a ⊗ v) ∷ (# 0 ≺ b ⊗ u) ∷ [] ⊢ b ⊗ u ≺ # 0) (omega arith) a b u v e (mul_nonneg (lt_le (neg_pos h)) j) (mul_pos k i))

  not_out : u ≡ pos 0 → pos 0 ⋖ v → ⊥
  not_out i j = pos_not_zero (mul_pos (neg_pos h) j) (lin (nums 4) (λ a b u v. (b ⊗ u ≋ a ⊗ v) ∷ (b ⊗ u ≋ b ⊗ # 0) ∷ [] ⊢ neg a ⊗ v ≋ # 0) (omega arith) a b u v e (ap (λ t. b *ℤ t) i))

zero_up : {v : ℤ} → v ≡ pos 0 → pos 0 ⩽ v
zero_up {v} = lin (nums 1) (λ v. (v ≋ # 0) ∷ [] ⊢ # 0 ≦ v) (omega arith) v

same_way : {p q : Plane} (a b : ℤ) → pos 0 ⋖ b → Prop b p a q → Leading p → Leading q → a ⋖ pos 0 → ⊥
same_way {p} {q} a b k e (lead_a i) (lead_a j) h = not_up a b p.x q.x k h e.x i (lt_le j)
same_way {p} {q} a b k e (lead_a i) (lead_b j _) h = not_up a b p.x q.x k h e.x i (zero_up j)
same_way {p} {q} a b k e (lead_a i) (lead_c j _ _) h = not_up a b p.x q.x k h e.x i (zero_up j)
same_way {p} {q} a b k e (lead_b i _) (lead_a j) h = not_out a b p.x q.x k h e.x i j
same_way {p} {q} a b k e (lead_b _ i) (lead_b _ j) h = not_up a b p.y q.y k h e.y i (lt_le j)
same_way {p} {q} a b k e (lead_b _ i) (lead_c _ j _) h = not_up a b p.y q.y k h e.y i (zero_up j)
same_way {p} {q} a b k e (lead_c i _ _) (lead_a j) h = not_out a b p.x q.x k h e.x i j
same_way {p} {q} a b k e (lead_c _ i _) (lead_b _ j) h = not_out a b p.y q.y k h e.y i j
same_way {p} {q} a b k e (lead_c _ _ i) (lead_c _ _ j) h = not_up a b p.z q.z k h e.z i (lt_le j)

no_way : {p q : Plane} (a b : ℤ) → pos 0 ⋖ b → Prop b p a q → Leading p → a ≡ pos 0 → ⊥
no_way {p} {q} a b k e i h = go i
  where
    nought : (u v : ℤ) → b *ℤ u ≡ a *ℤ v → pos 0 ⋖ u → ⊥
    nought u v e i = pos_not_zero (mul_pos k i) (e ∙ ap (λ t. t *ℤ v) h ∙ solve (nums 1) (λ v. # 0 ⊗ v ≐ # 0) tt v)

    go : Leading p → ⊥
    go (lead_a i) = nought p.x q.x e.x i
    go (lead_b _ i) = nought p.y q.y e.y i
    go (lead_c _ _ i) = nought p.z q.z e.z i

-- what divides with a primitive part is 1
one_part : {p r : Plane} (k : ℤ) → Primitive p → pos 0 ⋖ k → Prop (pos 1) p k r → k ≡ pos 1
one_part {p} {r} k c h e = c.only k h (by p.x r.x e.x) (by p.y r.y e.y) (by p.z r.z e.z) (by p.w r.w e.w)
  where
    by : (u v : ℤ) → pos 1 *ℤ u ≡ k *ℤ v → Divides k u
    by u v e = record { times = v; exact = lin (nums 3) (λ k u v. (# 1 ⊗ u ≋ k ⊗ v) ∷ [] ⊢ u ≋ v ⊗ k) (omega arith) k u v e }

common_same : {p q : Plane} → Primitive p → Primitive q → Common p q → p ≡ q
common_same {p} {q} i j c = λ t. record { x = x t; y = y t; z = z t; w = w t }
  where
    k_1 : c.k ≡ pos 1
    k_1 = one_part c.k i c.k_pos c.p_is

    l_1 : c.l ≡ pos 1
    l_1 = one_part c.l j c.l_pos c.q_is

    meet : (u v r : ℤ) → pos 1 *ℤ u ≡ c.k *ℤ r → pos 1 *ℤ v ≡ c.l *ℤ r → u ≡ v
    meet u v r e d = lin (nums 2) (λ u v. (# 1 ⊗ u ≋ # 1 ⊗ v) ∷ [] ⊢ u ≋ v) (omega arith) u v (e ∙ ap (λ t. t *ℤ r) (k_1 ∙ sym l_1) ∙ sym d)

    x : p.x ≡ q.x
    x = meet p.x q.x c.part.x c.p_is.x c.q_is.x

    y : p.y ≡ q.y
    y = meet p.y q.y c.part.y c.p_is.y c.q_is.y

    z : p.z ≡ q.z
    z = meet p.z q.z c.part.z c.p_is.z c.q_is.z

    w : p.w ≡ q.w
    w = meet p.w q.w c.part.w c.p_is.w c.q_is.w

-- ---- Gram's determinant is the sum of the squares of the six minors

lagrange : (p q : Plane) → at p p *ℤ at q q -ℤ at p q *ℤ at p q
    ≡ sq (minor p.x p.y q.x q.y) +ℤ sq (minor p.x p.z q.x q.z) +ℤ sq (minor p.x p.w q.x q.w)
    +ℤ sq (minor p.y p.z q.y q.z) +ℤ sq (minor p.y p.w q.y q.w) +ℤ sq (minor p.z p.w q.z q.w)
unfolding at
lagrange = solve (vec4s 2) (λ p q. dot4ᴱ p p ⊗ dot4ᴱ q q ⊖ dot4ᴱ p q ⊗ dot4ᴱ p q
    ≐ sqᴱ (minorᴱ p.x p.y q.x q.y) ⊕ sqᴱ (minorᴱ p.x p.z q.x q.z) ⊕ sqᴱ (minorᴱ p.x p.w q.x q.w)
    ⊕ sqᴱ (minorᴱ p.y p.z q.y q.z) ⊕ sqᴱ (minorᴱ p.y p.w q.y q.w) ⊕ sqᴱ (minorᴱ p.z p.w q.z q.w)) tt

-- six squares that come to nothing
module _ (a b c d e f : ℤ) (h : sq a +ℤ sq b +ℤ sq c +ℤ sq d +ℤ sq e +ℤ sq f ⩽ pos 0) where
  -- one of them, and the rest
  gone : (m r : ℤ) → sq m +ℤ r ⩽ pos 0 → pos 0 ⩽ r → m ≡ pos 0
  gone m r h k = square_0 m (lin (nums 2) (λ m r. (m ⊗ m ⊕ r ≦ # 0) ∷ (# 0 ≦ r) ∷ (# 0 ≦ m ⊗ m) ∷ [] ⊢ m ⊗ m ≋ # 0) (omega arith) m r h k (sq_nonneg m))

  squares : (a ≡ pos 0) × (b ≡ pos 0) × (c ≡ pos 0) × (d ≡ pos 0) × (e ≡ pos 0) × (f ≡ pos 0)
  squares = (
    gone a (sq b +ℤ sq c +ℤ sq d +ℤ sq e +ℤ sq f) (lin (nums 6) (λ a b c d e f. (sumᴱ a b c d e f ≦ # 0) ∷ [] ⊢ sqᴱ a ⊕ (sqᴱ b ⊕ sqᴱ c ⊕ sqᴱ d ⊕ sqᴱ e ⊕ sqᴱ f) ≦ # 0) (omega arith) a b c d e f h) (search signs),
    gone b (sq a +ℤ sq c +ℤ sq d +ℤ sq e +ℤ sq f) (lin (nums 6) (λ a b c d e f. (sumᴱ a b c d e f ≦ # 0) ∷ [] ⊢ sqᴱ b ⊕ (sqᴱ a ⊕ sqᴱ c ⊕ sqᴱ d ⊕ sqᴱ e ⊕ sqᴱ f) ≦ # 0) (omega arith) a b c d e f h) (search signs),
    gone c (sq b +ℤ sq a +ℤ sq d +ℤ sq e +ℤ sq f) (lin (nums 6) (λ a b c d e f. (sumᴱ a b c d e f ≦ # 0) ∷ [] ⊢ sqᴱ c ⊕ (sqᴱ b ⊕ sqᴱ a ⊕ sqᴱ d ⊕ sqᴱ e ⊕ sqᴱ f) ≦ # 0) (omega arith) a b c d e f h) (search signs),
    gone d (sq b +ℤ sq c +ℤ sq a +ℤ sq e +ℤ sq f) (lin (nums 6) (λ a b c d e f. (sumᴱ a b c d e f ≦ # 0) ∷ [] ⊢ sqᴱ d ⊕ (sqᴱ b ⊕ sqᴱ c ⊕ sqᴱ a ⊕ sqᴱ e ⊕ sqᴱ f) ≦ # 0) (omega arith) a b c d e f h) (search signs),
    gone e (sq b +ℤ sq c +ℤ sq d +ℤ sq a +ℤ sq f) (lin (nums 6) (λ a b c d e f. (sumᴱ a b c d e f ≦ # 0) ∷ [] ⊢ sqᴱ e ⊕ (sqᴱ b ⊕ sqᴱ c ⊕ sqᴱ d ⊕ sqᴱ a ⊕ sqᴱ f) ≦ # 0) (omega arith) a b c d e f h) (search signs),
    gone f (sq b +ℤ sq c +ℤ sq d +ℤ sq e +ℤ sq a) (lin (nums 6) (λ a b c d e f. (sumᴱ a b c d e f ≦ # 0) ∷ [] ⊢ sqᴱ f ⊕ (sqᴱ b ⊕ sqᴱ c ⊕ sqᴱ d ⊕ sqᴱ e ⊕ sqᴱ a) ≦ # 0) (omega arith) a b c d e f h) (search signs),
  )

flat_minors : (p q : Plane) → at p p *ℤ at q q -ℤ at p q *ℤ at p q ⩽ pos 0 → Minors p q
flat_minors p q h =
    let s = squares _ _ _ _ _ _ (rw (lagrange p q) at h) in
    record { xy = s.0; xz = s.1; xw = s.2; yz = s.3; yw = s.4; zw = s.5 }

-- ---- planes whose minors are zero are multiples: (q.q) p is (p.q) q

proportional : (p q : Plane) → Minors p q → Prop (at q q) p (at p q) q
unfolding at
proportional p q s = record {
  x = combo (vec4s 2) (λ p q. (q.y ⊠ (minorᴱ p.x p.y q.x q.y ≗ # 0)) ∷ (q.z ⊠ (minorᴱ p.x p.z q.x q.z ≗ # 0)) ∷ (q.w ⊠ (minorᴱ p.x p.w q.x q.w ≗ # 0)) ∷ []
      ⊩ dot4ᴱ q q ⊗ p.x ≗ dot4ᴱ p q ⊗ q.x) tt p q s.xy s.xz s.xw;
  y = combo (vec4s 2) (λ p q. (neg q.x ⊠ (minorᴱ p.x p.y q.x q.y ≗ # 0)) ∷ (q.z ⊠ (minorᴱ p.y p.z q.y q.z ≗ # 0)) ∷ (q.w ⊠ (minorᴱ p.y p.w q.y q.w ≗ # 0)) ∷ []
      ⊩ dot4ᴱ q q ⊗ p.y ≗ dot4ᴱ p q ⊗ q.y) tt p q s.xy s.yz s.yw;
  z = combo (vec4s 2) (λ p q. (neg q.x ⊠ (minorᴱ p.x p.z q.x q.z ≗ # 0)) ∷ (neg q.y ⊠ (minorᴱ p.y p.z q.y q.z ≗ # 0)) ∷ (q.w ⊠ (minorᴱ p.z p.w q.z q.w ≗ # 0)) ∷ []
      ⊩ dot4ᴱ q q ⊗ p.z ≗ dot4ᴱ p q ⊗ q.z) tt p q s.xz s.yz s.zw;
  w = combo (vec4s 2) (λ p q. (neg q.x ⊠ (minorᴱ p.x p.w q.x q.w ≗ # 0)) ∷ (neg q.y ⊠ (minorᴱ p.y p.w q.y q.w ≗ # 0)) ∷ (neg q.z ⊠ (minorᴱ p.z p.w q.z q.w ≗ # 0)) ∷ []
      ⊩ dot4ᴱ q q ⊗ p.w ≗ dot4ᴱ p q ⊗ q.w) tt p q s.xw s.yw s.zw;
}

natural : ℤ → ℕ
natural (pos n) = n
natural (negsuc n) = 0

up : (a : ℤ) → a ⩽ pos (natural a)
unfolding natural
up (pos n) = lin (nums 1) (λ a. [] ⊢ a ≦ a) (omega arith) (pos n)
up (negsuc n) = record { le = tt }

-- ---- the theorems

module _ {p q : Plane} (i : Lawful p) (j : Lawful q) where
  q_pos : pos 0 ⋖ at q q
  q_pos = lawful_nonzero j

  minors_same : Minors p q → p ≡ q
  minors_same m = go (lies (at p q))
    where
      e : Prop (at q q) p (at p q) q
      e = proportional p q m

      go : Lies (at p q) → p ≡ q
      go (below h) = absurd (same_way (at p q) (at q q) q_pos e (leading i) (leading j) h)
      go (on h) = absurd (no_way {q = q} (at p q) (at q q) q_pos e (leading i) h)
      go (above h) = common_same (primitive i) (primitive j) (common (natural (at p q +ℤ at q q)) p q (at p q) (at q q) h q_pos (up (at p q +ℤ at q q)) e)

  -- coincident lawful planes are equal
  pub lawful_coincident : T (coincident p q) → p ≡ q
  lawful_coincident t = minors_same (minors p q t)

  -- different ones are not multiples of one another
  pub independent : p ≢ q → Independent p q
  independent n = go (lies (at p p *ℤ at q q -ℤ at p q *ℤ at p q))
    where
      flat : at p p *ℤ at q q -ℤ at p q *ℤ at p q ⩽ pos 0 → ⊥
      flat h = n (minors_same (flat_minors p q h))

      go : Lies (at p p *ℤ at q q -ℤ at p q *ℤ at p q) → Independent p q
      go (below h) = absurd (flat (lt_le h))
      go (on h) = absurd (flat (eq_le h))
      go (above h) = h

-- lists of lawful planes are such that all of the theory applies
pub lawful_general : {ps : List Plane} → ((p : Plane) → p ∈ ps → Lawful p) → General ps
lawful_general l = record { nonzero = λ p m. lawful_nonzero (l p m); apart = λ p q m n. independent (l p m) (l q n) }

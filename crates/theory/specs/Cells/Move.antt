-- Moving points: the one lemma that replaces every epsilon.
--     comb, at_comb        points are combined, and a plane is linear
--     move                 from X towards t, keeping X's sides; on a plane through X the side is t's
--     between              where the way between two points meets a plane
use Rattle.std.specs.Prelude.{◌≡◌, List, [], ◌∷◌, ℤ, pos, neg_ℤ, ◌+ℤ◌, ◌-ℤ◌, ◌*ℤ◌}
use Rattle.std.proofs.Common.{ap, ◌∙◌, arith}
use Rattle.whole.specs.Expr.{Expr, #, ◌⊕◌, ◌⊖◌, ◌⊗◌, neg}
use Rattle.whole.specs.Vec.{V4, dot4ᴱ}
use Rattle.whole.specs.Solve.{solve, ◌≐◌, nums, vec4s, num, vec4}
use Rattle.whole.specs.Lin.{lin, ◌⊢◌, ◌≦◌, ◌≺◌}
use Rattle.whole.specs.Order.{◌⩽◌, ◌⋖◌, signs, neg_pos, mul_pos, mul_nonneg, sq_nonneg}
use Rattle.whole.specs.Members.{◌∈◌, here, there}
use Rattle.scope.specs.Planes.{Plane, Point, at, flip}

-- ---- points are combined, and a plane is linear

unfoldable pub comb : ℤ → Point → ℤ → Point → Point
comb a X b Y = record { x = a *ℤ X.x +ℤ b *ℤ Y.x; y = a *ℤ X.y +ℤ b *ℤ Y.y; z = a *ℤ X.z +ℤ b *ℤ Y.z; w = a *ℤ X.w +ℤ b *ℤ Y.w }

combᴱ : Expr → V4 Expr → Expr → V4 Expr → V4 Expr
combᴱ a X b Y = record { x = a ⊗ X.x ⊕ b ⊗ Y.x; y = a ⊗ X.y ⊕ b ⊗ Y.y; z = a ⊗ X.z ⊕ b ⊗ Y.z; w = a ⊗ X.w ⊕ b ⊗ Y.w }

pub at_comb : (a : ℤ) (X : Point) (b : ℤ) (Y : Point) (p : Plane) → at p (comb a X b Y) ≡ a *ℤ at p X +ℤ b *ℤ at p Y
unfolding at comb combᴱ
at_comb = solve (num ∷ vec4 ∷ num ∷ vec4 ∷ vec4 ∷ []) (λ a X b Y p. dot4ᴱ p (combᴱ a X b Y) ≐ a ⊗ dot4ᴱ p X ⊕ b ⊗ dot4ᴱ p Y) tt

pub at_flip : (p : Plane) (X : Point) → at (flip p) X ≡ neg_ℤ (at p X)
unfolding at flip
at_flip = solve (vec4s 2) (λ p X. dot4ᴱ (record { x = neg p.x; y = neg p.y; z = neg p.z; w = neg p.w }) X ≐ neg (dot4ᴱ p X)) tt

pub at_comm : (p q : Plane) → at p q ≡ at q p
unfolding at
at_comm = solve (vec4s 2) (λ p q. dot4ᴱ p q ≐ dot4ᴱ q p) tt

pub at_back : (p : Plane) (X : Point) → at p (flip X) ≡ neg_ℤ (at p X)
at_back p X = at_comm p (flip X) ∙ at_flip X p ∙ ap neg_ℤ (at_comm X p)

-- ---- the other side

pub flip_front : (p : Plane) (X : Point) → at p X ⋖ pos 0 → pos 0 ⋖ at (flip p) X
flip_front p X h = rw (at_flip p X) (neg_pos h)

-- ---- the move

module _ (K s x : ℤ) (h : pos 1 +ℤ s *ℤ s ⩽ K) where
  K_nonneg : pos 0 ⩽ K
  K_nonneg = lin (nums 2) (λ K s. (# 1 ⊕ s ⊗ s ≦ K) ∷ (# 0 ≦ s ⊗ s) ∷ [] ⊢ # 0 ≦ K) (omega arith) K s h (sq_nonneg s)

  stays_pos : pos 0 ⋖ x → pos 0 ⋖ K *ℤ x +ℤ pos 1 *ℤ s
  stays_pos k = lin (nums 3) (λ K s x. (# 1 ⊕ s ⊗ s ≦ K) ∷ (# 0 ≦ K ⊗ (x ⊖ # 1)) ∷ (# 0 ≦ (# 2 ⊗ s ⊕ # 1) ⊗ (# 2 ⊗ s ⊕ # 1)) ∷ [] ⊢ # 0 ≺ K ⊗ x ⊕ # 1 ⊗ s) (omega arith) K s x h
      (mul_nonneg K_nonneg (lin (nums 1) (λ x. (# 0 ≺ x) ∷ [] ⊢ # 0 ≦ x ⊖ # 1) (omega arith) x k)) (sq_nonneg (pos 2 *ℤ s +ℤ pos 1))

  stays_neg : x ⋖ pos 0 → K *ℤ x +ℤ pos 1 *ℤ s ⋖ pos 0
  stays_neg k = lin (nums 3) (λ K s x. (# 1 ⊕ s ⊗ s ≦ K) ∷ (# 0 ≦ K ⊗ (neg x ⊖ # 1)) ∷ (# 0 ≦ (# 2 ⊗ s ⊖ # 1) ⊗ (# 2 ⊗ s ⊖ # 1)) ∷ [] ⊢ K ⊗ x ⊕ # 1 ⊗ s ≺ # 0) (omega arith) K s x h
      (mul_nonneg K_nonneg (lin (nums 1) (λ x. (x ≺ # 0) ∷ [] ⊢ # 0 ≦ neg x ⊖ # 1) (omega arith) x k)) (sq_nonneg (pos 2 *ℤ s -ℤ pos 1))

-- Y is strictly on X's side, where X is not on g
pub record Keeps (g : Plane) (X Y : Point) : Type 0 where
  pub pos' : pos 0 ⋖ at g X → pos 0 ⋖ at g Y
  pub neg' : at g X ⋖ pos 0 → at g Y ⋖ pos 0

-- as far along t as keeps every side of G; on a plane through X the side is t's
pub record Moved (G : List Plane) (X t : Point) : Type 0 where
  pub to : Point
  pub keeps : (g : Plane) → g ∈ G → Keeps g X to
  pub goes : (g : Plane) → at g X ≡ pos 0 → at g to ≡ at g t

-- 1 and the squares of g(t)
far : List Plane → Point → ℤ
far [] t = pos 1
far (g ∷ G) t = far G t +ℤ at g t *ℤ at g t

far_1 : (G : List Plane) (t : Point) → pos 1 ⩽ far G t
unfolding far
far_1 [] t = lin (nums 0) ([] ⊢ # 1 ≦ # 1) (omega arith)
far_1 (g ∷ G) t = lin (nums 2) (λ k s. (# 1 ≦ k) ∷ (# 0 ≦ s ⊗ s) ∷ [] ⊢ # 1 ≦ k ⊕ s ⊗ s) (omega arith) (far G t) (at g t) (far_1 G t) (sq_nonneg (at g t))

far_in : {g : Plane} (G : List Plane) (t : Point) → g ∈ G → pos 1 +ℤ at g t *ℤ at g t ⩽ far G t
unfolding far
far_in {g = g} [] t x' = elim x' [ ]
far_in {g} (h ∷ G) t (here e) = rw e (lin (nums 2) (λ k s. (# 1 ≦ k) ∷ [] ⊢ # 1 ⊕ s ⊗ s ≦ k ⊕ s ⊗ s) (omega arith) (far G t) (at h t) (far_1 G t))
far_in {g} (h ∷ G) t (there m) = lin (nums 3) (λ k s u. (# 1 ⊕ u ⊗ u ≦ k) ∷ (# 0 ≦ s ⊗ s) ∷ [] ⊢ # 1 ⊕ u ⊗ u ≦ k ⊕ s ⊗ s) (omega arith) (far G t) (at h t) (at g t) (far_in G t m) (sq_nonneg (at h t))

pub move : (G : List Plane) (X t : Point) → Moved G X t
move G X t = record {
  to = comb (far G t) X (pos 1) t;
  keeps = λ g m. record {
    pos' = λ h. rw (at_comb (far G t) X (pos 1) t g) (stays_pos (far G t) (at g t) (at g X) (far_in G t m) h);
    neg' = λ h. rw (at_comb (far G t) X (pos 1) t g) (stays_neg (far G t) (at g t) (at g X) (far_in G t m) h);
  };
  goes = λ g h. rw (at_comb (far G t) X (pos 1) t g, h) (solve (nums 2) (λ k s. k ⊗ # 0 ⊕ # 1 ⊗ s ≐ s) tt (far G t) (at g t));
}

-- ---- a point between

-- the point where the way from X to Y meets p; what has both strictly on one side has it there too
pub record Between (p : Plane) (X Y : Point) : Type 0 where
  pub point : Point
  pub on_p : at p point ≡ pos 0
  pub fore : (h : Plane) → pos 0 ⋖ at h X → pos 0 ⋖ at h Y → pos 0 ⋖ at h point
  pub aft : (h : Plane) → at h X ⋖ pos 0 → at h Y ⋖ pos 0 → at h point ⋖ pos 0

pub between : (p : Plane) (X Y : Point) → pos 0 ⋖ at p X → at p Y ⋖ pos 0 → Between p X Y
between p X Y h k =
    let a : ℤ = at p X in
    let b : ℤ = neg_ℤ (at p Y) in
    let l = neg_pos k in
    record {
      point = comb b X a Y;
      on_p = at_comb b X a Y p ∙ solve (nums 2) (λ a b. neg b ⊗ a ⊕ a ⊗ b ≐ # 0) tt (at p X) (at p Y);
      fore = λ q i j. rw (at_comb b X a Y q) (search signs);
      aft = λ q i j. rw (at_comb b X a Y q) (lin (nums 4) (λ a b x y. (# 0 ≺ b ⊗ neg x) ∷ (# 0 ≺ a ⊗ neg y) ∷ [] ⊢ b ⊗ x ⊕ a ⊗ y ≺ # 0) (omega arith) a b (at q X) (at q Y)
          (mul_pos l (neg_pos i)) (mul_pos h (neg_pos j)));
    }

-- The walk on a plane p, by which a boundary plane is told: at a node of p it takes the side s; at another plane it goes where p has points, and keeps the half-space only if p has points on both sides.
use Rattle.std.specs.Prelude.{◌≡◌, Bool, true, false, ◌≢◌, ℕ, pos, neg_ℤ}
use Rattle.std.proofs.Math.Path.{refl}
use Rattle.std.proofs.Common.{sym, ap, ap₂, ◌∙◌, inl, inr, arith}
use mathlib.Core.List.{List, ◌∷◌, ◌++◌}
use Rattle.whole.specs.Order.{◌⋖◌, Lies, below, on, above, lies, pos_neg, lt_not_lt}
use Rattle.whole.specs.Members.{◌∈◌, here, there, in_left, in_right, in_either}
use Rattle.scope.proofs.Points.{flip_back, front_false, front_true}
use Rattle.scope.specs.Planes.{Plane, Point, at, flip}
use Rattle.scope.specs.Cells.{Inside, box, Cuts}
use Rattle.scope.specs.Solids.{Mark, Tree, leaf, node, planes, walk}
use Rattle.scope.specs.Normal.{both, taking, Boundary}
use Rattle.theory.specs.Cells.Reached.{Cell, whole, ahead, behind, Decider}
use Rattle.theory.specs.Cells.Move.{at_back, flip_front, move}
use Rattle.theory.specs.Cells.Box.{cons, tail, head}
use Rattle.theory.specs.Cells.Sides.{slide}
use Rattle.theory.specs.Planes.General.{Independent, General}
use Rattle.theory.specs.Cells.Walk.{EachPlane, each_p, each_f, each_b}
use Rattle.theory.specs.Planes.Order.{same?}
use Rattle.theory.specs.Cells.Clear.{Cleared, clear_on, keeps_inside, taking_same, taking_other}
use Rattle.theory.specs.Forms.Normal.{Within, mark?}

-- some leaf that the walk from the cell c comes to has P of its cell and mark
pub data Along (p : Plane) (s : Bool) (P : List Plane → Mark → Type 0) : List Plane → Tree → Type 0 where
  stop : {c : List Plane} {m : Mark} → P c m → Along p s P c (leaf m)
  same_front : {c : List Plane} {q : Plane} {f b : Tree} → q ≡ p → s ≡ true → Along p s P c f → Along p s P c (node q f b)
  same_back : {c : List Plane} {q : Plane} {f b : Tree} → q ≡ p → s ≡ false → Along p s P c b → Along p s P c (node q f b)
  both_front : {c : List Plane} {q : Plane} {f b : Tree} → q ≢ p → Cuts p (q ∷ c) → Cuts p (flip q ∷ c) → Along p s P (q ∷ c) f → Along p s P c (node q f b)
  both_back : {c : List Plane} {q : Plane} {f b : Tree} → q ≢ p → Cuts p (q ∷ c) → Cuts p (flip q ∷ c) → Along p s P (flip q ∷ c) b → Along p s P c (node q f b)
  only_front : {c : List Plane} {q : Plane} {f b : Tree} → q ≢ p → ¬ Cuts p (flip q ∷ c) → Along p s P c f → Along p s P c (node q f b)
  only_back : {c : List Plane} {q : Plane} {f b : Tree} → q ≢ p → ¬ Cuts p (q ∷ c) → Along p s P c b → Along p s P c (node q f b)

-- where p has no point behind q, its points are strictly in front: one on q could be moved along p
module _ (p q : Plane) {c : List Plane} (k : Independent p q) where
  pub strict_front : ¬ Cuts p (flip q ∷ c) → (X : Point) → at p X ≡ pos 0 → Inside c X → pos 0 ⋖ at q X
  strict_front n X z i = go (lies (at q X))
    where
      go : Lies (at q X) → pos 0 ⋖ at q X
      go (below h) = absurd (n (record { point = X; on = z; inside = cons (flip_front q X h) i }))
      go (on h) =
          let t = slide p q k in
          let y = move c X (flip t.0) in
          absurd (n (record {
            point = y.to;
            on = y.goes p z ∙ at_back p t.0 ∙ ap neg_ℤ t.1;
            inside = cons (flip_front q y.to (rw (y.goes q h, at_back q t.0) (pos_neg t.2))) (keeps_inside y.keeps i);
          }))
      go (above h) = h

  pub strict_back : ¬ Cuts p (q ∷ c) → (X : Point) → at p X ≡ pos 0 → Inside c X → at q X ⋖ pos 0
  strict_back n X z i = go (lies (at q X))
    where
      go : Lies (at q X) → at q X ⋖ pos 0
      go (below h) = h
      go (on h) =
          let t = slide p q k in
          let y = move c X t.0 in
          absurd (n (record { point = y.to; on = y.goes p z ∙ t.1; inside = cons (rw (y.goes q h) t.2) (keeps_inside y.keeps i) }))
      go (above h) = absurd (n (record { point = X; on = z; inside = cons h i }))

-- ---- what the walk finds

pub record Reached (p : Plane) (s : Bool) (P : List Plane → Mark → Type 0) (c : List Plane) (t : Tree) : Type 0 where
  pub cell : List Plane
  pub mark : Mark
  pub holds : P cell mark
  pub meets : Cuts p cell
  pub within : Within cell c
  pub says : (X : Point) → at p X ≡ pos 0 → Inside cell X → walk t (taking p s X) ≡ mark

-- p is independent of the other planes of the tree
pub record Across (p : Plane) (t : Tree) : Type 0 where
  pub each : (q : Plane) → q ∈ planes t → q ≢ p → Independent p q

module _ {p q : Plane} {f b : Tree} (a : Across p (node q f b)) where
  across_f : Across p f
  across_f = record { each = λ r m. a.each r (there (in_left (planes b) m)) }

  across_b : Across p b
  across_b = record { each = λ r m. a.each r (there (in_right (planes f) m)) }

pub step_front : (q : Plane) (f b : Tree) (σ : Plane → Bool) → σ q ≡ true → walk (node q f b) σ ≡ walk f σ
unfolding walk
step_front q f b σ e = rw e

pub step_back : (q : Plane) (f b : Tree) (σ : Plane → Bool) → σ q ≡ false → walk (node q f b) σ ≡ walk b σ
unfolding walk
step_back q f b σ e = rw e

true_false : true ≡ false → ⊥
true_false e = let z : ◌≡◌ {A = ℕ} 0 1 = cc in omega arith

not? : {A : Type 0} → Dec A → Dec (¬ A)
not? (yes a) = no (λ n. n a)
not? (no n) = yes n

module _ (p : Plane) (s : Bool) (P : List Plane → Mark → Type 0) where
  carry : {c d : List Plane} {t t' : Tree} → Within d c → ((X : Point) → at p X ≡ pos 0 → Inside d X → walk t (taking p s X) ≡ walk t' (taking p s X)) → Reached p s P d t' → Reached p s P c t
  carry w e r = record { cell = r.cell; mark = r.mark; holds = r.holds; meets = r.meets; within = λ X i. w X (r.within X i); says = λ X z i. e X z (r.within X i) ∙ r.says X z i }

  pub sound : {c : List Plane} {t : Tree} → Across p t → Cuts p c → Along p s P c t → Reached p s P c t
  unfolding walk
  sound {c} a k (stop {m = m} h) = record { cell = c; mark = m; holds = h; meets = k; within = λ X i. i; says = λ X z i. refl }
  sound a k (same_front {q = q} {f = f} {b = b} e d u) = carry (λ X i. i) (λ X z i. step_front q f b (taking p s X) (taking_same p s X q e ∙ d)) (sound (across_f a) k u)
  sound a k (same_back {q = q} {f = f} {b = b} e d u) = carry (λ X i. i) (λ X z i. step_back q f b (taking p s X) (taking_same p s X q e ∙ d)) (sound (across_b a) k u)
  sound a k (both_front {q = q} {f = f} {b = b} d x y u) =
      carry (λ X i. tail i) (λ X z i. step_front q f b (taking p s X) (taking_other p s X q d ∙ front_true q X (head i))) (sound (across_f a) x u)
  sound a k (both_back {q = q} {f = f} {b = b} d x y u) =
      carry (λ X i. tail i) (λ X z i. step_back q f b (taking p s X) (taking_other p s X q d ∙ front_false q X (flip_back q X (head i)))) (sound (across_b a) y u)
  sound a k (only_front {q = q} {f = f} {b = b} d n u) =
      carry (λ X i. i) (λ X z i. step_front q f b (taking p s X) (taking_other p s X q d ∙ front_true q X (strict_front p q (a.each q (here refl) d) n X z i))) (sound (across_f a) k u)
  sound a k (only_back {q = q} {f = f} {b = b} d n u) =
      carry (λ X i. i) (λ X z i. step_back q f b (taking p s X) (taking_other p s X q d ∙ front_false q X (strict_back p q (a.each q (here refl) d) n X z i))) (sound (across_b a) k u)

  -- and it finds every point of p that is off the other planes
  pub complete : (Ok : Plane → Type 0) → Ok p → Decider Ok → (X : Point) → at p X ≡ pos 0 → (t : Tree) → EachPlane Ok t → ((q : Plane) → q ∈ planes t → q ≢ p → at q X ≢ pos 0)
      → (c : List Plane) → Cell Ok c → Inside c X → ((d : List Plane) (m : Mark) → Cell Ok d → Inside d X → Within d c → walk t (taking p s X) ≡ m → P d m) → Along p s P c t
  unfolding walk
  complete Ok okay cuts? X z (leaf m) n o c a i k = stop (k c m a i (λ Y j. j) refl)
  complete Ok okay cuts? X z (node q f b) n o c a i k = go (same? q p) s refl
      (complete Ok okay cuts? X z f (each_f n) (λ r m. o r (there (in_left (planes b) m)))) (complete Ok okay cuts? X z b (each_b n) (λ r m. o r (there (in_right (planes f) m))))
    where
      F : Tree → Type 0
      F t = (d : List Plane) → Cell Ok d → Inside d X → ((e : List Plane) (m : Mark) → Cell Ok e → Inside e X → Within e d → walk t (taking p s X) ≡ m → P e m) → Along p s P d t

      go : Dec (q ≡ p) → (s' : Bool) → s ≡ s' → F f → F b → Along p s P c (node q f b)
      go (yes e) true h u v = same_front e h (u c a i (λ d m x j w l. k d m x j w (step_front q f b (taking p s X) (taking_same p s X q e ∙ h) ∙ l)))
      go (yes e) false h u v = same_back e h (v c a i (λ d m x j w l. k d m x j w (step_back q f b (taking p s X) (taking_same p s X q e ∙ h) ∙ l)))
      go (no d) s' h u v = at_q (lies (at q X))
        where
          at_q : Lies (at q X) → Along p s P c (node q f b)
          at_q (below g) = pick_q (cuts? p okay (q ∷ c) (ahead (each_p n) a))
            where
              l : walk (node q f b) (taking p s X) ≡ walk b (taking p s X)
              l = step_back q f b (taking p s X) (taking_other p s X q d ∙ front_false q X g)

              j : Inside (flip q ∷ c) X
              j = cons (flip_front q X g) i

              pick_q : Dec (Cuts p (q ∷ c)) → Along p s P c (node q f b)
              pick_q (yes x) = both_back d x (record { point = X; on = z; inside = j }) (v (flip q ∷ c) (behind (each_p n) a) j (λ d m y y' w e. k d m y y' (λ Y t. tail (w Y t)) (l ∙ e)))
              pick_q (no x) = only_back d x (v c a i (λ d m y y' w e. k d m y y' w (l ∙ e)))
          at_q (on g) = absurd (o q (here refl) d g)
          at_q (above g) = pick_q (cuts? p okay (flip q ∷ c) (behind (each_p n) a))
            where
              l : walk (node q f b) (taking p s X) ≡ walk f (taking p s X)
              l = step_front q f b (taking p s X) (taking_other p s X q d ∙ front_true q X g)

              j : Inside (q ∷ c) X
              j = cons g i

              pick_q : Dec (Cuts p (flip q ∷ c)) → Along p s P c (node q f b)
              pick_q (yes x) = both_front d (record { point = X; on = z; inside = j }) x (u (q ∷ c) (ahead (each_p n) a) j (λ d m y y' w e. k d m y y' (λ Y t. tail (w Y t)) (l ∙ e)))
              pick_q (no x) = only_front d x (u c a i (λ d m y y' w e. k d m y y' w (l ∙ e)))

  -- a walk at a node of p, and at a node of another plane
  pub at_own : {R : Type 0} {c : List Plane} {q : Plane} {f b : Tree} → q ≡ p → (s ≡ true → Along p s P c f → R) → (s ≡ false → Along p s P c b → R) → Along p s P c (node q f b) → R
  at_own e u v (same_front _ l x) = u l x
  at_own e u v (same_back _ l x) = v l x
  at_own e u v (both_front d _ _ x) = absurd (d e)
  at_own e u v (both_back d _ _ x) = absurd (d e)
  at_own e u v (only_front d _ x) = absurd (d e)
  at_own e u v (only_back d _ x) = absurd (d e)

  pub at_other : {R : Type 0} {c : List Plane} {q : Plane} {f b : Tree} → q ≢ p
      → (Cuts p (q ∷ c) → Cuts p (flip q ∷ c) → Along p s P (q ∷ c) f → R) → (Cuts p (q ∷ c) → Cuts p (flip q ∷ c) → Along p s P (flip q ∷ c) b → R)
      → (¬ Cuts p (flip q ∷ c) → Along p s P c f → R) → (¬ Cuts p (q ∷ c) → Along p s P c b → R) → Along p s P c (node q f b) → R
  at_other d u v f b (same_front e _ w) = absurd (d e)
  at_other d u v f b (same_back e _ w) = absurd (d e)
  at_other d u v f b (both_front _ x y w) = u x y w
  at_other d u v f b (both_back _ x y w) = v x y w
  at_other d u v f b (only_front _ y w) = f y w
  at_other d u v f b (only_back _ x w) = b x w

  -- the walk ends, and tells
  pub along? : (Ok : Plane → Type 0) → Ok p → Decider Ok → ((d : List Plane) (m : Mark) → Cell Ok d → Cuts p d → Dec (P d m)) → (t : Tree) → EachPlane Ok t → Across p t → (c : List Plane) → Cell Ok c → Cuts p c → Dec (Along p s P c t)
  along? Ok okay cuts? h (leaf m) n a c x k = go (h c m x k)
    where
      go : Dec (P c m) → Dec (Along p s P c (leaf m))
      go (yes l) = yes (stop l)
      go (no n) = no (λ u. elim u [ stop l ↦ n l ])
  along? Ok okay cuts? h (node q f b) ok a c cell k = go (same? q p) (along? Ok okay cuts? h f (each_f ok) (across_f a)) (along? Ok okay cuts? h b (each_b ok) (across_b a))
    where
      F : Tree → Type 0
      F t = (d : List Plane) → Cell Ok d → Cuts p d → Dec (Along p s P d t)

      at_p : q ≡ p → (s' : Bool) → s ≡ s' → F f → F b → Dec (Along p s P c (node q f b))
      at_p e true l u v = on_f (u c cell k)
        where
          on_f : Dec (Along p s P c f) → Dec (Along p s P c (node q f b))
          on_f (yes x) = yes (same_front e l x)
          on_f (no n) = no (at_own e (λ r x. n x) (λ r x. true_false (sym l ∙ r)))
      at_p e false l u v = on_b (v c cell k)
        where
          on_b : Dec (Along p s P c b) → Dec (Along p s P c (node q f b))
          on_b (yes x) = yes (same_back e l x)
          on_b (no n) = no (at_own e (λ r x. true_false (sym r ∙ l)) (λ r x. n x))

      off_p : q ≢ p → Dec (Cuts p (q ∷ c)) → Dec (Cuts p (flip q ∷ c)) → F f → F b → Dec (Along p s P c (node q f b))
      off_p d (yes x) (yes y) u v = two (u (q ∷ c) (ahead (each_p ok) cell) x) (v (flip q ∷ c) (behind (each_p ok) cell) y)
        where
          two : Dec (Along p s P (q ∷ c) f) → Dec (Along p s P (flip q ∷ c) b) → Dec (Along p s P c (node q f b))
          two (yes w) r = yes (both_front d x y w)
          two (no n) (yes w) = yes (both_back d x y w)
          two (no n) (no n') = no (at_other d (λ i j w. n w) (λ i j w. n' w) (λ z w. z y) (λ z w. z x))
      off_p d (yes x) (no y) u v = on_f (u c cell k)
        where
          on_f : Dec (Along p s P c f) → Dec (Along p s P c (node q f b))
          on_f (yes w) = yes (only_front d y w)
          on_f (no n) = no (at_other d (λ i j w. y j) (λ i j w. y j) (λ z w. n w) (λ z w. z x))
      off_p d (no x) (yes y) u v = on_b (v c cell k)
        where
          on_b : Dec (Along p s P c b) → Dec (Along p s P c (node q f b))
          on_b (yes w) = yes (only_back d x w)
          on_b (no n) = no (at_other d (λ i j w. x i) (λ i j w. x i) (λ z w. z y) (λ z w. n w))
      off_p d (no x) (no y) u v = absurd (lt_not_lt (strict_front p q i y k.point k.on k.inside) (strict_back p q i x k.point k.on k.inside))
        where
          i : Independent p q
          i = a.each q (here refl) d

      go : Dec (q ≡ p) → F f → F b → Dec (Along p s P c (node q f b))
      go (yes e) u v = at_p e s refl u v
      go (no d) u v = off_p d (cuts? p okay (q ∷ c) (ahead (each_p ok) cell)) (cuts? p okay (flip q ∷ c) (behind (each_p ok) cell)) u v

-- ---- a boundary plane of an operation of two trees

module _ (Ok : Plane → Type 0) (cuts? : Decider Ok) (o : Mark → Mark → Mark) {A B : Tree} (n : EachPlane Ok A) (n' : EachPlane Ok B) (g : General (planes A ++ planes B)) (p : Plane) (m : p ∈ (planes A ++ planes B)) where
  -- A and B with fronts, then A and B with backs
  abbrev pub Four : Type 0
  Four = Along p true (λ c a. Along p true (λ d b. Along p false (λ e a'. Along p false (λ e' b'. o a b ≢ o a' b') e B) d A) c B) box A

  okay : Ok p
  okay = elim (in_either (planes A) (planes B) m) [ inl i ↦ n.each p i | inr i ↦ n'.each p i ]

  across_A : Across p A
  across_A = record { each = λ q n d. g.apart p q m (in_left (planes B) n) (λ e. d (sym e)) }

  across_B : Across p B
  across_B = record { each = λ q n d. g.apart p q m (in_right (planes A) n) (λ e. d (sym e)) }

  pub four_boundary : Cuts p box → Four → Boundary (both o A B) p
  four_boundary k u =
      let r₁ = sound p true _ across_A k u in
      let r₂ = sound p true _ across_B r₁.meets r₁.holds in
      let r₃ = sound p false _ across_A r₂.meets r₂.holds in
      ends r₁ r₂ r₃ (sound p false _ across_B r₃.meets r₃.holds)
    where
      ends : {P₁ P₂ P₃ : List Plane → Mark → Type 0} (r₁ : Reached p true P₁ box A) (r₂ : Reached p true P₂ r₁.cell B) (r₃ : Reached p false P₃ r₂.cell A)
          → Reached p false (λ e b'. o r₁.mark r₂.mark ≢ o r₃.mark b') r₃.cell B → Boundary (both o A B) p
      ends r₁ r₂ r₃ r₄ = at_point y.to y.on_p y.off (keeps_inside y.keeps r₄.meets.inside)
        where
          y : Cleared p r₄.cell (planes A ++ planes B) r₄.meets.point
          y = clear_on p r₄.cell (planes A ++ planes B) r₄.meets.point r₄.meets.on (λ q n d. g.apart p q m n (λ e. d (sym e)))

          at_point : (X : Point) → at p X ≡ pos 0 → ((q : Plane) → q ∈ (planes A ++ planes B) → q ≢ p → at q X ≢ pos 0) → Inside r₄.cell X → Boundary (both o A B) p
          at_point X z off i₄ =
              let i₃ = r₄.within X i₄ in
              let i₂ = r₃.within X i₃ in
              let i₁ = r₂.within X i₂ in
              record {
                member = m;
                point = X;
                inside = r₁.within X i₁;
                on = z;
                others = off;
                differ = λ e. r₄.holds (sym (ap₂ o (r₁.says X z i₁) (r₂.says X z i₂)) ∙ e ∙ ap₂ o (r₃.says X z i₃) (r₄.says X z i₄));
              }

  pub boundary_four : Boundary (both o A B) p → Four
  boundary_four b =
      complete p true _ Ok okay cuts? b.point b.on A n off_A box whole b.inside (λ c a x₁ i₁ w₁ e₁.
      complete p true _ Ok okay cuts? b.point b.on B n' off_B c x₁ i₁ (λ d b₁ x₂ i₂ w₂ e₂.
      complete p false _ Ok okay cuts? b.point b.on A n off_A d x₂ i₂ (λ e a' x₃ i₃ w₃ e₃.
      complete p false _ Ok okay cuts? b.point b.on B n' off_B e x₃ i₃ (λ e' b' x₄ i₄ w₄ e₄ l. b.differ (ap₂ o e₁ e₂ ∙ l ∙ sym (ap₂ o e₃ e₄))))))
    where
      off_A : (q : Plane) → q ∈ planes A → q ≢ p → at q b.point ≢ pos 0
      off_A q n = b.others q (in_left (planes B) n)

      off_B : (q : Plane) → q ∈ planes B → q ≢ p → at q b.point ≢ pos 0
      off_B q n = b.others q (in_right (planes A) n)

  pub boundary? : Dec (Boundary (both o A B) p)
  boundary? = go (cuts? p okay box whole)
    where
      tell : Dec Four → Cuts p box → Dec (Boundary (both o A B) p)
      tell (yes u) k = yes (four_boundary k u)
      tell (no n) k = no (λ b. n (boundary_four b))

      go : Dec (Cuts p box) → Dec (Boundary (both o A B) p)
      go (yes k) = tell (along? p true _ Ok okay cuts? (λ c a x₁ k₁. along? p true _ Ok okay cuts? (λ d b x₂ k₂. along? p false _ Ok okay cuts? (λ e a' x₃ k₃. along? p false _ Ok okay cuts?
          (λ e' b' x₄ k₄. not? (mark? (o a b) (o a' b'))) B n' across_B e x₃ k₃) A n across_A d x₂ k₂) B n' across_B c x₁ k₁) A n across_A box whole k) k
      go (no n) = no (λ b. n (record { point = b.point; on = b.on; inside = b.inside }))

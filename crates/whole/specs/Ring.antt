-- A normal form for expressions of the ring ℤ: a sorted list of monomials with their coefficients, a monomial being a sorted list of variables.
-- `ring ρ e₁ e₂ tt` proves an identity: that the normal form of the difference is empty is a test of a closed term, which antt computes.
use Rattle.std.specs.Prelude.{◌≡◌, refl, Bool, true, false, T, leb, ℤ, negsuc, ◌+ℤ◌, ◌*ℤ◌}
use Rattle.std.proofs.Common.{sym, ◌∙◌, arith, eqb→eq}
use Rattle.std.proofs.Math.Path.{ap}
use mathlib.Core.List.{List, [], ◌∷◌}
use Prim.Native.Nat.{ℕ, zero, suc, compare, Ordering}
use Rattle.std.proofs.Math.Dec.{compare_is_eq}
use Rattle.std.proofs.Math.IntN.{pos, neg_ℤ}
use Rattle.whole.specs.Difference.{minus_0}
use Rattle.whole.specs.Expr.{Expr, con, v, ◌⊕◌, ◌⊖◌, ◌⊗◌, neg, at, eval, byℕ, *ℤ-assoc}

-- ---- monomials

abbrev ins_v : ℕ → List ℕ → List ℕ
ins_v i [] = i ∷ []
ins_v i (j ∷ m) = elim (leb i j) [ true ↦ i ∷ j ∷ m | false ↦ j ∷ ins_v i m ]

abbrev mul_m : List ℕ → List ℕ → List ℕ
mul_m [] n = n
mul_m (i ∷ m) n = ins_v i (mul_m m n)

abbrev cmp_m : List ℕ → List ℕ → Ordering
cmp_m [] [] = Ordering.eq
cmp_m [] (j ∷ n) = Ordering.lt
cmp_m (i ∷ m) [] = Ordering.gt
cmp_m (i ∷ m) (j ∷ n) = elim (compare i j) [ Ordering.lt ↦ Ordering.lt | Ordering.eq ↦ cmp_m m n | Ordering.gt ↦ Ordering.gt ]

-- ---- polynomials

pub data Poly : Type 0 where
  nil : Poly
  term : List ℕ → ℤ → Poly → Poly

abbrev cons_t : List ℕ → ℤ → Poly → Poly
cons_t m (pos zero) p = p
cons_t m (pos (suc n)) p = term m (pos (suc n)) p
cons_t m (negsuc n) p = term m (negsuc n) p

-- c m + p + q, where f adds p, and m stands before all of p
abbrev merge_t : List ℕ → ℤ → (Poly → Poly) → Poly → Poly
merge_t m c f nil = term m c (f nil)
merge_t m c f (term n d q) = elim (cmp_m m n) [ Ordering.lt ↦ term m c (f (term n d q)) | Ordering.eq ↦ cons_t m (c +ℤ d) (f q) | Ordering.gt ↦ term n d (merge_t m c f q) ]

abbrev add_p : Poly → Poly → Poly
add_p nil q = q
add_p (term m c p) q = merge_t m c (add_p p) q

-- c m p
abbrev mul_t : List ℕ → ℤ → Poly → Poly
mul_t m c nil = nil
mul_t m c (term n d p) = merge_t (mul_m m n) (c *ℤ d) (λ q. q) (mul_t m c p)

abbrev mul_p : Poly → Poly → Poly
mul_p nil q = nil
mul_p (term m c p) q = add_p (mul_t m c q) (mul_p p q)

abbrev neg_p : Poly → Poly
neg_p nil = nil
neg_p (term m c p) = term m (neg_ℤ c) (neg_p p)

abbrev pub norm : Expr → Poly
norm (con c) = cons_t [] c nil
norm (v i) = term (i ∷ []) (pos 1) nil
norm (a ⊕ b) = add_p (norm a) (norm b)
norm (a ⊖ b) = add_p (norm a) (neg_p (norm b))
norm (a ⊗ b) = mul_p (norm a) (norm b)
norm (neg a) = neg_p (norm a)

-- ---- values

module _ (ρ : List ℤ) where
  abbrev pub ev_m : List ℕ → ℤ
  ev_m [] = pos 1
  ev_m (i ∷ m) = at ρ i *ℤ ev_m m

  abbrev pub ev_poly : Poly → ℤ
  ev_poly nil = pos 0
  ev_poly (term m c p) = c *ℤ ev_m m +ℤ ev_poly p

swap : (a b c : ℤ) → a *ℤ (b *ℤ c) ≡ b *ℤ (a *ℤ c)
swap a b c = byℕ (a ∷ b ∷ c ∷ []) (v 0 ⊗ (v 1 ⊗ v 2)) (v 1 ⊗ (v 0 ⊗ v 2)) (omega arith)

shuffle : (a b c d : ℤ) → (a *ℤ b) *ℤ (c *ℤ d) ≡ (a *ℤ c) *ℤ (b *ℤ d)
shuffle a b c d = byℕ (a ∷ b ∷ c ∷ d ∷ []) ((v 0 ⊗ v 1) ⊗ (v 2 ⊗ v 3)) ((v 0 ⊗ v 2) ⊗ (v 1 ⊗ v 3)) (omega arith)

module _ (ρ : List ℤ) where
  ins_v_ok : (i : ℕ) (m : List ℕ) → ev_m ρ (ins_v i m) ≡ at ρ i *ℤ ev_m ρ m
  ins_v_ok i [] = refl
  ins_v_ok i (j ∷ m) = go (leb i j) (ins_v_ok i m)
    where
      go : (b : Bool) → ev_m ρ (ins_v i m) ≡ at ρ i *ℤ ev_m ρ m → ev_m ρ (elim b [ true ↦ i ∷ j ∷ m | false ↦ j ∷ ins_v i m ]) ≡ at ρ i *ℤ (at ρ j *ℤ ev_m ρ m)
      go true h = refl
      go false h = ap (λ t. at ρ j *ℤ t) h ∙ swap (at ρ j) (at ρ i) (ev_m ρ m)

  mul_m_ok : (m n : List ℕ) → ev_m ρ (mul_m m n) ≡ ev_m ρ m *ℤ ev_m ρ n
  mul_m_ok [] n = byℕ (ev_m ρ n ∷ []) (v 0) (con (pos 1) ⊗ v 0) (omega arith)
  mul_m_ok (i ∷ m) n = ins_v_ok i (mul_m m n) ∙ ap (λ t. at ρ i *ℤ t) (mul_m_ok m n) ∙ sym (*ℤ-assoc (at ρ i) (ev_m ρ m) (ev_m ρ n))

  cons_t_ok : (m : List ℕ) (c : ℤ) (p : Poly) → ev_poly ρ (cons_t m c p) ≡ c *ℤ ev_m ρ m +ℤ ev_poly ρ p
  cons_t_ok m (pos zero) p = byℕ (ev_m ρ m ∷ ev_poly ρ p ∷ []) (v 1) (con (pos 0) ⊗ v 0 ⊕ v 1) (omega arith)
  cons_t_ok m (pos (suc n)) p = refl
  cons_t_ok m (negsuc n) p = refl

cmp_eq : (m n : List ℕ) → T (compare_is_eq (cmp_m m n)) → m ≡ n
cmp_eq [] [] t = refl
cmp_eq [] (j ∷ n) t = absurd t
cmp_eq (i ∷ m) [] t = absurd t
cmp_eq (i ∷ m) (j ∷ n) t = go (compare i j) (eqb→eq i j) (cmp_eq m n) t
  where
    go : (o : Ordering) → (T (compare_is_eq o) → i ≡ j) → (T (compare_is_eq (cmp_m m n)) → m ≡ n)
        → T (compare_is_eq (elim o [ Ordering.lt ↦ Ordering.lt | Ordering.eq ↦ cmp_m m n | Ordering.gt ↦ Ordering.gt ])) → ◌≡◌ {A = List ℕ} (i ∷ m) (j ∷ n)
    go Ordering.lt f g t = absurd t
    go Ordering.eq f g t = let e : i ≡ j = f tt in let d : m ≡ n = g t in cc
    go Ordering.gt f g t = absurd t

module _ (ρ : List ℤ) where
  -- what f does: it adds p
  Adds : (Poly → Poly) → ℤ → Type 0
  Adds f p = (q : Poly) → ev_poly ρ (f q) ≡ p +ℤ ev_poly ρ q

  merge_t_ok : (m : List ℕ) (c : ℤ) (f : Poly → Poly) (p : ℤ) → Adds f p → Adds (merge_t m c f) (c *ℤ ev_m ρ m +ℤ p)
  unfolding Adds
  merge_t_ok m c f p ok nil = ap (λ t. c *ℤ ev_m ρ m +ℤ t) (ok nil) ∙ byℕ ((c *ℤ ev_m ρ m) ∷ p ∷ []) (v 0 ⊕ (v 1 ⊕ con (pos 0))) (v 0 ⊕ v 1 ⊕ con (pos 0)) (omega arith)
  merge_t_ok m c f p ok (term n d q) = go (cmp_m m n) (cmp_eq m n) (merge_t_ok m c f p ok q)
    where
      go : (o : Ordering) → (T (compare_is_eq o) → m ≡ n) → ev_poly ρ (merge_t m c f q) ≡ (c *ℤ ev_m ρ m +ℤ p) +ℤ ev_poly ρ q
          → ev_poly ρ (elim o [ Ordering.lt ↦ term m c (f (term n d q)) | Ordering.eq ↦ cons_t m (c +ℤ d) (f q) | Ordering.gt ↦ term n d (merge_t m c f q) ])
          ≡ (c *ℤ ev_m ρ m +ℤ p) +ℤ (d *ℤ ev_m ρ n +ℤ ev_poly ρ q)
      go Ordering.lt e h = ap (λ t. c *ℤ ev_m ρ m +ℤ t) (ok (term n d q))
          ∙ byℕ ((c *ℤ ev_m ρ m) ∷ p ∷ (d *ℤ ev_m ρ n) ∷ ev_poly ρ q ∷ []) (v 0 ⊕ (v 1 ⊕ (v 2 ⊕ v 3))) ((v 0 ⊕ v 1) ⊕ (v 2 ⊕ v 3)) (omega arith)
      go Ordering.eq e h = cons_t_ok ρ m (c +ℤ d) (f q) ∙ ap (λ t. (c +ℤ d) *ℤ ev_m ρ m +ℤ t) (ok q)
          ∙ byℕ (c ∷ d ∷ ev_m ρ m ∷ p ∷ ev_poly ρ q ∷ []) ((v 0 ⊕ v 1) ⊗ v 2 ⊕ (v 3 ⊕ v 4)) ((v 0 ⊗ v 2 ⊕ v 3) ⊕ (v 1 ⊗ v 2 ⊕ v 4)) (omega arith)
          ∙ ap (λ (l : List ℕ). (c *ℤ ev_m ρ m +ℤ p) +ℤ (d *ℤ ev_m ρ l +ℤ ev_poly ρ q)) (e tt)
      go Ordering.gt e h = ap (λ t. d *ℤ ev_m ρ n +ℤ t) h
          ∙ byℕ ((c *ℤ ev_m ρ m) ∷ p ∷ (d *ℤ ev_m ρ n) ∷ ev_poly ρ q ∷ []) (v 2 ⊕ ((v 0 ⊕ v 1) ⊕ v 3)) ((v 0 ⊕ v 1) ⊕ (v 2 ⊕ v 3)) (omega arith)

  add_p_ok : (p : Poly) → Adds (add_p p) (ev_poly ρ p)
  unfolding Adds
  add_p_ok nil q = byℕ (ev_poly ρ q ∷ []) (v 0) (con (pos 0) ⊕ v 0) (omega arith)
  add_p_ok (term m c p) q = merge_t_ok m c (add_p p) (ev_poly ρ p) (add_p_ok p) q

  mul_t_ok : (m : List ℕ) (c : ℤ) (p : Poly) → ev_poly ρ (mul_t m c p) ≡ (c *ℤ ev_m ρ m) *ℤ ev_poly ρ p
  unfolding Adds
  mul_t_ok m c nil = byℕ ((c *ℤ ev_m ρ m) ∷ []) (con (pos 0)) (v 0 ⊗ con (pos 0)) (omega arith)
  mul_t_ok m c (term n d p) =
      merge_t_ok (mul_m m n) (c *ℤ d) (λ q. q) (pos 0) (λ q. byℕ (ev_poly ρ q ∷ []) (v 0) (con (pos 0) ⊕ v 0) (omega arith)) (mul_t m c p)
      ∙ ap (λ t. (c *ℤ d) *ℤ t +ℤ pos 0 +ℤ ev_poly ρ (mul_t m c p)) (mul_m_ok ρ m n)
      ∙ ap (λ t. (c *ℤ d) *ℤ (ev_m ρ m *ℤ ev_m ρ n) +ℤ pos 0 +ℤ t) (mul_t_ok m c p)
      ∙ ap (λ t. t +ℤ pos 0 +ℤ (c *ℤ ev_m ρ m) *ℤ ev_poly ρ p) (shuffle c d (ev_m ρ m) (ev_m ρ n))
      ∙ byℕ ((c *ℤ ev_m ρ m) ∷ (d *ℤ ev_m ρ n) ∷ ev_poly ρ p ∷ []) (v 0 ⊗ v 1 ⊕ con (pos 0) ⊕ v 0 ⊗ v 2) (v 0 ⊗ (v 1 ⊕ v 2)) (omega arith)

  mul_p_ok : (p q : Poly) → ev_poly ρ (mul_p p q) ≡ ev_poly ρ p *ℤ ev_poly ρ q
  unfolding Adds
  mul_p_ok nil q = byℕ (ev_poly ρ q ∷ []) (con (pos 0)) (con (pos 0) ⊗ v 0) (omega arith)
  mul_p_ok (term m c p) q = add_p_ok (mul_t m c q) (mul_p p q) ∙ ap (λ t. t +ℤ ev_poly ρ (mul_p p q)) (mul_t_ok m c q) ∙ ap (λ t. (c *ℤ ev_m ρ m) *ℤ ev_poly ρ q +ℤ t) (mul_p_ok p q)
      ∙ byℕ ((c *ℤ ev_m ρ m) ∷ ev_poly ρ p ∷ ev_poly ρ q ∷ []) (v 0 ⊗ v 2 ⊕ v 1 ⊗ v 2) ((v 0 ⊕ v 1) ⊗ v 2) (omega arith)

  neg_p_ok : (p : Poly) → ev_poly ρ (neg_p p) ≡ neg_ℤ (ev_poly ρ p)
  neg_p_ok nil = refl
  neg_p_ok (term m c p) = ap (λ t. neg_ℤ c *ℤ ev_m ρ m +ℤ t) (neg_p_ok p) ∙ byℕ (c ∷ ev_m ρ m ∷ ev_poly ρ p ∷ []) (neg (v 0) ⊗ v 1 ⊕ neg (v 2)) (neg (v 0 ⊗ v 1 ⊕ v 2)) (omega arith)

  pub norm_ok : (e : Expr) → ev_poly ρ (norm e) ≡ eval ρ e
  unfolding Adds
  norm_ok (con c) = cons_t_ok ρ [] c nil ∙ byℕ (c ∷ []) (v 0 ⊗ con (pos 1) ⊕ con (pos 0)) (v 0) (omega arith)
  norm_ok (v i) = byℕ (at ρ i ∷ []) (con (pos 1) ⊗ (v 0 ⊗ con (pos 1)) ⊕ con (pos 0)) (v 0) (omega arith)
  norm_ok (a ⊕ b) = add_p_ok (norm a) (norm b) ∙ cc (norm_ok a, norm_ok b)
  norm_ok (a ⊖ b) = add_p_ok (norm a) (neg_p (norm b)) ∙ cc (norm_ok a, neg_p_ok (norm b), norm_ok b)
  norm_ok (a ⊗ b) = mul_p_ok (norm a) (norm b) ∙ cc (norm_ok a, norm_ok b)
  norm_ok (neg a) = neg_p_ok (norm a) ∙ ap neg_ℤ (norm_ok a)

-- e is 0 as a polynomial: a test, which antt computes
abbrev pub is_nil : Poly → Bool
is_nil nil = true
is_nil (term m c p) = false

abbrev pub vanishes : Expr → Bool
vanishes e = is_nil (norm e)

nil_0 : (ρ : List ℤ) (p : Poly) → T (is_nil p) → ev_poly ρ p ≡ pos 0
nil_0 ρ nil t = refl
nil_0 ρ (term m c p) t = absurd t

pub ring : (ρ : List ℤ) (e₁ e₂ : Expr) → T (vanishes (e₁ ⊖ e₂)) → eval ρ e₁ ≡ eval ρ e₂
ring ρ e₁ e₂ t = minus_0 (eval ρ e₁) (eval ρ e₂) (sym (norm_ok ρ (e₁ ⊖ e₂)) ∙ nil_0 ρ (norm (e₁ ⊖ e₂)) t)

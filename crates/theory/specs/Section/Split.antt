-- The corners of a convex polygon inside a line h are one run: some rotation has them first, and the others after.
--     Shape, shape   all inside, none inside, or such a rotation
use Rattle.std.specs.Prelude.{◌⊎◌, List, [], ◌∷◌, ◌++◌, ℤ, pos}
use Rattle.std.proofs.Common.{inl, inr, append_assoc, arith}
use Rattle.std.proofs.Math.Logic.{⊎_swap}
use Rattle.whole.specs.Expr.{#, ◌⊕◌, ◌⊗◌, neg}
use Rattle.whole.specs.Vec.{V3}
use Rattle.whole.specs.Solve.{nums}
use Rattle.whole.specs.Lin.{lin, ◌⊢◌, ◌≦◌, ◌≺◌, ◌≋◌}
use Rattle.whole.specs.Order.{◌⋖◌, Lies, below, on, above, lies, mul_pos, mul_nonneg, lt_le, eq_le, neg_nonneg}
use Rattle.whole.specs.Lists.{Each, Each.none, Each.◌and◌, Triples, each_zip, each_app, each_right, each_head, each_tail, pairs_head, pairs_tail, pairs_right, triples_head, triples_tail, triples_right, Rot, same, rot_app}
use Rattle.theory.specs.Section.Flat.{dt, dv, four, Corner, In, Out, Left, left_turn}

-- ---- runs of entries that are Q or Q'

-- all Q, or Q up to the first that is Q'
data Span (Q Q' : Corner → Type 0) : List Corner → Type 0 where
  all : {A : List Corner} → Each Q A → Span Q Q' A
  upto : (A : List Corner) {b : Corner} (B : List Corner) → Each Q A → Q' b → Span Q Q' (A ++ b ∷ B)

span_cons : {Q Q' : Corner → Type 0} {z : Corner} {zs : List Corner} → Q z ⊎ Q' z → Span Q Q' zs → Span Q Q' (z ∷ zs)
span_cons {zs = zs} (inr q) s = upto [] zs none q
span_cons (inl q) (all e) = all (q and e)
span_cons {z = z} (inl q) (upto A B e b) = upto (z ∷ A) B (q and e) b

span : {Q Q' : Corner → Type 0} → ((z : Corner) → Q z ⊎ Q' z) → (zs : List Corner) → Span Q Q' zs
span d [] = all none
span d (z ∷ zs) = span_cons (d z) (span d zs)

-- one run, two or three
data Runs (Q Q' : Corner → Type 0) : List Corner → Type 0 where
  one : {Z : List Corner} → Each Q Z → Runs Q Q' Z
  two : (a : Corner) (A : List Corner) (b : Corner) (B : List Corner) → Each Q (a ∷ A) → Each Q' (b ∷ B) → Runs Q Q' (a ∷ (A ++ b ∷ B))
  three : (a : Corner) (A : List Corner) (b : Corner) (B : List Corner) (c : Corner) (C : List Corner) → Each Q (a ∷ A) → Each Q' (b ∷ B) → Each Q (c ∷ C)
      → Runs Q Q' (a ∷ (A ++ b ∷ (B ++ c ∷ C)))

-- where no four corners in order are Q, Q', Q, Q' there are no more than three runs
module _ (Q Q' : Corner → Type 0) (dec : (z : Corner) → Q z ⊎ Q' z)
    (no4 : (a b c d : Corner) → Left b c d → Left a b d → Left a c d → Left a b c → Q a → Q' b → Q c → Q' d → ⊥) where
  third : (z b c x : Corner) → Q z → Q' b → Q c → Left z b c → Left b c x → Left z b x × Left z c x → Q x
  third z b c x qz qb qc l l1 l2 = go (dec x)
    where
      go : Q x ⊎ Q' x → Q x
      go (inl q) = q
      go (inr q) = absurd (no4 z b c x l1 l2.0 l2.1 l qz qb qc q)

  runs_2 : (z : Corner) (A : List Corner) (b : Corner) {B : List Corner} → Each Q (z ∷ A) → Q' b → Triples Left (z ∷ (A ++ b ∷ B)) → Span Q' Q B → Runs Q Q' (z ∷ (A ++ b ∷ B))
  runs_2 z A b e q t (all {A = B} e') = two z A b B e (q and e')
  runs_2 z A b e q t (upto B {b = c} C e' qc) =
      let p = pairs_right A (triples_head t) in
      let zb = each_right B (pairs_head p) in
      let zc = pairs_head (pairs_right B (pairs_tail p)) in
      let bc = pairs_head (pairs_right B (triples_head (triples_right A (triples_tail t)))) in
      three z A b B c C e (q and e') (qc and each_zip (λ x l1 l2. third z b c x (each_head e) q qc (each_head zb) l1 l2) bc (each_zip (λ x i j. (i, j)) (each_tail zb) zc))

  runs_1 : (z : Corner) {zs : List Corner} → Q z → Triples Left (z ∷ zs) → Span Q Q' zs → Runs Q Q' (z ∷ zs)
  runs_1 z q t (all e) = one (q and e)
  runs_1 z q t (upto A {b = b} B e qb) = runs_2 z A b (q and e) qb t (span (λ z. ⊎_swap (dec z)) B)

  runs : (z : Corner) (zs : List Corner) → Q z → Triples Left (z ∷ zs) → Runs Q Q' (z ∷ zs)
  runs z zs q t = runs_1 z q t (span dec zs)

-- ---- the two sides of h

module _ (h : V3 ℤ) where
  in_out : (z : Corner) → In h z ⊎ Out h z
  in_out z = go (lies (dt h z.v))
    where
      go : Lies (dt h z.v) → In h z ⊎ Out h z
      go (below t) = inr (lt_le t)
      go (on t) = inr (eq_le t)
      go (above t) = inl t

  -- a convex polygon has no four corners in order inside, not, inside, not
  no_in_out : (a b c d : Corner) → Left b c d → Left a b d → Left a c d → Left a b c → In h a → Out h b → In h c → Out h d → ⊥
  no_in_out a b c d i j k l pa nb pc nd = absurd (let t : pos 0 ⋖ pos 0 =
      lin (nums 8) (λ i j k l p q r s. (i ⊗ p ⊕ j ⊗ r ≋ k ⊗ q ⊕ l ⊗ s) ∷ (# 0 ≺ i ⊗ p) ∷ (# 0 ≺ j ⊗ r) ∷ (# 0 ≦ k ⊗ neg q) ∷ (# 0 ≦ l ⊗ neg s) ∷ [] ⊢ # 0 ≺ # 0) (omega arith)
      (dv b.v c.v d.v) (dv a.v b.v d.v) (dv a.v c.v d.v) (dv a.v b.v c.v) (dt h a.v) (dt h b.v) (dt h c.v) (dt h d.v)
      (four a.v b.v c.v d.v h) (mul_pos i.ccw pa) (mul_pos j.ccw pc) (mul_nonneg (lt_le k.ccw) (neg_nonneg nb)) (mul_nonneg (lt_le l.ccw) (neg_nonneg nd)) in t.lt)

  no_out_in : (a b c d : Corner) → Left b c d → Left a b d → Left a c d → Left a b c → Out h a → In h b → Out h c → In h d → ⊥
  no_out_in a b c d i j k l na pb nc pd = no_in_out b c d a (left_turn k) (left_turn l) (left_turn j) i pb nc pd na

  -- how the corners lie about h
  pub data Shape (Z : List Corner) : Type 0 where
    inside : Each (In h) Z → Shape Z
    outside : Each (Out h) Z → Shape Z
    mixed : (p : Corner) (P : List Corner) (n : Corner) (N : List Corner) → Each (In h) (p ∷ P) → Each (Out h) (n ∷ N) → Rot Z (p ∷ (P ++ n ∷ N)) → Shape Z

  shape_in : {Z : List Corner} → Runs (In h) (Out h) Z → Shape Z
  shape_in (one e) = inside e
  shape_in (two a A b B e f) = mixed a A b B e f same
  shape_in (three a A b B c C e f g) = mixed c (C ++ a ∷ A) b B (each_app g e) f
      (rw (append_assoc C (a ∷ A) (b ∷ B)) (rw (append_assoc A (b ∷ B) (c ∷ C)) at (rot_app ((a ∷ A) ++ b ∷ B) (c ∷ C))))

  shape_out : {Z : List Corner} → Runs (Out h) (In h) Z → Shape Z
  shape_out (one e) = outside e
  shape_out (two a A b B e f) = mixed b B a A f e (rot_app (a ∷ A) (b ∷ B))
  shape_out (three a A b B c C e f g) = mixed b B c (C ++ a ∷ A) f (each_app g e) (rw (append_assoc B (c ∷ C) (a ∷ A)) at (rot_app (a ∷ A) (b ∷ (B ++ c ∷ C))))

  pub shape : (Z : List Corner) → Triples Left Z → Shape Z
  shape [] t = inside none
  shape (z ∷ zs) t = go (in_out z)
    where
      go : In h z ⊎ Out h z → Shape (z ∷ zs)
      go (inl q) = shape_in (runs (In h) (Out h) in_out no_in_out z zs q t)
      go (inr q) = shape_out (runs (Out h) (In h) (λ z. ⊎_swap (in_out z)) no_out_in z zs q t)

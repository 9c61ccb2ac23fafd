-- A cell is uniform exactly if the merge in it gives a mark: a merged tree with a node has points of both marks.
use Rattle.std.specs.Prelude.{◌≡◌, List, ◌∷◌, ◌++◌, ◌≢◌, ◌⊎◌, ℕ}
use Rattle.std.proofs.Math.Path.{refl, sym}
use Rattle.std.proofs.Common.{◌∙◌, inl, inr, arith}
use Rattle.whole.specs.Members.{◌∈◌, in_left, in_right, in_either}
use Rattle.scope.proofs.Points.{flip_back, front_false, front_true}
use Rattle.scope.specs.Planes.{Plane, Point, flip}
use Rattle.scope.specs.Cells.{Inside, Off, Walked, end, cut, fore, aft, join, Second, MergedIn}
use Rattle.scope.specs.Solids.{Mark, IN, OUT, Tree, leaf, node, planes, walk, front, answer}
use Rattle.scope.specs.Normal.{Space, both, Uniform}
use Rattle.theory.specs.Cells.Reached.{Cell, Decider}
use Rattle.theory.specs.Cells.Box.{tail, head}
use Rattle.theory.specs.Cells.Sides.{half_front, half_back}
use Rattle.theory.specs.Cells.Walk.{tight_leaf, EachPlane, Tight, tight_node, merged_tight, merged_answers, merged_some, merged_each, each_p, each_f, each_b}
use Rattle.theory.specs.Planes.General.{Nonzero}
use Rattle.theory.specs.Cells.Clear.{clear_off, keeps_inside}

-- two points of the cell, off the planes, have different marks
pub record Mixed (S : Space) (c : List Plane) : Type 0 where
  pub y : Point
  pub z : Point
  pub y_in : Inside c y
  pub z_in : Inside c z
  pub y_off : Off S.list y
  pub z_off : Off S.list z
  pub differ : S.mark (front y) ≢ S.mark (front z)

-- a node with two different marks under it
pub data Split : Tree → Type 0 where
  in_out : {p : Plane} → Split (node p (leaf IN) (leaf OUT))
  out_in : {p : Plane} → Split (node p (leaf OUT) (leaf IN))
  under_front : {p : Plane} {f b : Tree} → Split f → Split (node p f b)
  under_back : {p : Plane} {f b : Tree} → Split b → Split (node p f b)

pub data Kind : Tree → Type 0 where
  one : (m : Mark) → Kind (leaf m)
  two : {r : Tree} → Split r → Kind r

join_kind : (p : Plane) {f b : Tree} → Kind f → Kind b → Kind (join p f b)
unfolding join
join_kind p (one IN) (one IN) = one IN
join_kind p (one IN) (one OUT) = two in_out
join_kind p (one OUT) (one IN) = two out_in
join_kind p (one OUT) (one OUT) = one OUT
join_kind p {f} {b} (two s) k = go f s
  where
    go : (f : Tree) → Split f → Kind (join p f b)
    go (leaf _) s = elim s [ ]
    go (node q g h) s = two (under_front s)
join_kind p {b = b} (one m) (two s) = go m b s
  where
    go : (m : Mark) (b : Tree) → Split b → Kind (join p (leaf m) b)
    go IN (leaf _) s = elim s [ ]
    go OUT (leaf _) s = elim s [ ]
    go IN (node q g h) s = two (under_back s)
    go OUT (node q g h) s = two (under_back s)

walked_kind : (L : List Plane → Mark → Tree → Type 0) → ((c : List Plane) (m : Mark) (r : Tree) → L c m r → Kind r) → {c : List Plane} {t r : Tree} → Walked join L c t r → Kind r
walked_kind L l (end a) = l _ _ _ a
walked_kind L l (cut {p = p} k u v) = join_kind p (walked_kind L l u) (walked_kind L l v)
walked_kind L l (fore a w) = walked_kind L l w
walked_kind L l (aft a w) = walked_kind L l w

pub merged_kind : (o : Mark → Mark → Mark) (B : Tree) {c : List Plane} {A r : Tree} → MergedIn o c A B r → Kind r
merged_kind o B = walked_kind (Second o B) (λ c a r. walked_kind (λ c' b r'. r' ≡ leaf (o a b)) (λ c b r e. rw e (one (o a b))))

-- a point of the cell, off the planes qs, where the tree answers m
pub record Shown (c qs : List Plane) (r : Tree) (m : Mark) : Type 0 where
  pub point : Point
  pub inside : Inside c point
  pub off : Off qs point
  pub says : answer r point ≡ m

module _ (qs : List Plane) (n : (q : Plane) → q ∈ qs → Nonzero q) where
  -- in a leaf's cell
  at_leaf : {c : List Plane} {X : Point} (m : Mark) → Inside c X → Shown c qs (leaf m) m
  unfolding walk
  at_leaf {c} {X} m i = let y = clear_off c qs X n in record { point = y.0; inside = keeps_inside y.1 i; off = y.2; says = refl }

  in_front : {c : List Plane} {p : Plane} {f b : Tree} {m : Mark} → Shown (p ∷ c) qs f m → Shown c qs (node p f b) m
  unfolding walk
  in_front {p = p} u = record { point = u.point; inside = tail u.inside; off = u.off; says = rw (front_true p u.point (head u.inside)) u.says }

  in_back : {c : List Plane} {p : Plane} {f b : Tree} {m : Mark} → Shown (flip p ∷ c) qs b m → Shown c qs (node p f b) m
  unfolding walk
  in_back {p = p} u = record { point = u.point; inside = tail u.inside; off = u.off; says = rw (front_false p u.point (flip_back p u.point (head u.inside))) u.says }

  shown : {c : List Plane} {r : Tree} → EachPlane Nonzero r → Tight c r → Split r → (m : Mark) → Shown c qs r m
  shown e (tight_leaf {c = c}) s m = elim s [ ]
  shown e (tight_node k u v) in_out IN = in_front (at_leaf IN (half_front (each_p e) k).1)
  shown e (tight_node k u v) in_out OUT = in_back (at_leaf OUT (half_back (each_p e) k).1)
  shown e (tight_node k u v) out_in OUT = in_front (at_leaf OUT (half_front (each_p e) k).1)
  shown e (tight_node k u v) out_in IN = in_back (at_leaf IN (half_back (each_p e) k).1)
  shown e (tight_node k u v) (under_front s) m = in_front (shown (each_f e) u s m)
  shown e (tight_node k u v) (under_back s) m = in_back (shown (each_b e) v s m)

-- ---- the merge decides

module _ (o : Mark → Mark → Mark) {A B : Tree} (n : EachPlane Nonzero A) (k : EachPlane Nonzero B) where
  off_a : {X : Point} → Off (planes A ++ planes B) X → Off (planes A) X
  off_a z = record { none = λ q m. z.none q (in_left (planes B) m) }

  off_b : {X : Point} → Off (planes A ++ planes B) X → Off (planes B) X
  off_b z = record { none = λ q m. z.none q (in_right (planes A) m) }

  pub leaf_uniform : {c : List Plane} {m : Mark} → MergedIn o c A B (leaf m) → Uniform (both o A B) c m
  unfolding walk
  leaf_uniform w = record { all = λ X i z. sym (merged_answers o B i (off_a z) (off_b z) w) }

  pub split_mixed : {c : List Plane} {r : Tree} → MergedIn o c A B r → Split r → Mixed (both o A B) c
  split_mixed {c} {r} w s = record {
    y = y.point;
    z = z.point;
    y_in = y.inside;
    z_in = z.inside;
    y_off = y.off;
    z_off = z.off;
    differ = λ e. apart (sym (says y) ∙ e ∙ says z);
  }
    where
      nonzero : (q : Plane) → q ∈ (planes A ++ planes B) → Nonzero q
      nonzero q m = elim (in_either (planes A) (planes B) m) [ inl i ↦ n.each q i | inr i ↦ k.each q i ]

      y : Shown c (planes A ++ planes B) r IN
      y = shown (planes A ++ planes B) nonzero (merged_each o B n k w) (merged_tight o B w) s IN

      z : Shown c (planes A ++ planes B) r OUT
      z = shown (planes A ++ planes B) nonzero (merged_each o B n k w) (merged_tight o B w) s OUT

      says : {m : Mark} (u : Shown c (planes A ++ planes B) r m) → o (answer A u.point) (answer B u.point) ≡ m
      says u = sym (merged_answers o B u.inside (off_a u.off) (off_b u.off) w) ∙ u.says

      apart : IN ≢ OUT
      apart e = let z : ◌≡◌ {A = ℕ} 0 1 = cc in omega arith

  pub uniform? : (Ok : Plane → Type 0) → ((p : Plane) → Ok p → Nonzero p) → Decider Ok → EachPlane Ok A → EachPlane Ok B → (c : List Plane) (X : Point) → Cell Ok c → Inside c X
      → ((m : Mark) × Uniform (both o A B) c m) ⊎ Mixed (both o A B) c
  uniform? Ok thick cuts? l l' c X a i = let r = merged_some o B Ok thick cuts? l' A c X l a i in kind (merged_kind o B r.1) r.1
    where
      kind : {r : Tree} → Kind r → MergedIn o c A B r → ((m : Mark) × Uniform (both o A B) c m) ⊎ Mixed (both o A B) c
      kind (one m) w = inl (m, leaf_uniform w)
      kind (two s) w = inr (split_mixed w s)

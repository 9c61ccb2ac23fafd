-- The walk of a tree in a cell, whatever is done at a leaf: one result, some result, its answers, its planes, its rows. Then trimming and the merge, twice that walk.
use Rattle.std.specs.Prelude.{◌≡◌, refl, Bool, true, false, List, ◌∷◌, ℕ, suc, ◌+◌, ◌*◌, ◌≤◌, pos}
use Rattle.std.proofs.Common.{sym, ap₂, subst, ◌∙◌, inl, inr, arith}
use Rattle.whole.specs.Order.{◌⋖◌, Lies, below, on, above, lies, lt_not_lt, pos_not_zero, neg_not_zero}
use Rattle.whole.specs.Sign.{sgn_above, sgn_below}
use Rattle.whole.specs.Members.{◌∈◌, here, there, in_left, in_right, in_either}
use Rattle.scope.proofs.Points.{front_false, front_true}
use Rattle.scope.specs.Planes.{Plane, Point, at, flip}
use Rattle.scope.specs.Cells.{Inside, Cuts, AllFront, AllBack, Off, Walked, end, cut, fore, aft, Trimmed, join, Second, MergedIn}
use Rattle.scope.specs.Solids.{Mark, IN, OUT, Tree, leaf, node, rows, planes, pick, walk, front, answer, marked, reply}
use Rattle.theory.specs.Cells.Reached.{Cell, ahead, behind, Decider}
use Rattle.theory.specs.Cells.Move.{flip_front}
use Rattle.theory.specs.Cells.Box.{cons}
use Rattle.theory.specs.Cells.Sides.{half_front, half_back, Decided, decide}
use Rattle.theory.specs.Planes.General.{Nonzero}

-- every plane of a tree is Q
pub record EachPlane (Q : Plane → Type 0) (t : Tree) : Type 0 where
  pub each : (p : Plane) → p ∈ planes t → Q p

module _ {Q : Plane → Type 0} {p : Plane} {f b : Tree} (e : EachPlane Q (node p f b)) where
  pub each_p : Q p
  each_p = e.each p (here refl)

  pub each_f : EachPlane Q f
  each_f = record { each = λ q m. e.each q (there (in_left (planes b) m)) }

  pub each_b : EachPlane Q b
  each_b = record { each = λ q m. e.each q (there (in_right (planes f) m)) }

-- ---- for a cell that has a point, one result and some result

not_cut_front : {p : Plane} {c : List Plane} → Cuts p c → AllFront p c → ⊥
not_cut_front k a = pos_not_zero (a k.point k.inside) k.on

not_cut_back : {p : Plane} {c : List Plane} → Cuts p c → AllBack p c → ⊥
not_cut_back k a = neg_not_zero (a k.point k.inside) k.on

not_both : (p : Plane) {c : List Plane} {X : Point} → Inside c X → AllFront p c → AllBack p c → ⊥
not_both p {X = X} i a b = lt_not_lt (a X i) (b X i)

module _ (J : Plane → Tree → Tree → Tree) (L : List Plane → Mark → Tree → Type 0) where
  pub one : ((c : List Plane) (m : Mark) (r s : Tree) (X : Point) → Inside c X → L c m r → L c m s → r ≡ s)
      → {c : List Plane} {t r s : Tree} {X : Point} → Inside c X → EachPlane Nonzero t → Walked J L c t r → Walked J L c t s → r ≡ s
  one l i n (end a) (end b) = l _ _ _ _ _ i a b
  one l i n (cut {p = p} k f b) (cut j f' b') = ap₂ (J p) (one l (half_front (each_p n) k).1 (each_f n) f f') (one l (half_back (each_p n) k).1 (each_b n) b b')
  one l i n (cut k f b) (fore a w) = absurd (not_cut_front k a)
  one l i n (cut k f b) (aft a w) = absurd (not_cut_back k a)
  one l i n (fore a w) (cut k f b) = absurd (not_cut_front k a)
  one l i n (fore a w) (fore a' w') = one l i (each_f n) w w'
  one l i n (fore {p = p} a w) (aft a' w') = absurd (not_both p i a a')
  one l i n (aft a w) (cut k f b) = absurd (not_cut_back k a)
  one l i n (aft {p = p} a w) (fore a' w') = absurd (not_both p i a' a)
  one l i n (aft a w) (aft a' w') = one l i (each_b n) w w'

  -- to walk the trimmed tree is to walk the tree
  pub trimmed_walk : {c : List Plane} {t t' r : Tree} {X : Point} → Inside c X → EachPlane Nonzero t → Trimmed c t t' → Walked J L c t r → Walked J L c t' r
  trimmed_walk {c} {r = r} i n (end e) w = subst (λ t. Walked J L c t r) (sym e) w
  trimmed_walk i n (cut k f b) (cut j u v) = cut j (trimmed_walk (half_front (each_p n) k).1 (each_f n) f u) (trimmed_walk (half_back (each_p n) k).1 (each_b n) b v)
  trimmed_walk i n (cut k f b) (fore a w) = absurd (not_cut_front k a)
  trimmed_walk i n (cut k f b) (aft a w) = absurd (not_cut_back k a)
  trimmed_walk i n (fore a f) (cut k u v) = absurd (not_cut_front k a)
  trimmed_walk i n (fore a f) (fore a' w) = trimmed_walk i (each_f n) f w
  trimmed_walk i n (fore {p = p} a f) (aft a' w) = absurd (not_both p i a a')
  trimmed_walk i n (aft a b) (cut k u v) = absurd (not_cut_back k a)
  trimmed_walk i n (aft {p = p} a b) (fore a' w) = absurd (not_both p i a' a)
  trimmed_walk i n (aft a b) (aft a' w) = trimmed_walk i (each_b n) b w

  module _ (Ok : Plane → Type 0) (thick : (p : Plane) → Ok p → Nonzero p) (cuts? : Decider Ok) (l : (c : List Plane) (m : Mark) (X : Point) → Cell Ok c → Inside c X → (r : Tree) × L c m r) where
    pub some : (t : Tree) (c : List Plane) (X : Point) → EachPlane Ok t → Cell Ok c → Inside c X → (r : Tree) × Walked J L c t r
    some (leaf m) c X n a i = let r = l c m X a i in (r.0, end r.1)
    some (node p f b) c X n a i = go (decide p c X i (cuts? p (each_p n) c a)) (λ c' Y. some f c' Y (each_f n)) (λ c' Y. some b c' Y (each_b n))
      where
        F : Tree → Type 0
        F t = (d : List Plane) (Y : Point) → Cell Ok d → Inside d Y → (r : Tree) × Walked J L d t r

        go : Decided p c → F f → F b → (r : Tree) × Walked J L c (node p f b) r
        go (Decided.cut k) f' b' =
            let y = half_front (thick p (each_p n)) k in
            let z = half_back (thick p (each_p n)) k in
            let u = f' (p ∷ c) y.0 (ahead (each_p n) a) y.1 in
            let v = b' (flip p ∷ c) z.0 (behind (each_p n) a) z.1 in
            (J p u.0 v.0, cut k u.1 v.1)
        go (Decided.fore h) f' b' = let u = f' c X a i in (u.0, fore h u.1)
        go (Decided.aft h) f' b' = let v = b' c X a i in (v.0, aft h v.1)

-- ---- answers

-- off the planes the point call gives the answer
pub reply_off : (t : Tree) (X : Point) → Off (planes t) X → reply t X ≡ marked (answer t X)
unfolding reply walk
reply_off (leaf m) X z = refl
reply_off (node p f b) X z = go (lies (at p X)) (reply_off f X (record { none = λ q m. z.none q (there (in_left (planes b) m)) })) (reply_off b X (record { none = λ q m. z.none q (there (in_right (planes f) m)) }))
  where
    go : Lies (at p X) → reply f X ≡ marked (answer f X) → reply b X ≡ marked (answer b X) → reply (node p f b) X ≡ marked (answer (node p f b) X)
    go (below h) f' b' = rw (sgn_below h, front_false p X h) b'
    go (on h) f' b' = absurd (z.none p (here refl) h)
    go (above h) f' b' = rw (sgn_above h, front_true p X h) f'

join_walk : (p : Plane) (f b : Tree) (σ : Plane → Bool) → walk (join p f b) σ ≡ pick (σ p) (walk f σ) (walk b σ)
unfolding join walk
join_walk p (leaf IN) (leaf IN) σ = go (σ p)
  where
    go : (s : Bool) → IN ≡ pick s IN IN
    go true = refl
    go false = refl
join_walk p (leaf IN) (leaf OUT) σ = refl
join_walk p (leaf OUT) (leaf IN) σ = refl
join_walk p (leaf OUT) (leaf OUT) σ = go (σ p)
  where
    go : (s : Bool) → OUT ≡ pick s OUT OUT
    go true = refl
    go false = refl
join_walk p (leaf m) (node q f b) σ = refl
join_walk p (node q f b) r σ = refl

-- off the planes of t the result answers o of what t answers
module _ (J : Plane → Tree → Tree → Tree) (L : List Plane → Mark → Tree → Type 0) (X : Point) (o : Mark → Mark)
    (j : (p : Plane) (f b : Tree) (σ : Plane → Bool) → walk (J p f b) σ ≡ pick (σ p) (walk f σ) (walk b σ))
    (l : (c : List Plane) (m : Mark) (r : Tree) → Inside c X → L c m r → answer r X ≡ o m) where
  pub answers : {c : List Plane} {t r : Tree} → Inside c X → Off (planes t) X → Walked J L c t r → answer r X ≡ o (answer t X)
  unfolding walk
  answers i z (end a) = l _ _ _ i a
  answers {c} i z (cut {p = p} {f = f} {b = b} {f' = f'} {b' = b'} k u v) = go (lies (at p X))
      (λ h. answers (cons h i) (record { none = λ q m. z.none q (there (in_left (planes b) m)) }) u)
      (λ h. answers (cons h i) (record { none = λ q m. z.none q (there (in_right (planes f) m)) }) v)
    where
      go : Lies (at p X) → (pos 0 ⋖ at p X → answer f' X ≡ o (answer f X)) → (pos 0 ⋖ at (flip p) X → answer b' X ≡ o (answer b X))
          → answer (J p f' b') X ≡ o (answer (node p f b) X)
      go (below h) f'' b'' = rw (j p f' b' (front X), front_false p X h) (b'' (flip_front p X h))
      go (on h) f'' b'' = absurd (z.none p (here refl) h)
      go (above h) f'' b'' = rw (j p f' b' (front X), front_true p X h) (f'' h)
  answers i z (fore {p = p} {b = b} a w) = rw (front_true p X (a X i)) (answers i (record { none = λ q m. z.none q (there (in_left (planes b) m)) }) w)
  answers i z (aft {p = p} {f = f} a w) = rw (front_false p X (a X i)) (answers i (record { none = λ q m. z.none q (there (in_right (planes f) m)) }) w)

-- ---- each node's plane cuts the node's cell

pub data Tight : List Plane → Tree → Type 0 where
  tight_leaf : {c : List Plane} {m : Mark} → Tight c (leaf m)
  tight_node : {c : List Plane} {p : Plane} {f b : Tree} → Cuts p c → Tight (p ∷ c) f → Tight (flip p ∷ c) b → Tight c (node p f b)

join_tight : {c : List Plane} (p : Plane) (f b : Tree) → Cuts p c → Tight (p ∷ c) f → Tight (flip p ∷ c) b → Tight c (join p f b)
unfolding join
join_tight p (leaf IN) (leaf IN) k u v = tight_leaf
join_tight p (leaf IN) (leaf OUT) k u v = tight_node k u v
join_tight p (leaf OUT) (leaf IN) k u v = tight_node k u v
join_tight p (leaf OUT) (leaf OUT) k u v = tight_leaf
join_tight p (leaf m) (node q f b) k u v = tight_node k u v
join_tight p (node q f b) r k u v = tight_node k u v

join_rows : (p : Plane) (f b : Tree) → rows (join p f b) ≤ suc (rows f + rows b)
unfolding join rows
join_rows p (leaf IN) (leaf IN) = omega arith
join_rows p (leaf IN) (leaf OUT) = omega arith
join_rows p (leaf OUT) (leaf IN) = omega arith
join_rows p (leaf OUT) (leaf OUT) = omega arith
join_rows p (leaf m) (node q f b) = omega arith
join_rows p (node q f b) r = omega arith

module _ (L : List Plane → Mark → Tree → Type 0) where
  pub tight : ((c : List Plane) (m : Mark) (r : Tree) → L c m r → Tight c r) → {c : List Plane} {t r : Tree} → Walked join L c t r → Tight c r
  tight l (end a) = l _ _ _ a
  tight l (cut {p = p} {f' = f} {b' = b} k u v) = join_tight p f b k (tight l u) (tight l v)
  tight l (fore a w) = tight l w
  tight l (aft a w) = tight l w

  pub size : (k : ℕ) → ((c : List Plane) (m : Mark) (r : Tree) → L c m r → rows r ≤ k) → {c : List Plane} {t r : Tree} → Walked join L c t r → rows r ≤ rows t + (suc (rows t)) * k
  unfolding rows
  size k l (end {r = r} a) = omega (arith, l _ _ r a)
  size k l (cut {p = p} {f' = f} {b' = b} h u v) = omega (arith, join_rows p f b, size k l u, size k l v)
  size k l (fore a w) = omega (arith, size k l w)
  size k l (aft a w) = omega (arith, size k l w)

-- ---- no plane is new

join_each : {Q : Plane → Type 0} (p : Plane) {f b : Tree} → Q p → EachPlane Q f → EachPlane Q b → EachPlane Q (join p f b)
unfolding join
join_each {Q} p {f} {b} h u v = record { each = go f b (λ q m. node_each q m) }
  where
    node_each : (q : Plane) → q ∈ planes (node p f b) → Q q
    node_each q (here e) = rw e h
    node_each q (there m) = elim (in_either (planes f) (planes b) m) [ inl k ↦ u.each q k | inr k ↦ v.each q k ]

    go : (f b : Tree) → ((q : Plane) → q ∈ planes (node p f b) → Q q) → (q : Plane) → q ∈ planes (join p f b) → Q q
    go (leaf IN) (leaf IN) n q m = elim m [ ]
    go (leaf IN) (leaf OUT) n q m = n q m
    go (leaf OUT) (leaf IN) n q m = n q m
    go (leaf OUT) (leaf OUT) n q m = elim m [ ]
    go (leaf k) (node r s t) n q m = n q m
    go (node r s t) b n q m = n q m

pub walked_each : {Q : Plane → Type 0} (L : List Plane → Mark → Tree → Type 0) → ((c : List Plane) (m : Mark) (r : Tree) → L c m r → EachPlane Q r) → {c : List Plane} {t r : Tree} → EachPlane Q t → Walked join L c t r → EachPlane Q r
walked_each L l n (end a) = l _ _ _ a
walked_each L l n (cut {p = p} k u v) = join_each p (each_p n) (walked_each L l (each_f n) u) (walked_each L l (each_b n) v)
walked_each L l n (fore a w) = walked_each L l (each_f n) w
walked_each L l n (aft a w) = walked_each L l (each_b n) w

-- ---- the merge

module _ (o : Mark → Mark → Mark) (B : Tree) where
  second_one : EachPlane Nonzero B → (c : List Plane) (m : Mark) (r s : Tree) (X : Point) → Inside c X → Second o B c m r → Second o B c m s → r ≡ s
  second_one n c m r s X i = one join (λ c' b r'. r' ≡ leaf (o m b)) (λ c b r s Y j u v. u ∙ sym v) i n

  pub merged_one : {c : List Plane} {A r s : Tree} {X : Point} → Inside c X → EachPlane Nonzero A → EachPlane Nonzero B → MergedIn o c A B r → MergedIn o c A B s → r ≡ s
  merged_one i n k = one join (Second o B) (second_one k) i n

  pub merged_some : (Ok : Plane → Type 0) → ((p : Plane) → Ok p → Nonzero p) → Decider Ok → EachPlane Ok B → (A : Tree) (c : List Plane) (X : Point) → EachPlane Ok A → Cell Ok c → Inside c X → (r : Tree) × MergedIn o c A B r
  merged_some Ok thick cuts? k A c X n a i = some join (Second o B) Ok thick cuts?
      (λ c m Y e j. some join (λ c' b r'. r' ≡ leaf (o m b)) Ok thick cuts? (λ c b Z e l. (leaf (o m b), refl)) B c Y k e j) A c X n a i

  pub merged_answers : {c : List Plane} {A r : Tree} {X : Point} → Inside c X → Off (planes A) X → Off (planes B) X → MergedIn o c A B r → answer r X ≡ o (answer A X) (answer B X)
  unfolding walk
  merged_answers {X = X} i y z = answers join (Second o B) X (λ a. o a (answer B X)) join_walk
      (λ c a r j. answers join (λ c' b r'. r' ≡ leaf (o a b)) X (o a) join_walk (λ c b r j e. rw e refl) j z) i y

  pub merged_tight : {c : List Plane} {A r : Tree} → MergedIn o c A B r → Tight c r
  merged_tight = tight (Second o B) (λ c a r. tight (λ c' b r'. r' ≡ leaf (o a b)) (λ c b r e. rw e tight_leaf))

  pub merged_rows : {c : List Plane} {A r : Tree} → MergedIn o c A B r → rows r ≤ rows A + rows B + rows A * rows B
  unfolding rows
  merged_rows w = omega (arith, size (Second o B) (rows B) (λ c a r v. omega (arith, size (λ c' b r'. r' ≡ leaf (o a b)) 0 (λ c b r e. rw e (omega arith)) v)) w)

  pub merged_each : {Q : Plane → Type 0} {c : List Plane} {A r : Tree} → EachPlane Q A → EachPlane Q B → MergedIn o c A B r → EachPlane Q r
  merged_each n k = walked_each (Second o B) (λ c a r. walked_each (λ c' b r'. r' ≡ leaf (o a b)) (λ c b r e. rw e (record { each = λ q m. elim m [ ] })) k) n

-- A convex polygon: a list of at least three corners, any three of which turn left in the order of the list, each line that of the edge to the next corner.
--     Long, Convex      three or more; such a list
--     convex_rot        a rotation of it is one
--     head_weak, last_weak   two corners with the first or the last do not turn right
--     fan, fan_pos      a point inside every line is a combination of corners: what is not negative at these is not negative there
--     inner, inner_up   the first three vertices, added, are inside every line; and of positive weight
use Rattle.std.specs.Prelude.{List, [], ◌∷◌, ◌++◌, ℤ, ◌+ℤ◌}
use Rattle.std.proofs.Math.IntN.{pos}
use Rattle.whole.specs.Vec.{V3}
use Rattle.whole.specs.Order.{◌⩽◌, ◌⋖◌, Lies, below, on, above, lies, mul_pos, mul_nonneg, add_pos, add_pos', add_nonneg, lt_le, eq_le, lt_not_lt, eq_lt, neg_nonneg, pos_neg, nonneg_cancel, pos_cancel}
use Rattle.whole.specs.Lists.{Each, Each.none, Each.◌and◌, Pairs, Triples, Chain, end, step, final, each_map, each_app, each_head, each_final, each_all, pairs_map, pairs_zip, pairs_last, triples_app, chain_app, chain_final, chain_each, Rot, same, turn}
use Rattle.theory.specs.Section.Flat.{dt, cr, dv, ez, dv_swap, cramer, sum, dt_sum, Corner, Up, Near, Sees, Step, Left, Weak, left_turn, weak_turn, weaken, weak_1, weak_2, weak_3, edge_pos, pos_edge}

pub data Long : List Corner → Type 0 where
  long : {a b c : Corner} {xs : List Corner} → Long (a ∷ b ∷ c ∷ xs)

abbrev pub Closed : List Corner → Type 0
Closed [] = ⊥
Closed (z ∷ zs) = Chain Step z z zs

pub record Convex (Z : List Corner) : Type 0 where
  pub size : Long Z
  pub lefts : Triples Left Z
  pub ups : Each Up Z
  pub closed : Closed Z

-- ---- rotation

long_turn : {x : Corner} {xs : List Corner} → Long (x ∷ xs) → Long (xs ++ x ∷ [])
long_turn (long {xs = []}) = long
long_turn (long {xs = y ∷ ys}) = long

closed_turn : {x : Corner} {xs : List Corner} → Chain Step x x xs → Closed (xs ++ x ∷ [])
closed_turn (end s) = end s
closed_turn (step s h) = chain_app h (end s)

lefts_turn : {x : Corner} {xs : List Corner} → Triples Left (x ∷ xs) → Triples Left (xs ++ x ∷ [])
lefts_turn {x} {xs} (Triples.◌and◌ p t) = triples_app t (pairs_map (λ a b h. left_turn h and none) p) (each_all (λ a. Pairs.◌and◌ none Pairs.none) xs) (Triples.◌and◌ Pairs.none Triples.none)

ups_turn : {Q : Corner → Type 0} {x : Corner} {xs : List Corner} → Each Q (x ∷ xs) → Each Q (xs ++ x ∷ [])
ups_turn (q and e) = each_app e (q and none)

convex_turn : {x : Corner} {xs : List Corner} → Convex (x ∷ xs) → Convex (xs ++ x ∷ [])
convex_turn c = record { size = long_turn c.size; lefts = lefts_turn c.lefts; ups = ups_turn c.ups; closed = closed_turn c.closed }

pub convex_rot : {xs ys : List Corner} → Rot xs ys → Convex xs → Convex ys
convex_rot same c = c
convex_rot (turn h) c = convex_rot h (convex_turn c)

-- ---- with the first or the last corner

pub head_weak : {a : Corner} {xs : List Corner} → Triples Left (a ∷ xs) → Pairs (Weak a) (a ∷ xs)
head_weak {a} {xs} (Triples.◌and◌ p t) = Pairs.◌and◌ (each_all (weak_3 a) xs) (pairs_map (λ x y h. weaken h) p)

pub last_weak : (a : Corner) (xs : List Corner) → Triples Left (a ∷ xs) → Pairs (λ x y. Weak x y (final a xs)) (a ∷ xs)
last_weak a [] t = Pairs.◌and◌ none Pairs.none
last_weak a (b ∷ xs) (Triples.◌and◌ p t) = Pairs.◌and◌ (pairs_last b xs (λ x h. weaken h) (weak_2 a (final b xs)) p) (last_weak b xs t)

-- ---- the fan: a point inside every line is a combination of the first corner and two others in a row

module _ (z : Corner) (x g : V3 ℤ) (g0 : pos 0 ⩽ dt g z.v) where
  Held : Type 0
  Held = (pos 0 ⩽ dt g x) × (pos 0 ⋖ dt g z.v → pos 0 ⋖ dt g x)

  last_step : {y : Corner} → Step y z → pos 0 ⋖ dv z.v y.v x → pos 0 ⋖ dt y.l x → Held
  last_step {y} s d h = absurd (lt_not_lt d (eq_lt (dv_swap z.v y.v x) (pos_neg (pos_edge s x h))))

  triangle : {y y' : Corner} → Step y y' → Left z y y' → pos 0 ⋖ dv z.v y.v x → dv z.v y'.v x ⩽ pos 0 → pos 0 ⋖ dt y.l x
      → pos 0 ⩽ dt g y.v → pos 0 ⩽ dt g y'.v → Held
  unfolding Held
  triangle {y} {y'} s l d d' h gy gy' =
      let e = cramer z.v y.v y'.v x g in
      let k : pos 0 ⋖ dv y.v y'.v x = pos_edge s x h in
      let n : pos 0 ⩽ dv y'.v z.v x = rw (dv_swap y'.v z.v x) (neg_nonneg d') in
      let i = mul_nonneg n gy in
      let j = mul_nonneg (lt_le d) gy' in (
        nonneg_cancel {b = dt g x} (rw e (add_nonneg (add_nonneg (mul_nonneg (lt_le k) g0) i) j)) l.ccw,
        λ p. pos_cancel {b = dt g x} (rw e (add_pos (add_pos (mul_pos k p) i) j)) l.ccw,
      )

  walk : {y : Corner} {ys : List Corner} → Chain Step z y ys → pos 0 ⋖ dv z.v y.v x → Each (Sees x) (y ∷ ys)
      → Pairs (Left z) (y ∷ ys) → Each (Near g) (y ∷ ys) → Held
  walk (end s) d (h and hs) p gs = last_step s d h
  walk (step {b = y'} s c) d (h and hs) (Pairs.◌and◌ (l and ls) ps) (gy and gs) = go (lies (dv z.v y'.v x)) (λ d'. walk c d' hs ps gs)
    where
      go : Lies (dv z.v y'.v x) → (pos 0 ⋖ dv z.v y'.v x → Held) → Held
      go (below t) f = triangle s l d (lt_le t) h gy (each_head gs)
      go (on t) f = triangle s l d (eq_le t) h gy (each_head gs)
      go (above t) f = f t

  fan' : (zs : List Corner) → Convex (z ∷ zs) → Each (Sees x) (z ∷ zs) → Each (Near g) zs → Held
  fan' [] c hs gs = absurd (elim c.size [ ])
  fan' (y ∷ ys) c (h and hs) gs = go c.closed c.lefts
    where
      go : Chain Step z z (y ∷ ys) → Triples Left (z ∷ y ∷ ys) → Held
      go (step s k) (Triples.◌and◌ p t) = walk k (pos_edge s x h) hs p gs

-- what is not negative at the corners is not negative at x, and it is positive if it is at the first corner
module _ {z : Corner} {zs : List Corner} (c : Convex (z ∷ zs)) (x : V3 ℤ) (hs : Each (Sees x) (z ∷ zs)) (g : V3 ℤ) where
  pub fan : Each (Near g) (z ∷ zs) → pos 0 ⩽ dt g x
  unfolding Held
  fan (g0 and gs) = (fan' z x g g0 zs c hs gs).0

  pub fan_pos : pos 0 ⋖ dt g z.v → Each (Near g) zs → pos 0 ⋖ dt g x
  unfolding Held
  fan_pos p gs = (fan' z x g (lt_le p) zs c hs gs).1 p

-- ---- an inner point: the first three corners added

module _ (a b c : Corner) where
  within : {y y' : Corner} → Step y y' → pos 0 ⋖ dv y.v y'.v a.v +ℤ dv y.v y'.v b.v +ℤ dv y.v y'.v c.v → pos 0 ⋖ dt y.l (sum a.v b.v c.v)
  within {y} {y'} s h = edge_pos s (sum a.v b.v c.v) (rw (dt_sum (cr y.v y'.v) a.v b.v c.v) h)

  inner' : {xs : List Corner} → Triples Left (a ∷ b ∷ c ∷ xs) → Chain Step a a (b ∷ c ∷ xs) → Each (Sees (sum a.v b.v c.v)) (a ∷ b ∷ c ∷ xs)
  inner' {xs} (Triples.◌and◌ (Pairs.◌and◌ (abc and abx) (Pairs.◌and◌ acx ax)) (Triples.◌and◌ (Pairs.◌and◌ bcx bx) cx)) (step s (step r k)) =
      within s (add_pos' (add_nonneg (weak_1 a b).nocw (weak_2 a b).nocw) abc.ccw)
      and within r (add_pos (add_pos (left_turn abc).ccw (weak_1 b c).nocw) (weak_2 b c).nocw)
      and chain_each {Q = λ x y. Left a x y × Weak b x y × Weak c x y}
      (λ x y st q. within st (add_pos (add_pos (left_turn q.0).ccw (weak_turn q.1).nocw) (weak_turn q.2).nocw))
      k
      (pairs_zip {R' = λ x y. Weak b x y × Weak c x y} (λ x y l w. (l, w.0, w.1)) (Pairs.◌and◌ acx ax) (pairs_zip (λ x y l w. (weaken l, w)) (Pairs.◌and◌ bcx bx) (head_weak cx)))
      (within (chain_final k) (add_pos (add_pos' (weak_2 (final c xs) a).nocw (left_turn (left_turn (each_final c xs (abc and abx)))).ccw)
      (weak_turn (weak_turn (each_final c xs (weak_2 a c and each_map (λ y h. weaken h) acx)))).nocw))

pub inner : {a b c : Corner} {xs : List Corner} → Convex (a ∷ b ∷ c ∷ xs) → Each (Sees (sum a.v b.v c.v)) (a ∷ b ∷ c ∷ xs)
inner {a} {b} {c} k = inner' a b c k.lefts k.closed

pub inner_up : {a b c : Corner} {xs : List Corner} → Convex (a ∷ b ∷ c ∷ xs) → pos 0 ⋖ dt ez (sum a.v b.v c.v)
inner_up {a} {b} {c} k = go k.ups
  where
    go : {xs : List Corner} → Each Up (a ∷ b ∷ c ∷ xs) → pos 0 ⋖ dt ez (sum a.v b.v c.v)
    go (p and q and r and rs) = rw (dt_sum ez a.v b.v c.v) (add_pos' (add_nonneg (lt_le p) (lt_le q)) r)

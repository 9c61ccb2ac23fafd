-- A convex polygon cut by a line h: p ∷ P are the corners inside and n ∷ N those that are not. What is left is p ∷ P, then where h leaves it and where it enters.
--     leave, enter   the two new corners
--     Deep           n ∷ N is more than one corner that touches h
--     cut_convex     what is left is a convex polygon
--     cut_keeps, cut_gives   it has the points of the old one that are inside h, and no others
use Rattle.std.specs.Prelude.{◌≡◌, refl, List, [], ◌∷◌, ◌++◌, ℤ, pos, neg_ℤ}
use Rattle.std.proofs.Common.{sym}
use Rattle.whole.specs.Vec.{V3}
use Rattle.whole.specs.Order.{◌⋖◌, lt_le, eq_le, neg_pos}
use Rattle.whole.specs.Lists.{Each, Each.none, Each.◌and◌, Pairs, Triples, Chain, end, step, final, each_map, each_zip, each_app, each_left, each_right, each_head, each_tail, each_final, pairs_map, pairs_zip, pairs_head, pairs_last, pairs_first, each_pairs, triples_app, triples_left, triples_right, triples_21, triples_12, chain_app, chain_left, chain_right, chain_to, chain_final, chain_each}
use Rattle.theory.specs.Section.Flat.{dt, cr, ez, on_second, Mix, mix_pos, mix_nonneg, mix_other, mix_out, mix_in, Corner, In, Out, Up, Sees, Step, Left, Weak, left_turn, weak_turn, weaken, weak_1, weak_2, weak_3, edge_pos, edge_nonneg}
use Rattle.theory.specs.Section.Convex.{Long, long, Convex, head_weak, last_weak, fan_pos}

module _ (h : V3 ℤ) where
  -- with h's line
  abbrev pub leave : Corner → List Corner → Corner
  leave p P = record { v = cr (final p P).l h; l = h }

  -- with the line of the last corner that is cut off
  abbrev pub enter : Corner → List Corner → Corner
  enter n N = record { v = cr h (final n N).l; l = (final n N).l }

pub data Deep (h : V3 ℤ) (n : Corner) : List Corner → Type 0 where
  many : {m : Corner} {M : List Corner} → Deep h n (m ∷ M)
  under : dt h n.v ⋖ pos 0 → Deep h n []

-- the two ways to be deep
data Kind (h : V3 ℤ) (p : Corner) (P : List Corner) (n : Corner) (N : List Corner) : Type 0 where
  wide : Each (λ x. Left x n (final n N)) (p ∷ P) → Kind h p P n N
  narrow : dt h n.v ⋖ pos 0 → dt h (final n N).v ⋖ pos 0 → Left p (final p P) (final n N) → ((x : Corner) → Weak x n (final n N)) → Kind h p P n N

kind : {h : V3 ℤ} {p : Corner} (P : List Corner) {n : Corner} {N : List Corner} → Deep h n N → Long (p ∷ (P ++ n ∷ N))
    → Pairs (λ x y. Each (Left x y) (n ∷ N)) (p ∷ P) → Each (λ x. Pairs (Left x) (n ∷ N)) (p ∷ P) → Kind h p P n N
kind P (many {m = m} {M = M}) l t21 t12 = wide (each_map (λ x q. each_final m M (pairs_head q)) t12)
kind [] (under d) l t21 t12 = absurd (elim l [ ])
kind (q ∷ Q) {n = n} (under d) l t21 t12 = narrow d d (each_head (each_final q Q (pairs_head t21))) (λ x. weak_2 x n)

module _ (h : V3 ℤ) (p : Corner) (P : List Corner) (n : Corner) (N : List Corner) (c : Convex (p ∷ (P ++ n ∷ N)))
    (ins : Each (In h) (p ∷ P)) (outs : Each (Out h) (n ∷ N)) where
  abbrev pc : Corner
  pc = final p P

  abbrev nk : Corner
  nk = final n N

  abbrev F : Corner
  F = leave h p P

  abbrev E : Corner
  E = enter h n N

  -- the steps out of the run inside, and back into it
  s1 : Step pc n
  s1 = chain_final (chain_left P N c.closed)

  s2 : Step nk p
  s2 = chain_final (chain_right P c.closed)

  -- the two new vertices are combinations of the ends of those steps
  m_f : Mix (neg_ℤ (dt h n.v)) F.v n.v pc.v
  m_f = mix_out s1 h (each_final p P ins) (each_head outs)

  m_e : Mix (neg_ℤ (dt h nk.v)) E.v nk.v p.v
  m_e = mix_in s2 h (each_final n N outs) (each_head ins)

  -- triples of corners: of one run, and of both
  t_p : Triples Left (p ∷ P)
  t_p = triples_left (p ∷ P) (n ∷ N) c.lefts

  t_n : Triples Left (n ∷ N)
  t_n = triples_right (p ∷ P) c.lefts

  t21 : Pairs (λ x y. Each (Left x y) (n ∷ N)) (p ∷ P)
  t21 = triples_21 (p ∷ P) c.lefts

  t12 : Each (λ x. Pairs (Left x) (n ∷ N)) (p ∷ P)
  t12 = triples_12 (p ∷ P) c.lefts

  xyn : Pairs (λ x y. Left x y n) (p ∷ P)
  xyn = pairs_map (λ x y e. each_head e) t21

  xyk : Pairs (λ x y. Left x y nk) (p ∷ P)
  xyk = pairs_map (λ x y e. each_final n N e) t21

  -- x, the last, and nk; p, x, and n; p, x, and the last
  xck : Each (λ x. Weak x pc nk) (p ∷ P)
  xck = pairs_last p P (λ x l. weaken l) (weak_3 (final p P) nk) xyk

  pxn : Each (λ x. Weak p x n) (p ∷ P)
  pxn = pairs_first (λ x l. weaken l) (weak_3 p n) xyn

  pxc : Each (λ x. Weak p x pc) (p ∷ P)
  pxc = pairs_last p P (λ x l. l) (weak_2 p (final p P)) (head_weak t_p)

  xy_f : Pairs (λ x y. Left x y F) (p ∷ P)
  xy_f = pairs_zip (λ x y a b. record { ccw = mix_pos m_f (cr x.v y.v) a.ccw b.nocw }) xyn (last_weak p P t_p)

  xy_e : Pairs (λ x y. Left x y E) (p ∷ P)
  xy_e = pairs_zip (λ x y a b. record { ccw = mix_pos m_e (cr x.v y.v) a.ccw (weak_turn b).nocw }) xyk (head_weak t_p)

  -- x, F, and nk or p
  Fk_pos : (x : Corner) → Left x n nk → Weak x pc nk → Left x F nk
  Fk_pos x a b = left_turn (record { ccw = mix_pos m_f (cr nk.v x.v) (left_turn (left_turn a)).ccw (weak_turn (weak_turn b)).nocw })

  Fk_weak : (x : Corner) → Weak x n nk → Weak x pc nk → Weak x F nk
  Fk_weak x a b = weak_turn (record { nocw = mix_nonneg m_f (cr nk.v x.v) (weak_turn (weak_turn a)).nocw (weak_turn (weak_turn b)).nocw })

  Fp_pos : (x : Corner) → Left p x n → Weak p x pc → Left x F p
  Fp_pos x a b = left_turn (record { ccw = mix_pos m_f (cr p.v x.v) a.ccw b.nocw })

  Fp_weak : (x : Corner) → Weak p x n → Weak p x pc → Weak x F p
  Fp_weak x a b = weak_turn (record { nocw = mix_nonneg m_f (cr p.v x.v) a.nocw b.nocw })

  x_fe_1 : (x : Corner) → Left x F nk → Weak x F p → Left x F E
  x_fe_1 x a b = record { ccw = mix_pos m_e (cr x.v F.v) a.ccw b.nocw }

  -- x, F and E
  x_fe : Kind h p P n N → Each (λ x. Left x F E) (p ∷ P)
  x_fe (wide e) = each_zip (x_fe_1) (each_zip Fk_pos e xck) (each_zip Fp_weak pxn pxc)
  x_fe (narrow d d' l w) = x_fe_1 p (left_turn (record { ccw = mix_other m_f (cr nk.v p.v) (neg_pos d) (weak_turn (weak_turn (w p))).nocw (left_turn (left_turn l)).ccw })) (weak_1 p F)
      and each_zip (λ x a b. record { ccw = mix_other m_e (cr x.v F.v) (neg_pos d') a.nocw b.ccw })
      (each_zip (λ x a b. Fk_weak x (w x) b) (each_tail pxn) (each_tail xck)) (each_zip Fp_pos (pairs_head xyn) (each_tail pxc))

  lefts_new : Kind h p P n N → Triples Left (p ∷ (P ++ F ∷ E ∷ []))
  lefts_new k = triples_app t_p (pairs_zip (λ x y a b. a and b and none) xy_f xy_e)
      (each_map (λ x a. Pairs.◌and◌ (a and none) (Pairs.◌and◌ none Pairs.none)) (x_fe k))
      (Triples.◌and◌ (Pairs.◌and◌ none Pairs.none) (Triples.◌and◌ Pairs.none Triples.none))

  ups_new : Each Up (p ∷ (P ++ F ∷ E ∷ []))
  ups_new = let u = each_left (p ∷ P) (n ∷ N) c.ups in let w = each_right (p ∷ P) c.ups in
      each_app u (mix_pos m_f ez (each_head w) (lt_le (each_final p P u)) and mix_pos m_e ez (each_final n N w) (lt_le (each_head u)) and none)

  F_E : Kind h p P n N → Step F E
  F_E k = record { meet = refl; on = on_second pc.l h; turn = go k }
    where
      go : Kind h p P n N → pos 0 ⋖ dt nk.l F.v
      go (wide e) = mix_pos m_f nk.l (edge_pos s2 n.v (left_turn (left_turn (each_head e))).ccw) (edge_nonneg s2 pc.v (weak_turn (weak_turn (each_head xck))).nocw)
      go (narrow d d' l w) = mix_other m_f nk.l (neg_pos d) (edge_nonneg s2 n.v (weak_turn (weak_turn (w p))).nocw) (edge_pos s2 pc.v (left_turn (left_turn l)).ccw)

  p_on : dt p.l p.v ≡ pos 0
  p_on = go P c.closed
    where
      go : (P : List Corner) → Chain Step p p (P ++ n ∷ N) → dt p.l p.v ≡ pos 0
      go [] (step s k) = s.on
      go (q ∷ Q) (step s k) = s.on

  E_p : Step E p
  E_p = record { meet = s2.meet; on = on_second h nk.l; turn = mix_pos m_e p.l s2.turn (eq_le (sym p_on)) }

  pc_F : Step pc F
  pc_F = record { meet = refl; on = s1.on; turn = each_final p P ins }

  closed_new : Kind h p P n N → Chain Step p p (P ++ F ∷ E ∷ [])
  closed_new k = chain_app (chain_to (chain_left P N c.closed) pc_F) (step (F_E k) (end E_p))

  long_new : Long (p ∷ (P ++ F ∷ E ∷ []))
  long_new = go P
    where
      go : (P : List Corner) → Long (p ∷ (P ++ F ∷ E ∷ []))
      go [] = long
      go (q ∷ []) = long
      go (q ∷ r ∷ Q) = long

  new : Kind h p P n N → Convex (p ∷ (P ++ F ∷ E ∷ []))
  new k = record { size = long_new; lefts = lefts_new k; ups = ups_new; closed = closed_new k }

  the_kind : Deep h n N → Kind h p P n N
  the_kind d = kind P d c.size t21 t12

  pub cut_convex : Deep h n N → Convex (p ∷ (P ++ F ∷ E ∷ []))
  cut_convex d = new (the_kind d)

  -- ---- the same points, on the inner side of h

  pub cut_keeps : (x : V3 ℤ) → Each (Sees x) (p ∷ (P ++ n ∷ N)) → pos 0 ⋖ dt h x → Each (Sees x) (p ∷ (P ++ F ∷ E ∷ []))
  cut_keeps x e i = each_app (each_left (p ∷ P) (n ∷ N) e) (i and each_final n N (each_right (p ∷ P) e) and none)

  -- a line that was cut off is not needed: it is positive at the corners left, or not negative
  dropped : Deep h n N → (x : V3 ℤ) → Each (Sees x) (p ∷ (P ++ F ∷ E ∷ []))
      → (y z : Corner) → Step y z → Each (λ a. Left a y z) (p ∷ P) → Weak n y z → Weak y z nk → pos 0 ⋖ dt y.l x
  dropped d x e y z s a b b' =
      let w : Each (In y.l) (p ∷ P) = each_map (λ q t. edge_pos s q.v (left_turn t).ccw) a in
      fan_pos (cut_convex d) x e y.l (each_head w) (each_app (each_map (λ q t. lt_le t) (each_tail w))
      (mix_nonneg m_f y.l (edge_nonneg s n.v (weak_turn b).nocw) (lt_le (each_final p P w))
      and mix_nonneg m_e y.l (edge_nonneg s nk.v b'.nocw) (lt_le (each_head w)) and none))

  pub cut_gives : Deep h n N → (x : V3 ℤ) → Each (Sees x) (p ∷ (P ++ F ∷ E ∷ []))
      → Each (Sees x) (p ∷ (P ++ n ∷ N)) × (pos 0 ⋖ dt h x)
  cut_gives d x e =
      let r = each_right (p ∷ P) e in (
        each_app (each_left (p ∷ P) (F ∷ E ∷ []) e)
            (chain_each {Q = λ y z. Each (λ a. Left a y z) (p ∷ P) × Weak n y z × Weak y z nk} (λ y z s q. dropped d x e y z s q.0 q.1 q.2)
            (chain_right P c.closed)
            (pairs_zip {R' = λ y z. Weak n y z × Weak y z nk} (λ y z a b. (a, b.0, b.1)) (each_pairs (n ∷ N) t12) (pairs_zip (λ y z a b. (a, b)) (head_weak t_n) (last_weak n N t_n)))
            (each_head (each_tail r))),
        each_head r,
      )

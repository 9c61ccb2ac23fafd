-- The clip of a convex polygon, given by its lines, by another line h: Nothing, and then no point of it is inside h; or a convex polygon with just its points inside h.
--     line_side, clip_lines   the side of h on which two lines meet; the clip by it
--     Inner            a point inside each of the lines
--     Polygon, polygon_long   lines that are those of a convex polygon; at least three
--     Clipped, gone, kept     the two cases
--     clipped          one of them holds of the clip
--     clipped_few      it puts out at most two lines more than there are corners inside h
use Rattle.std.specs.Prelude.{◌≡◌, refl, List, [], ◌∷◌, ◌++◌, map, suc, ◌+◌, ◌≤◌, length, ℤ, pos, neg_ℤ}
use Rattle.std.proofs.Common.{sym, ap, ◌∙◌, append-nil, length-append, arith}
use Rattle.whole.specs.Expr.{#, neg}
use Rattle.whole.specs.Vec.{V3, scale3, scale3ᴱ, dot3ᴱ}
use Rattle.whole.specs.Solve.{solve, ◌≐◌, nums, vec3s}
use Rattle.whole.specs.Lin.{lin, ◌⊢◌, ◌≦◌, ◌≋◌}
use Rattle.whole.specs.Order.{◌⩽◌, ◌⋖◌, Lies, below, on, above, lies, lt_le, eq_le, neg_nonneg, lt_not_le}
use Rattle.whole.specs.Sign.{Sign, plus, sgn, ◌·◌, sgn_above, sgn_below}
use Rattle.whole.specs.Lists.{Each, Each.none, Each.◌and◌, Chain, end, step, final, each_map, each_app, each_head, each_tail, each_final, chain_final, map_app, map_final, map_length, rot_length, each_of_map, map_each, Rot, same, turn, rot_trans, each_rot, each_back}
use Rattle.scope.specs.Section.{emit, around, attach, clip_by}
use Rattle.theory.specs.Section.Flat.{dt, cr, ez, Corner, line_of, In, Out, Near, Up, Step}
use Rattle.theory.specs.Section.Convex.{Long, long, Convex, convex_rot, fan, fan_pos}
use Rattle.theory.specs.Section.Cut.{Deep, many, under, leave, enter, cut_convex, cut_keeps, cut_gives}
use Rattle.theory.specs.Section.Split.{Shape, inside, outside, mixed, shape}
use Rattle.theory.specs.Section.Fronts.{fronts, fronts_by, fronts_app, fronts_rot, fronts_all}
use Rattle.theory.specs.Section.Emit.{Low, low_0, low_1, emit_high, emit_fall, emit_none, last_side, last_side_final, around_turn}

-- the sign of the weight of the point on p and b, times the sign of h at it
abbrev pub line_side : V3 ℤ → V3 ℤ → V3 ℤ → Sign
line_side h p b = sgn (dt ez (cr p b)) · sgn (dt h (cr p b))

abbrev pub clip_lines : V3 ℤ → List (V3 ℤ) → List (V3 ℤ)
clip_lines h bs = clip_by (line_side h) h bs

abbrev pub Inner : V3 ℤ → List (V3 ℤ) → Type 0
Inner x bs = Each (λ (b : V3 ℤ). pos 0 ⋖ dt b x) bs

abbrev pub lines : List Corner → List (V3 ℤ)
lines Z = map line_of Z

pub record Polygon (bs : List (V3 ℤ)) : Type 0 where
  pub corners : List Corner
  pub same_lines : bs ≡ lines corners
  pub convex : Convex corners

pub polygon_long : {bs : List (V3 ℤ)} → Polygon bs → 3 ≤ length bs
polygon_long {bs} p = go p.corners p.same_lines p.convex.size
  where
    go : (Z : List Corner) → bs ≡ lines Z → Long Z → 3 ≤ length bs
    go [] e l = elim l [ ]
    go (x ∷ []) e l = elim l [ ]
    go (x ∷ (y ∷ [])) e l = elim l [ ]
    go (x ∷ y ∷ z ∷ zs) e long = omega (arith, ap length e)

-- ---- rotation

polygon_turn : {b : V3 ℤ} {bs : List (V3 ℤ)} (Z : List Corner) → b ∷ bs ≡ lines Z → Convex Z → Polygon (bs ++ b ∷ [])
polygon_turn [] e c = absurd c.closed
polygon_turn {b} {bs} (z ∷ Z) e c = record { corners = Z ++ z ∷ []; same_lines = go ∙ sym (map_app line_of Z (z ∷ [])); convex = convex_rot (turn same) c }
  where
    go : bs ++ b ∷ [] ≡ lines Z ++ z.l ∷ []
    go = cc

polygon_rot : {xs ys : List (V3 ℤ)} → Rot xs ys → Polygon xs → Polygon ys
polygon_rot same p = p
polygon_rot (turn r) p = polygon_rot r (polygon_turn p.corners p.same_lines p.convex)

rot_lines : {Z Z' : List Corner} → Rot Z Z' → Rot (lines Z) (lines Z')
rot_lines same = same
rot_lines (turn {x = z} {xs = zs} r) = turn (rw (map_app line_of zs (z ∷ [])) at (rot_lines r))

-- ---- a line h

low : {a : ℤ} → a ⩽ pos 0 → Low (sgn a)
low {a} u = go (lies a)
  where
    go : Lies a → Low (sgn a)
    go (below t) = rw (sgn_below t) low_1
    go (on t) = rw t low_0
    go (above t) = absurd (lt_not_le t u)

dt_neg : (g v : V3 ℤ) → dt (scale3 (neg_ℤ (pos 1)) g) v ≡ neg_ℤ (dt g v)
unfolding dt
dt_neg = solve (vec3s 2) (λ g v. dot3ᴱ (scale3ᴱ (neg (# 1)) g) v ≐ neg (dot3ᴱ g v)) tt

module _ (h : V3 ℤ) where
  -- a corner as the clip sees it
  abbrev entry : Corner → Sign × V3 ℤ
  entry z = (sgn (dt h z.v), z.l)

  abbrev entries : List Corner → List (Sign × V3 ℤ)
  entries Z = map entry Z

  around_rot : {Z Z' : List Corner} → Rot Z Z' → Rot (around h (entries Z')) (around h (entries Z))
  around_rot same = same
  around_rot (turn {x = z} {xs = zs} r) = rot_trans (around_rot r) (rw (← map_app entry zs (z ∷ [])) at (around_turn h (entry z) (entries zs)))

  -- ---- the sides that the clip looks up are those of h at the corners

  side_ok : {z z' : Corner} → Step z z' → pos 0 ⋖ dt ez z'.v → line_side h z.l z'.l ≡ sgn (dt h z'.v)
  side_ok s u = rw (← s.meet, sgn_above u)

  attach_ok : {c a : Corner} {zs : List Corner} → Chain Step c a zs → Each Up zs → attach (line_side h) a.l (lines zs) ≡ entries zs
  attach_ok (end s) us = refl
  attach_ok (step {b = b} s k) (u and us) = cc (side_ok s u, attach_ok k us)

  entries_ok : (z : Corner) (zs : List Corner) → Convex (z ∷ zs) → attach (line_side h) (final z.l (lines zs)) (lines (z ∷ zs)) ≡ entries (z ∷ zs)
  entries_ok z zs c = ap (λ (p : V3 ℤ). attach (line_side h) p (lines (z ∷ zs))) (map_final line_of z zs) ∙ go c.ups
    where
      go : Each Up (z ∷ zs) → attach (line_side h) (final z zs).l (lines (z ∷ zs)) ≡ entries (z ∷ zs)
      go (u and us) = cc (side_ok (chain_final c.closed) u, attach_ok c.closed us)

  clip_ok : (Z : List Corner) → Convex Z → clip_lines h (lines Z) ≡ around h (entries Z)
  clip_ok [] c = refl
  clip_ok (z ∷ zs) c = ap (λ (es : List (Sign × V3 ℤ)). around h es) (entries_ok z zs c)

  -- ---- what the clip puts out

  highs : {Z : List Corner} → Each (In h) Z → Each (λ (e : Sign × V3 ℤ). e.0 ≡ plus) (entries Z)
  highs e = map_each entry (each_map (λ z u. sgn_above u) e)

  lows : {Z : List Corner} → Each (Out h) Z → Each (λ (e : Sign × V3 ℤ). Low e.0) (entries Z)
  lows e = map_each entry (each_map (λ z u. low u) e)

  entries_lines : (Z : List Corner) → map (λ (e : Sign × V3 ℤ). e.1) (entries Z) ≡ lines Z
  entries_lines [] = refl
  entries_lines (z ∷ zs) = ap (λ (l : List (V3 ℤ)). z.l ∷ l) (entries_lines zs)

  out_inside : (z : Corner) (zs : List Corner) → Each (In h) (z ∷ zs) → around h (entries (z ∷ zs)) ≡ lines (z ∷ zs)
  out_inside z zs e =
      ap (λ (l : List (Sign × V3 ℤ)). emit h (final (entry z) (entries zs)).0 l (entry z).0) (sym (append-nil (entries (z ∷ zs))))
      ∙ emit_high h (highs e) (final (entry z) (entries zs)).0 [] (entry z).0 ∙ append-nil (map (λ (e : Sign × V3 ℤ). e.1) (entries (z ∷ zs))) ∙ entries_lines (z ∷ zs)

  out_outside : (Z : List Corner) → Each (Out h) Z → around h (entries Z) ≡ []
  out_outside [] e = refl
  out_outside (z ∷ zs) e = emit_none h (final (entry z) (entries zs)).0 (entries (z ∷ zs)) (low (each_head e)) (lows e)

  -- the last corners, after one inside and before one inside
  data Last (n : Corner) (N : List Corner) (ls : List (V3 ℤ)) : Type 0 where
    cuts : Deep h n N → ls ≡ h ∷ (final n N).l ∷ [] → Last n N ls
    touches : N ≡ [] → dt h n.v ≡ pos 0 → ls ≡ lines (n ∷ N) → Last n N ls

  last : (n : Corner) (N : List Corner) → Each (Out h) (n ∷ N) → Last n N (emit h plus (entries (n ∷ N)) plus)
  last n [] (u and us) = go (lies (dt h n.v))
    where
      go : Lies (dt h n.v) → Last n [] (emit h plus (entries (n ∷ [])) plus)
      go (below t) = cuts (under t) (rw (sgn_below t))
      go (on t) = touches refl t (rw t)
      go (above t) = absurd (lt_not_le t u)
  last n (m ∷ M) (u and us) = cuts many (emit_fall h (entry n) (entry m) (entries M) (low u) (lows us) ∙ ap (λ (e : Sign × V3 ℤ). h ∷ e.1 ∷ []) (map_final entry m M))

  -- ---- the theorem

  -- at most one line more, the same points inside h
  pub record Kept (bs out : List (V3 ℤ)) : Type 0 where
    pub polygon : Polygon out
    pub more : length out ≤ suc (length bs)
    pub keeps : (x : V3 ℤ) → Inner x bs → pos 0 ⋖ dt h x → Inner x out
    pub gives : (x : V3 ℤ) → Inner x out → Inner x bs × (pos 0 ⋖ dt h x)

  pub data Clipped (bs out : List (V3 ℤ)) : Type 0 where
    gone : out ≡ [] → ((x : V3 ℤ) → Inner x bs → dt h x ⩽ pos 0) → Clipped bs out
    kept : Kept bs out → Clipped bs out

  kept_rot : {bs bs' out out' : List (V3 ℤ)} → Rot bs bs' → Rot out' out → Kept bs' out' → Kept bs out
  kept_rot r s k = record {
    polygon = polygon_rot s k.polygon;
    more = omega (arith, rot_length r, rot_length s, k.more);
    keeps = λ x i u. each_rot s (k.keeps x (each_rot r i) u);
    gives = λ x i. let g = k.gives x (each_back s i) in (each_back r g.0, g.1);
  }

  -- one corner inside, and none outside: the polygon stays
  all_in : {z : Corner} {zs : List Corner} → Convex (z ∷ zs) → In h z → Each (Near h) zs → Kept (lines (z ∷ zs)) (lines (z ∷ zs))
  all_in {z} {zs} c u us = record {
    polygon = record { corners = z ∷ zs; same_lines = refl; convex = c };
    more = omega arith;
    keeps = λ x i w. i;
    gives = λ x i. (i, fan_pos c x (each_of_map line_of (z ∷ zs) i) h u us);
  }

  -- the corners p ∷ P inside, and then n ∷ N not inside
  module _ (p : Corner) (P : List Corner) (n : Corner) (N : List Corner) (c : Convex (p ∷ (P ++ n ∷ N))) (i : Each (In h) (p ∷ P)) (o : Each (Out h) (n ∷ N)) where
    abbrev old : List Corner
    old = p ∷ (P ++ n ∷ N)

    abbrev new : List Corner
    new = p ∷ (P ++ leave h p P ∷ enter h n N ∷ [])

    out_mixed : around h (entries old) ≡ lines (p ∷ P) ++ emit h plus (entries (n ∷ N)) plus
    out_mixed =
        let q = (final (entry p) (entries (P ++ n ∷ N))).0 in
        let es = highs i in
        let e : sgn (dt h p.v) ≡ plus = sgn_above (each_head i) in
        let f : last_side (sgn (dt h p.v)) (entries P) ≡ plus = last_side_final (entry p) (entries P) ∙ each_final (entry p) (entries P) es in
        ap (λ (l : List (Sign × V3 ℤ)). emit h q l (sgn (dt h p.v))) (map_app entry (p ∷ P) (n ∷ N))
        ∙ emit_high h es q (entries (n ∷ N)) (sgn (dt h p.v))
        ∙ (λ t. entries_lines (p ∷ P) t ++ emit h (f t) (entries (n ∷ N)) (e t))

    cut_in : Deep h n N → Kept (lines old) (lines new)
    cut_in d = record {
      polygon = record { corners = new; same_lines = refl; convex = cut_convex h p P n N c i o d };
      more = omega (arith, map_length line_of old, map_length line_of new, length-append P (n ∷ N), length-append P (leave h p P ∷ enter h n N ∷ []));
      keeps = λ x e u. map_each line_of (cut_keeps h p P n N c i o x (each_of_map line_of old e) u);
      gives = λ x e. let g = cut_gives h p P n N c i o d x (each_of_map line_of new e) in (map_each line_of g.0, g.1);
    }

    mixed_in : Kept (lines old) (around h (entries old))
    mixed_in = go (last n N o)
      where
        go : Last n N (emit h plus (entries (n ∷ N)) plus) → Kept (lines old) (around h (entries old))
        go (cuts d e) =
            let t : around h (entries old) ≡ lines new = out_mixed ∙ ap (λ (l : List (V3 ℤ)). lines (p ∷ P) ++ l) e ∙ sym (map_app line_of (p ∷ P) (leave h p P ∷ enter h n N ∷ [])) in
            rw t (cut_in d)
        go (touches z u e) =
            let t : around h (entries old) ≡ lines old = out_mixed ∙ ap (λ (l : List (V3 ℤ)). lines (p ∷ P) ++ l) e ∙ sym (map_app line_of (p ∷ P) (n ∷ N)) in
            let tail : Each (Near h) (n ∷ N) = rw z (eq_le (sym u) and none) in
            rw t (all_in c (each_head i) (each_app (each_map (λ z v. lt_le v) (each_tail i)) tail))

  clipped_corners : (Z : List Corner) → Convex Z → Clipped (lines Z) (around h (entries Z))
  clipped_corners [] c = absurd c.closed
  clipped_corners (z ∷ zs) c = go (shape h (z ∷ zs) c.lefts)
    where
      go : Shape h (z ∷ zs) → Clipped (lines (z ∷ zs)) (around h (entries (z ∷ zs)))
      go (inside e) = kept (rw (out_inside z zs e) (all_in c (each_head e) (each_map (λ z v. lt_le v) (each_tail e))))
      go (outside e) = gone (out_outside (z ∷ zs) e) (λ x i.
          let g = scale3 (neg_ℤ (pos 1)) h in
          let k : pos 0 ⩽ dt g x = fan c x (each_of_map line_of (z ∷ zs) i) g
          (each_map (λ y v. rw (dt_neg h y.v) (neg_nonneg v)) e) in
          lin (nums 2) (λ a b. (b ≋ neg a) ∷ (# 0 ≦ b) ∷ [] ⊢ a ≦ # 0) (omega arith) (dt h x) (dt g x) (dt_neg h x) k)
      go (mixed p P n N i o r) = kept (kept_rot (rot_lines r) (around_rot r) (mixed_in p P n N (convex_rot r c) i o))

  pub clipped : (bs : List (V3 ℤ)) → Polygon bs → Clipped bs (clip_lines h bs)
  clipped bs p = rw p.same_lines (rw (clip_ok p.corners p.convex) (clipped_corners p.corners p.convex))

  -- ---- how many lines are put out: at most two more than there are corners inside

  entries_rot : {Z Z' : List Corner} → Rot Z Z' → Rot (entries Z) (entries Z')
  entries_rot same = same
  entries_rot (turn {x = z} {xs = zs} r) = turn (rw (map_app entry zs (z ∷ [])) at (entries_rot r))

  last_few : (n : Corner) (N : List Corner) {ls : List (V3 ℤ)} → Last n N ls → length ls ≤ 2
  last_few n N (cuts d e) = omega (arith, ap length e)
  last_few n N (touches z u e) = omega (arith, ap length e, ap length z, map_length line_of (n ∷ N))

  around_few : (Z : List Corner) → Convex Z → length (around h (entries Z)) ≤ 2 + fronts (entries Z)
  around_few [] c = absurd c.closed
  around_few (z ∷ zs) c = go (shape h (z ∷ zs) c.lefts)
    where
      go : Shape h (z ∷ zs) → length (around h (entries (z ∷ zs))) ≤ 2 + fronts (entries (z ∷ zs))
      go (inside e) = omega (arith, ap length (out_inside z zs e), map_length line_of (z ∷ zs), fronts_all (highs e), map_length entry (z ∷ zs))
      go (outside e) = omega (arith, ap length (out_outside (z ∷ zs) e))
      go (mixed p P n N i o r) = omega (
        arith,
        rot_length (around_rot r),
        fronts_rot (entries_rot r),
        ap length (out_mixed p P n N (convex_rot r c) i o),
        length-append (lines (p ∷ P)) (emit h plus (entries (n ∷ N)) plus),
        map_length line_of (p ∷ P),
        last_few n N (last n N o),
        ap fronts (map_app entry (p ∷ P) (n ∷ N)),
        fronts_app (entries (p ∷ P)) (entries (n ∷ N)),
        fronts_all (highs i),
        map_length entry (p ∷ P),
      )

  pub clipped_few : (bs : List (V3 ℤ)) → Polygon bs → length (clip_lines h bs) ≤ 2 + fronts_by (line_side h) bs
  clipped_few bs p = rw p.same_lines (go p.corners p.convex)
    where
      go : (Z : List Corner) → Convex Z → length (clip_lines h (lines Z)) ≤ 2 + fronts_by (line_side h) (lines Z)
      go [] c = absurd c.closed
      go (z ∷ zs) c = omega (arith, ap length (clip_ok (z ∷ zs) c), ap fronts (entries_ok z zs c), around_few (z ∷ zs) c)

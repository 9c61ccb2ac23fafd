-- Clips in the frame of a support s, f being the turning with f s .x positive: the bounds stay those of a convex polygon with the points of the half-spaces clipped by, or there is no such point.
--     seen, view              the line of a half-space in the frame; of each half-space of a list
--     seen_up, seen_at, seen_point   where two of the lines meet, and a line at a point of s
--     inside_view, view_inside   a point of s strictly inside half-spaces is strictly inside their lines, and back
--     Live, State, live, dead   what holds of the bounds after the half-spaces hs
--     clips_state             it holds after every clip
--     state_more, state_fronts   a clip more puts out at most one bound more, and at most two more than there are vertices inside
--     state_up                the determinant of the normals is positive at each vertex
use Rattle.std.specs.Prelude.{◌≡◌, refl, suc, ◌+◌, ◌≤◌, length, ℤ, pos, ◌-ℤ◌, ◌*ℤ◌}
use Rattle.std.proofs.Common.{ap, ◌∙◌, length-append, arith}
use mathlib.Core.List.{List, [], ◌∷◌, ◌++◌, map, append_assoc, append-nil}
use Rattle.whole.specs.Tests.{differ}
use Rattle.whole.specs.Expr.{#, ◌⊖◌, ◌⊗◌, neg}
use Rattle.whole.specs.Vec.{V3, xyz, yzw, det3, det4, dot4}
use Rattle.whole.specs.Solve.{nums}
use Rattle.whole.specs.Combo.{combo, ◌⊩◌, ◌⊠◌, ◌≗◌}
use Rattle.whole.specs.Order.{◌⋖◌, mul_pos, pos_cancel, lt_not_le}
use Rattle.whole.specs.Sign.{sgn, sgn_above, sgn_mul}
use Rattle.whole.specs.Lists.{Each, Each.none, Each.◌and◌, Chain, end, step, Around, each_app, each_left, each_right, each_head, each_tail, chain_map, chain_of_map, map_app, map_length, map_each, each_of_map}
use Rattle.whole.specs.Members.{each_in, in_each}
use Rattle.scope.specs.Planes.{Plane, Point, at}
use Rattle.scope.specs.Cells.{Inside}
use Rattle.scope.specs.Section.{clip_by, vertex_side, clip, clips}
use Rattle.theory.specs.Section.Flat.{dt, cr, ez, Corner, Up, Step}
use Rattle.theory.specs.Section.Convex.{Convex}
use Rattle.theory.specs.Section.Emit.{clip_by_map}
use Rattle.theory.specs.Section.Polygon.{line_side, Inner, lines, Polygon, Clipped, gone, kept, clipped, clipped_few}
use Rattle.theory.specs.Section.Fronts.{fronts_by, fronts_map}
use Rattle.theory.specs.Section.Frames.{Turns, line, line_at, line_meet_up, line_meet_at}
use Rattle.theory.specs.Section.Plain.{clip_plain}

module _ (f : Plane → Plane) (s : Plane) where
  abbrev pub seen : Plane → V3 ℤ
  seen h = line (f s) (f h)

  abbrev pub view : List Plane → List (V3 ℤ)
  view hs = map seen hs

module _ {f : Plane → Plane} (t : Turns f) (s : Plane) where
  pub seen_up : (p q : Plane) → dt ez (cr (seen f s p) (seen f s q)) ≡ (f s).x *ℤ det3 (xyz s) (xyz p) (xyz q)
  seen_up p q = line_meet_up (f s) (f p) (f q) ∙ ap (λ (d : ℤ). (f s).x *ℤ d) (t.dets3 s p q)

  pub seen_at : (p q h : Plane) → dt (seen f s h) (cr (seen f s p) (seen f s q)) ≡ (f s).x *ℤ (f s).x *ℤ det4 s p q h
  seen_at p q h = line_meet_at (f s) (f p) (f q) (f h) ∙ ap (λ (d : ℤ). (f s).x *ℤ (f s).x *ℤ d) (t.dets4 s p q h)

  seen_point : (X : Point) → at s X ≡ pos 0 → (h : Plane) → dt (seen f s h) (yzw (f X)) ≡ (f s).x *ℤ at h X
  unfolding at
  seen_point X o h = line_at (f s) (f h) (f X) ∙ (λ i. (f s).x *ℤ t.dots h X i -ℤ (f h).x *ℤ t.dots s X i)
      ∙ combo (nums 4) (λ a b c d. (neg c ⊠ (d ≗ # 0)) ∷ [] ⊩ a ⊗ b ⊖ c ⊗ d ≗ a ⊗ b) tt (f s).x (dot4 h X) (f h).x (dot4 s X) o

module _ {f : Plane → Plane} (t : Turns f) (s : Plane) (k : pos 0 ⋖ (f s).x) where
  abbrev sight : Plane → V3 ℤ
  sight = seen f s

  abbrev sights : List Plane → List (V3 ℤ)
  sights = view f s

  -- document 01's side of a vertex is the side of the lines
  side_seen : (h p q : Plane) → vertex_side s h p q ≡ line_side (sight h) (sight p) (sight q)
  side_seen h p q =
      let d = det3 (xyz s) (xyz p) (xyz q) in
      let e = det4 s p q h in
      let i : sgn (dt ez (cr (sight p) (sight q))) ≡ sgn d = ap sgn (seen_up t s p q) ∙ sgn_mul (f s).x d ∙ rw (sgn_above k) in
      let j : sgn (dt (sight h) (cr (sight p) (sight q))) ≡ sgn e = ap sgn (seen_at t s p q h) ∙ sgn_mul ((f s).x *ℤ (f s).x) e ∙ rw (sgn_above (mul_pos k k)) in
      rw (i, j)

  -- points of s, and points of the frame
  module _ (X : Point) (o : at s X ≡ pos 0) (hs : List Plane) where
    pub inside_view : Inside hs X → Inner (yzw (f X)) (sights hs)
    inside_view i = map_each sight (in_each hs (λ h m. rw (seen_point t s X o h) (mul_pos k (i.each h m))))

    pub view_inside : Inner (yzw (f X)) (sights hs) → Inside hs X
    view_inside i = let e = each_of_map sight hs i in record { each = λ h m. pos_cancel (rw (seen_point t s X o h) at (each_in e h m)) k }

  -- after the half-spaces hs
  pub record Live (hs bs : List Plane) : Type 0 where
    pub polygon : Polygon (sights bs)
    pub few : length bs ≤ length hs
    pub keeps : (x : V3 ℤ) → Inner x (sights hs) → Inner x (sights bs)
    pub gives : (x : V3 ℤ) → Inner x (sights bs) → Inner x (sights hs)

  pub data State (hs bs : List Plane) : Type 0 where
    live : Live hs bs → State hs bs
    dead : bs ≡ [] → ((x : V3 ℤ) → Inner x (sights hs) → ⊥) → State hs bs

  -- ---- one clip

  snoc : (hs : List Plane) (h : Plane) (x : V3 ℤ) → Inner x (sights (hs ++ h ∷ [])) → Inner x (sights hs) × (pos 0 ⋖ dt (sight h) x)
  snoc hs h x i = let j = rw (map_app sight hs (h ∷ [])) at i in (each_left (sights hs) (sight h ∷ []) j, each_head (each_right (sights hs) j))

  no_bounds : (bs : List Plane) → sights bs ≡ [] → bs ≡ []
  no_bounds [] e = refl
  no_bounds (b ∷ bs) e = differ (cc)

  clip_sights : (h : Plane) (bs : List Plane) → Polygon (sights bs) → Clipped (sight h) (sights bs) (sights (clip_by (vertex_side s h) h bs))
  clip_sights h bs p = rw (← clip_by_map sight (vertex_side s h) (line_side (sight h)) (side_seen h) h bs) at (clipped (sight h) (sights bs) p)

  clip_live : (h : Plane) (hs bs : List Plane) → Live hs bs → State (hs ++ h ∷ []) (clip_by (vertex_side s h) h bs)
  clip_live h hs bs l = go (clip_sights h bs l.polygon)
    where
      go : Clipped (sight h) (sights bs) (sights (clip_by (vertex_side s h) h bs)) → State (hs ++ h ∷ []) (clip_by (vertex_side s h) h bs)
      go (gone e n) = dead (no_bounds (clip_by (vertex_side s h) h bs) e) (λ x i. let j = snoc hs h x i in lt_not_le j.1 (n x (l.keeps x j.0)))
      go (kept c) = live (record {
        polygon = c.polygon;
        few = omega (arith, l.few, c.more, map_length sight bs, map_length sight (clip_by (vertex_side s h) h bs), length-append hs (h ∷ []));
        keeps = λ x i. let j = snoc hs h x i in c.keeps x (l.keeps x j.0) j.1;
        gives = λ x i. let j = c.gives x i in rw (map_app sight hs (h ∷ [])) (each_app (l.gives x j.0) (j.1 and none));
      })

  clip_state : (h : Plane) (hs bs : List Plane) → State hs bs → State (hs ++ h ∷ []) (clip s h bs)
  clip_state h hs bs (live l) = rw (clip_plain s h bs) (clip_live h hs bs l)
  clip_state h hs bs (dead e n) = dead (clip_plain s h bs ∙ ap (λ (l : List Plane). clip_by (vertex_side s h) h l) e) (λ x i. n x (snoc hs h x i).0)

  -- at most one bound more
  pub state_more : (h : Plane) (hs bs : List Plane) → State hs bs → length (clip s h bs) ≤ suc (length bs)
  state_more h hs bs (live l) = rw (clip_plain s h bs) (go (clip_sights h bs l.polygon))
    where
      go : Clipped (sight h) (sights bs) (sights (clip_by (vertex_side s h) h bs)) → length (clip_by (vertex_side s h) h bs) ≤ suc (length bs)
      go (gone e n) = omega (arith, ap length e, map_length sight (clip_by (vertex_side s h) h bs))
      go (kept c) = omega (arith, c.more, map_length sight bs, map_length sight (clip_by (vertex_side s h) h bs))
  state_more h hs bs (dead e n) = rw (clip_plain s h bs, e) (omega arith)

  -- at most two bounds more than vertices inside
  pub state_fronts : (h : Plane) (hs bs : List Plane) → State hs bs → length (clip s h bs) ≤ 2 + fronts_by (vertex_side s h) bs
  state_fronts h hs bs (live l) =
      rw (clip_plain s h bs)
      (omega (
        arith,
        clipped_few (sight h) (sights bs) l.polygon,
        map_length sight (clip_by (vertex_side s h) h bs),
        ap length (clip_by_map sight (vertex_side s h) (line_side (sight h)) (side_seen h) h bs),
        fronts_map sight (vertex_side s h) (line_side (sight h)) (side_seen h) bs,
      ))
  state_fronts h hs bs (dead e n) = rw (clip_plain s h bs, e) (omega arith)

  -- ---- all of them

  pub clips_state : (gs hs bs : List Plane) → State hs bs → State (hs ++ gs) (clips s gs bs)
  unfolding clips
  clips_state [] hs bs c = rw (append-nil hs) c
  clips_state (g ∷ gs) hs bs c = rw (append_assoc hs (g ∷ []) gs) at (clips_state gs (hs ++ g ∷ []) (clip s g bs) (clip_state g hs bs c))

  -- ---- the vertices

  chain_up : {c a : Corner} {zs : List Corner} → Chain Step c a zs → Each Up zs → Up c → Chain (λ p q. pos 0 ⋖ dt ez (cr p q)) c.l a.l (lines zs)
  chain_up (end st) none u = end (rw st.meet at u)
  chain_up (step st h) (v and vs) u = step (rw st.meet at v) (chain_up h vs u)

  corners_up : (Z : List Corner) → Convex Z → Around (λ p q. pos 0 ⋖ dt ez (cr p q)) (lines Z)
  corners_up [] c = tt
  corners_up (z ∷ zs) c = chain_up c.closed (each_tail c.ups) (each_head c.ups)

  bounds_up : (bs : List Plane) → Around (λ p q. pos 0 ⋖ dt ez (cr p q)) (sights bs) → Around (λ p q. pos 0 ⋖ det3 (xyz s) (xyz p) (xyz q)) bs
  bounds_up [] c = tt
  bounds_up (b ∷ bs) c = chain_map (λ p q u. pos_cancel (rw (seen_up t s p q) at u) k) (chain_of_map sight bs c)

  pub state_up : (hs bs : List Plane) → State hs bs → Around (λ p q. pos 0 ⋖ det3 (xyz s) (xyz p) (xyz q)) bs
  state_up hs bs (live l) = bounds_up bs (rw l.polygon.same_lines (corners_up l.polygon.corners l.polygon.convex))
  state_up hs bs (dead e n) = rw e tt

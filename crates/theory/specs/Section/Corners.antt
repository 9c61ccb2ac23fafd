-- The corners of a section's polygon, as a loop keeps them: for each bound its index in a table of planes and the vertex at which its edge starts, where it meets the bound before.
--     Corner, corner, index, vertex   a bound's index and its start vertex
--     corners_from, corners   of a list of indices: after the index p; as a list that closes
--     corners_length, corners_index   one for each index, and these are their indices
--     corners_at, corners_index_at, corners_vertex_at   the corner i
--     Upright, upright_at, upright_of   the determinant of the normals is positive at each vertex; by index; from the planes
--     corner_bounds, corner_bounds_at   the size of each vertex, for planes in range
--     witness_corners     the witness is the sum of the first three vertices
--     bound_side, clip_index   the side of the vertex between two indices; the planes of the clip of the indices are the clip of their planes
--     clips_app, clips_snoc, clips_nothing   clips in two parts, one clip more, clips of Nothing
--     clips_start, clips_up, clips_few, clip_few   after any clips of the start: the state, the determinants, at most four bounds more than clips, one clip more
--     indices_up, indices_few, clip_index_few, clip_index_fronts   the same of indices whose planes these are; a clip puts out at most two bounds more than there are vertices in front
--     each_at, at_each    what holds of each entry of a list, by its index
use Rattle.std.specs.Prelude.{◌≡◌, ◌≢◌, T, pos, length, get_or}
use Rattle.std.proofs.Math.Path.{refl, ap}
use Rattle.std.proofs.Common.{sym, ◌∙◌, arith, length-append}
use mathlib.Core.List.{List, [], ◌∷◌, ◌++◌, map}
use Prim.Native.Nat.{ℕ, zero, suc, ◌+◌, ◌≤◌, ◌<◌}
use Rattle.whole.specs.Vec.{xyz, det3}
use Rattle.whole.specs.Order.{◌⋖◌}
use Rattle.whole.specs.Sign.{Sign, nought}
use Rattle.whole.specs.Lists.{Each, Each.none, Each.◌and◌, Chain, end, step, Around, final, chain_final, each_final, map_final, map_length, chain_of_map}
use Rattle.scope.specs.Planes.{Plane, Point, meet, in_range, lead}
use Rattle.scope.specs.Section.{Way, along_x, against_x, along_y, against_y, along_z, against_z, way, start, clip_by, vertex_side, clip, clips}
use Rattle.theory.specs.Section.Emit.{clip_by_map}
use Rattle.theory.specs.Section.Frames.{turn, turn_turns, way_front}
use Rattle.theory.specs.Section.Square.{start_polygon}
use Rattle.theory.specs.Section.Plain.{clip_plain}
use Rattle.theory.specs.Section.Clips.{State, live, dead, clips_state, state_up, state_more, state_fronts}
use Rattle.theory.specs.Section.Fronts.{fronts_by, fronts_map}
use Rattle.theory.specs.Section.Index.{prior, prior_at}
use Rattle.theory.specs.Section.Witness.{added, witness}
use Rattle.theory.specs.Section.Bounds.{Sized, meet_bounds}

pub data Corner : Type 0 where
  corner : ℕ → Point → Corner

abbrev pub index : Corner → ℕ
index (corner i v) = i

abbrev pub vertex : Corner → Point
vertex (corner i v) = v

-- what holds of each entry, by its index
pub each_at : {A : Type 0} {Q : A → Type 0} {xs : List A} (d : A) → Each Q xs → (i : ℕ) → i < length xs → Q (get_or xs i d)
each_at d none i l = absurd (omega arith)
each_at d (q and e) zero l = q
each_at d (q and e) (suc i) l = each_at d e i (omega arith)

pub at_each : {A : Type 0} {Q : A → Type 0} (xs : List A) (d : A) → ((i : ℕ) → i < length xs → Q (get_or xs i d)) → Each Q xs
at_each [] d f = none
at_each (x ∷ xs) d f = f 0 (omega arith) and at_each xs d (λ i l. f (suc i) (omega arith))

chain_at : {A : Type 0} {R : A → A → Type 0} {c a : A} {xs : List A} (d : A) → Chain R c a xs → (i : ℕ) → i < length xs → R (get_or (a ∷ xs) i d) (get_or xs i d)
chain_at d (end r) i l = absurd (omega arith)
chain_at d (step r k) zero l = r
chain_at d (step r k) (suc i) l = chain_at d k i (omega arith)

-- a step of a list that closes, by its index
around_at : {A : Type 0} (R : A → A → Type 0) (xs : List A) → Around R xs → (d : A) (i : ℕ) → i < length xs → R (get_or xs (prior (length xs) i) d) (get_or xs i d)
around_at R [] k d i l = absurd (omega arith)
around_at R (x ∷ xs) k d zero l = rw (← prior_at x xs d 0) (chain_final k)
around_at R (x ∷ xs) k d (suc i) l = chain_at d k i (omega arith)

-- ---- corners: `plane` gives the plane of each index

module _ (s : Plane) (plane : ℕ → Plane) where
  -- after the index p
  unfoldable pub corners_from : ℕ → List ℕ → List Corner
  corners_from p [] = []
  corners_from p (i ∷ is) = corner i (meet s (plane p) (plane i)) ∷ corners_from i is

  -- the last index is before the first
  unfoldable pub corners : List ℕ → List Corner
  corners [] = []
  corners (i ∷ is) = corners_from (final i is) (i ∷ is)

  corners_from_length : (p : ℕ) (is : List ℕ) → length (corners_from p is) ≡ length is
  unfolding corners_from
  corners_from_length p [] = refl
  corners_from_length p (i ∷ is) = ap suc (corners_from_length i is)

  -- one corner for each index
  pub corners_length : (is : List ℕ) → length (corners is) ≡ length is
  unfolding corners
  corners_length [] = refl
  corners_length (i ∷ is) = corners_from_length (final i is) (i ∷ is)

  corners_from_index : (p : ℕ) (is : List ℕ) → map index (corners_from p is) ≡ is
  unfolding corners_from
  corners_from_index p [] = refl
  corners_from_index p (i ∷ is) = ap (λ (l : List ℕ). i ∷ l) (corners_from_index i is)

  -- and of that index
  pub corners_index : (is : List ℕ) → map index (corners is) ≡ is
  unfolding corners
  corners_index [] = refl
  corners_index (i ∷ is) = corners_from_index (final i is) (i ∷ is)

  -- ---- corner i; d and e are what `get_or` gives outside of the lists

  module _ (d : Corner) (e : ℕ) where
    corners_from_at : (p : ℕ) (is : List ℕ) (i : ℕ) → i < length is → get_or (corners_from p is) i d ≡ corner (get_or is i e) (meet s (plane (get_or (p ∷ is) i e)) (plane (get_or is i e)))
    unfolding corners_from
    corners_from_at p [] i l = absurd (omega arith)
    corners_from_at p (j ∷ is) zero l = refl
    corners_from_at p (j ∷ is) (suc i) l = corners_from_at j is i (omega arith)

    -- index i of the list, and where its plane meets that of the index before in the cycle
    pub corners_at : (is : List ℕ) (i : ℕ) → i < length is → get_or (corners is) i d ≡ corner (get_or is i e) (meet s (plane (get_or is (prior (length is) i) e)) (plane (get_or is i e)))
    unfolding corners
    corners_at [] i l = absurd (omega arith)
    corners_at (j ∷ is) i l = corners_from_at (final j is) (j ∷ is) i l ∙ ap (λ (p : ℕ). corner (get_or (j ∷ is) i e) (meet s (plane p) (plane (get_or (j ∷ is) i e)))) (prior_at j is e i)

    pub corners_index_at : (is : List ℕ) (i : ℕ) → i < length is → index (get_or (corners is) i d) ≡ get_or is i e
    corners_index_at is i l = ap index (corners_at is i l)

    pub corners_vertex_at : (is : List ℕ) (i : ℕ) → i < length is → vertex (get_or (corners is) i d) ≡ meet s (plane (get_or is (prior (length is) i) e)) (plane (get_or is i e))
    corners_vertex_at is i l = ap vertex (corners_at is i l)

  -- ---- the vertices

  -- at each vertex the determinant of the normals is positive
  abbrev pub Upright : List ℕ → Type 0
  Upright is = Around (λ p q. pos 0 ⋖ det3 (xyz s) (xyz (plane p)) (xyz (plane q))) is

  -- by index
  pub upright_at : (is : List ℕ) → Upright is → (e i : ℕ) → i < length is → pos 0 ⋖ det3 (xyz s) (xyz (plane (get_or is (prior (length is) i) e))) (xyz (plane (get_or is i e)))
  upright_at is u e i l = around_at (λ p q. pos 0 ⋖ det3 (xyz s) (xyz (plane p)) (xyz (plane q))) is u e i l

  -- from the planes
  pub upright_of : (is : List ℕ) → Around (λ p q. pos 0 ⋖ det3 (xyz s) (xyz p) (xyz q)) (map plane is) → Upright is
  upright_of [] u = tt
  upright_of (i ∷ is) u = chain_of_map plane is u

  module _ (r : T (in_range s)) where
    from_bounds : (p : ℕ) {is : List ℕ} → T (in_range (plane p)) → Each (λ i. T (in_range (plane i))) is → Each (λ c. Sized (vertex c) 600000000000000 6000000000) (corners_from p is)
    unfolding corners_from
    from_bounds p k none = none
    from_bounds p k (◌and◌ {x = i} q qs) = meet_bounds s (plane p) (plane i) r k q and from_bounds i q qs

    -- 6·10^14 for x, y and z, and 6·10^9 for w
    pub corner_bounds : {is : List ℕ} → Each (λ i. T (in_range (plane i))) is → Each (λ c. Sized (vertex c) 600000000000000 6000000000) (corners is)
    unfolding corners
    corner_bounds none = none
    corner_bounds (◌and◌ {x = i} {xs = is} q qs) = from_bounds (final i is) (each_final i is (q and qs)) (q and qs)

    pub corner_bounds_at : (d : Corner) {is : List ℕ} → Each (λ i. T (in_range (plane i))) is → (i : ℕ) → i < length is → Sized (vertex (get_or (corners is) i d)) 600000000000000 6000000000
    corner_bounds_at d {is} e i l = each_at d (corner_bounds e) i (omega (arith, corners_length is))

  -- the first three vertices, added
  pub witness_corners : (d : Corner) (is : List ℕ) → 3 ≤ length is
      → witness s (map plane is) ≡ added (vertex (get_or (corners is) 0 d)) (vertex (get_or (corners is) 1 d)) (vertex (get_or (corners is) 2 d))
  unfolding witness corners corners_from
  witness_corners d [] l = absurd (omega arith)
  witness_corners d (a ∷ []) l = absurd (omega arith)
  witness_corners d (a ∷ b ∷ []) l = absurd (omega arith)
  witness_corners d (a ∷ b ∷ c ∷ is) l =
      ap (λ (p : Plane). added (meet s p (plane a)) (meet s (plane a) (plane b)) (meet s (plane b) (plane c))) (map_final plane c is)

  -- ---- the clip of indices by the index h

  -- the side of the plane of h on which the vertex between the bounds p and b lies
  abbrev pub bound_side : ℕ → ℕ → ℕ → Sign
  bound_side h p b = vertex_side s (plane h) (plane p) (plane b)

  -- its planes are those of the clip of the planes
  pub clip_index : (h : ℕ) (is : List ℕ) → map plane (clip_by (bound_side h) h is) ≡ clip s (plane h) (map plane is)
  clip_index h is = clip_by_map plane (bound_side h) (vertex_side s (plane h)) (λ p b. refl) h is ∙ sym (clip_plain s (plane h) (map plane is))

-- ---- clips one after the other

module _ (s : Plane) where
  -- by two lists
  pub clips_app : (gs hs bs : List Plane) → clips s (gs ++ hs) bs ≡ clips s hs (clips s gs bs)
  unfolding clips
  clips_app [] hs bs = refl
  clips_app (g ∷ gs) hs bs = clips_app gs hs (clip s g bs)

  -- one more
  pub clips_snoc : (gs : List Plane) (h : Plane) (bs : List Plane) → clips s (gs ++ h ∷ []) bs ≡ clip s h (clips s gs bs)
  unfolding clips
  clips_snoc gs h bs = clips_app gs (h ∷ []) bs

  -- Nothing stays Nothing
  pub clips_nothing : (hs : List Plane) → clips s hs [] ≡ []
  unfolding clips
  clips_nothing [] = refl
  clips_nothing (h ∷ hs) = rw (clip_plain s h []) (clips_nothing hs)

-- ---- after any clips of the start

start_length : (w : Way) → length (start w) ≡ 4
start_length along_x = refl
start_length against_x = refl
start_length along_y = refl
start_length against_y = refl
start_length along_z = refl
start_length against_z = refl

module _ (s : Plane) (n : lead s ≢ nought) (gs : List Plane) where
  -- they are those of a convex polygon, or there is no point
  pub clips_start : State (turn_turns (way s)) s (way_front s n) (start (way s) ++ gs) (clips s gs (start (way s)))
  clips_start = clips_state (turn_turns (way s)) s (way_front s n) gs (start (way s)) (start (way s))
      (live (record { polygon = start_polygon (way s) (turn (way s) s) (way_front s n); few = omega arith; keeps = λ x i. i; gives = λ x i. i }))

  -- at each vertex the determinant of the normals is positive
  pub clips_up : Around (λ p q. pos 0 ⋖ det3 (xyz s) (xyz p) (xyz q)) (clips s gs (start (way s)))
  clips_up = state_up (turn_turns (way s)) s (way_front s n) (start (way s) ++ gs) (clips s gs (start (way s))) clips_start

  -- at most one bound for each side of the start and each clip
  pub clips_few : length (clips s gs (start (way s))) ≤ 4 + length gs
  clips_few = go clips_start
    where
      go : State (turn_turns (way s)) s (way_front s n) (start (way s) ++ gs) (clips s gs (start (way s))) → length (clips s gs (start (way s))) ≤ 4 + length gs
      go (live l) = omega (arith, l.few, length-append (start (way s)) gs, start_length (way s))
      go (dead e z) = omega (arith, ap length e)

  -- one clip more puts out at most one bound more
  pub clip_few : (h : Plane) → length (clip s h (clips s gs (start (way s)))) ≤ suc (length (clips s gs (start (way s))))
  clip_few h = state_more (turn_turns (way s)) s (way_front s n) h (start (way s) ++ gs) (clips s gs (start (way s))) clips_start

  -- and at most two more than there are vertices in front
  clip_fronts : (h : Plane) → length (clip s h (clips s gs (start (way s)))) ≤ 2 + fronts_by (vertex_side s h) (clips s gs (start (way s)))
  clip_fronts h = state_fronts (turn_turns (way s)) s (way_front s n) h (start (way s) ++ gs) (clips s gs (start (way s))) clips_start

  -- the same of indices whose planes these are
  module _ (plane : ℕ → Plane) (is : List ℕ) (e : map plane is ≡ clips s gs (start (way s))) where
    pub indices_up : Upright s plane is
    indices_up = upright_of s plane is (rw e clips_up)

    pub indices_few : length is ≤ 4 + length gs
    indices_few = omega (arith, clips_few, map_length plane is, ap length e)

    pub clip_index_few : (h : ℕ) → length (clip_by (bound_side s plane h) h is) ≤ suc (length is)
    clip_index_few h = omega (
      arith,
      clip_few (plane h),
      map_length plane (clip_by (bound_side s plane h) h is),
      map_length plane is,
      ap length (clip_index s plane h is),
      ap (λ (bs : List Plane). length (clip s (plane h) bs)) e,
      ap length e,
    )

    pub clip_index_fronts : (h : ℕ) → length (clip_by (bound_side s plane h) h is) ≤ 2 + fronts_by (bound_side s plane h) is
    clip_index_fronts h = omega (
      arith,
      clip_fronts (plane h),
      map_length plane (clip_by (bound_side s plane h) h is),
      ap length (clip_index s plane h is),
      ap (λ (bs : List Plane). length (clip s (plane h) bs)) e,
      fronts_map plane (bound_side s plane h) (vertex_side s (plane h)) (λ p b. refl) is,
      ap (λ (bs : List Plane). fronts_by (vertex_side s (plane h)) bs) e,
    )

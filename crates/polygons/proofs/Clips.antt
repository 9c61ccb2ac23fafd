-- The clip of the polygon in a table: what its corners put out are the corners of document 01's clip.
--     get_d_read, indices_length, indices_at   the corners and indices of a table, by their place
--     module over `ClipIn`: what the functions of a clip are given, and what their answers say
--     clipped_polygon   after a clip the table holds the polygon of one clip more
use mathlib.Core.Path.{◌≡◌, refl, sym, ap, subst, ◌∙◌}
use mathlib.Core.Bool.{Bool, true, false}
use mathlib.Core.List.{List, [], ◌∷◌, ◌++◌, map}
use Prim.Native.Nat.{ℕ, zero, suc, ◌-◌, ◌*◌, ◌≤◌, ◌<◌}
use native.Mathlib.Omega.{arith}
use lib.Dec.{T}
use lib.IntN.{ℤ, pos}
use lib.ListN.{length, get_or, length-append, get_or-append}
use lib.Seq.{get_or_at}
use Rattle.whole.specs.Sign.{Sign, plus, sgn}
use Rattle.whole.specs.Lists.{Each, Each.none, Each.◌and◌, each_app, each_map, map_length}
use Rattle.scope.specs.Planes.{Plane, at, in_range}
use Rattle.scope.specs.Section as scope
use Rattle.theory.specs.Section.{Corner, corner, index, vertex, corners, corners_length, corners_index, corner_bounds_at, Upright, bound_side, clip_index, clips_snoc, each_at, at_each, indices_up, indices_few}
use Rattle.theory.specs.Section.{Sized, prev_to, put_to, corner_side, signal_at, put_corner, put_last, clip_corners, clip_all_front, clip_no_front}
use Rattle.theory.specs.Section.Index.{prior, next, prior_less, next_less, side_at, clip_to, clip_to_all}
use Rattle.planes.specs.Values.{plane, side_sign}
use Rattle.planes.specs.Bounds.{MeetingIn, in_range_in}
use Rattle.planes.specs.declared.Plane as struct
use Rattle.planes.specs.declared.Side.{Side}
use Rattle.planes.specs.declared.Side.TheVariants.{On}
use Rattle.polygons.specs.Tables.{look, corner_at, read, indices, said_at, last_to, put_all}
use Rattle.polygons.specs.Asked.{Region, Polygon, side_of, SideIn, Looked, EmitIn, Emitted, ClipIn, clip_of, ClippedOn}
use Rattle.polygons.proofs.Rules.{sign_back}
use Rattle.polygons.proofs.Cells.{read_length, read_same, read_none}

-- ---- a table's corners, by their place

pub get_d_read : (t : List ℤ) (n i : ℕ) (d : Corner) → i < n → get_or (read t n) i d ≡ corner_at t i
unfolding read
get_d_read t zero i d l = absurd (omega arith)
get_d_read t (suc n) i d l = by (n - i) refl (λ m. get_d_read t n i d m)
  where
    by : (j : ℕ) → n - i ≡ j → (i < n → get_or (read t n) i d ≡ corner_at t i) → get_or (read t n ++ corner_at t n ∷ []) i d ≡ corner_at t i
    by zero e g = let f : i ≡ n = omega arith in rw f (get_or_at (read t n) (corner_at t n) [] d n (read_length t n))
    by (suc j) e g = get_or-append (read t n) (corner_at t n ∷ []) d i (omega (arith, read_length t n)) ∙ g (omega arith)

pub indices_length : (t : List ℤ) (n : ℕ) → length (indices t n) ≡ n
unfolding indices
indices_length t n = map_length index (read t n) ∙ read_length t n

get_d_map : (xs : List Corner) (i : ℕ) (d : Corner) → i < length xs → get_or (map index xs) i 0 ≡ index (get_or xs i d)
get_d_map [] i d l = absurd (omega arith)
get_d_map (x ∷ xs) zero d l = refl
get_d_map (x ∷ xs) (suc i) d l = get_d_map xs i d (omega arith)

pub indices_at : (t : List ℤ) (n i : ℕ) → i < n → get_or (indices t n) i 0 ≡ index (corner_at t i)
unfolding indices
indices_at t n i l = get_d_map (read t n) i (corner_at t i) (omega (arith, read_length t n)) ∙ ap index (get_d_read t n i (corner_at t i) l)

pub indices_none : (t : List ℤ) → indices t 0 ≡ []
unfolding indices
indices_none t = ap (map index) (read_none t)

-- ---- what a clip puts out are bounds that it was given, and the one that it is by

abbrev table_at : (ℕ → ℕ → Sign) → List ℕ → ℕ → scope.Signal
table_at side bs i = scope.table (side_at side 0 0 bs (prior (length bs) i)) (side_at side 0 0 bs i) (side_at side 0 0 bs (next (length bs) i))

each_clip : {Q : ℕ → Type 0} (side : ℕ → ℕ → Sign) (h : ℕ) (bs : List ℕ) → Q h → Each Q bs → Each Q (scope.clip_by side h bs)
unfolding clip_to
each_clip {Q} side h bs q e = subst (λ l. Each Q l) (clip_to_all side h 0 bs) (go (length bs) (omega arith))
  where
    one : (g : scope.Signal) {b : ℕ} → Q b → Each Q (scope.put g h b)
    one scope.nothing p = none
    one scope.B p = p and none
    one scope.HB p = q and (p and none)

    go : (i : ℕ) → i ≤ length bs → Each Q (clip_to side h 0 bs i)
    go zero l = none
    go (suc i) l = each_app (go i (omega arith)) (one (table_at side bs i) (each_at 0 e i (omega arith)))

pub true_T : {b : _} → b ≡ true → T b
true_T e = rw e tt

sized_in : {X : Plane} → Sized X 600000000000000 6000000000 → MeetingIn X
sized_in h = record { x_in = h.x_size; y_in = h.y_size; z_in = h.z_size; w_in = h.w_size }

-- ---- the polygon's vertices

module _ (s : Plane) (hs : List ℤ) (width top : ℕ) (gs : List Plane) (r : Region s hs width top) (t : List ℤ) (n : ℕ) (p : Polygon s (look hs width) top gs t n) where
  -- its indices
  pub polygon_below : Each (λ i. i < top) (indices t n)
  polygon_below = at_each (indices t n) 0 (λ i l. let m : i < n = omega (arith, indices_length t n) in rw (indices_at t n i m) (p.below i m))

  pub polygon_corner : (i : ℕ) → i < n → get_or (corners s (look hs width) (indices t n)) i (corner 0 s) ≡ corner_at t i
  polygon_corner i l = ap (λ c. get_or c i (corner 0 s)) (sym p.held) ∙ get_d_read t n i (corner 0 s) l

  -- 6·10^14 for x, y and z, and 6·10^9 for w
  pub polygon_vertex : (i : ℕ) → i < n → MeetingIn (vertex (corner_at t i))
  polygon_vertex i l =
      rw (← polygon_corner i l) (sized_in (corner_bounds_at s (look hs width) (true_T r.support) (corner 0 s) (each_map (λ j m. true_T (r.ranged j m)) polygon_below) i (omega (arith, indices_length t n))))

-- ---- a clip

module _ (s : Plane) (hs : List ℤ) (width k : ℕ) (t : List ℤ) (n : ℕ) (out : List ℤ) (a : ClipIn s hs width k t n out) where
  abbrev plane_of : ℕ → Plane
  plane_of = look hs width

  abbrev is : List ℕ
  is = indices t n

  abbrev cs : List Corner
  cs = corners s plane_of is

  abbrev d : Corner
  d = corner 0 s

  abbrev clipped : List ℕ
  clipped = clip_of s plane_of k is

  upright : Upright s plane_of is
  upright = indices_up s a.region.normal a.gs plane_of is a.polygon.from

  pub clip_n : n ≤ 133
  clip_n = omega (arith, indices_few s a.region.normal a.gs plane_of is a.polygon.from, indices_length t n, a.few)

  clipped_from : map plane_of clipped ≡ scope.clips s (a.gs ++ plane_of k ∷ []) (scope.start (scope.way s))
  clipped_from = clip_index s plane_of k is ∙ ap (scope.clip s (plane_of k)) a.polygon.from ∙ sym (clips_snoc s a.gs (plane_of k) (scope.start (scope.way s)))

  clipped_few : length clipped ≤ 134
  clipped_few = omega (arith, indices_few s a.region.normal (a.gs ++ plane_of k ∷ []) plane_of clipped clipped_from, length-append a.gs (plane_of k ∷ []), a.few)

  below_each : Each (λ i. i < a.top) is
  below_each = polygon_below s hs width a.top a.gs a.region t n a.polygon

  corner_is : (i : ℕ) → i < n → get_or cs i d ≡ corner_at t i
  corner_is i l = polygon_corner s hs width a.top a.gs a.region t n a.polygon i l

  vertex_in : (i : ℕ) → i < n → MeetingIn (vertex (corner_at t i))
  vertex_in i l = polygon_vertex s hs width a.top a.gs a.region t n a.polygon i l

  -- ---- left in the first table

  on_same : clipped ≡ is → ClippedOn s plane_of k t n t n
  on_same e = record { room = a.polygon.room; held = a.polygon.held ∙ ap (corners s plane_of) (sym e) }

  on_gone : clipped ≡ [] → ClippedOn s plane_of k t n t 0
  unfolding corners
  on_gone e = record { room = omega arith; held = read_none t ∙ ap (corners s plane_of) (sym e) }

  -- what was put out into u, copied over the first corners
  on_cut : (u t' : List ℤ) (m : ℕ) → m ≤ 134 → read u m ≡ corners s plane_of clipped → length t' ≡ length t → ((j : ℕ) → j < 5 * m → get_or t' j (pos 0) ≡ get_or u j (pos 0)) → ClippedOn s plane_of k t n t' m
  on_cut u t' m b q l f = record { room = omega (arith, a.room); held = read_same t' u m f ∙ q }

  -- ---- by the sides

  module _ (h : struct.Plane) (e : plane h ≡ plane_of k) where
    pub clip_side : (i : ℕ) → i < n → SideIn h t i
    clip_side i l = record {
      room = omega (arith, a.polygon.room);
      plane_in = in_range_in (ap in_range e ∙ a.region.ranged k a.k_below);
      vertex_in = vertex_in i l;
    }

    side_there : (i : ℕ) → i < n → side_of h t i ≡ corner_side s plane_of k (get_or cs i d)
    side_there i l = (λ j. sgn (at (e j) (vertex (sym (corner_is i l) j))))

    pub clip_same : ((i : ℕ) → i < n → side_of h t i ≡ plus) → ClippedOn s plane_of k t n t n
    clip_same f = on_same (clip_all_front s plane_of k d is upright (λ i b. let c : i < n = omega (arith, indices_length t n) in sym (side_there i c) ∙ f i c))

    module _ (sides : List Side) (q : length sides ≡ n) (r : Bool) (l : Looked h t sides r) where
      pub clip_gone : r ≡ false → ClippedOn s plane_of k t n t 0
      clip_gone e = on_gone (clip_no_front s plane_of k d is upright (λ i b g. let c : i < n = omega (arith, indices_length t n) in l.none e i (omega arith) (side_there i c ∙ g)))

      -- the loop by the sides is the loop by the corners
      seen : (i : ℕ) → i < length sides → side_sign (get_or sides i On) ≡ corner_side s plane_of k (get_or cs i d)
      seen i b = ap side_sign (l.each i b) ∙ sign_back (side_of h t i) ∙ side_there i (omega arith)

      count : length cs ≡ length sides
      count = corners_length s plane_of is ∙ indices_length t n ∙ sym q

      said_is : (i : ℕ) → i < length sides → said_at sides i ≡ signal_at s plane_of k d cs i
      said_is i b =
          let n = length sides in
          let x = seen (prior n i) (prior_less n i b) ∙ ap (λ n. corner_side s plane_of k (get_or cs (prior n i) d)) (sym count) in
          let y = seen i b in
          let z = seen (next n i) (next_less n i b) ∙ ap (λ n. corner_side s plane_of k (get_or cs (next n i) d)) (sym count) in
          λ j. scope.table (x j) (y j) (z j)

      corner_here : (i : ℕ) → i < length sides → corner_at t i ≡ get_or cs i d
      corner_here i b = sym (corner_is i (omega arith))

      last_is : (p i : ℕ) → i ≤ length sides → last_to sides t p i ≡ prev_to s plane_of k d p cs i
      unfolding last_to prev_to
      last_is p zero b = refl
      last_is p (suc i) b = let x = said_is i b in let y = last_is p i (omega arith) in let z = corner_here i b in λ j. put_last (x j) (y j) (z j)

      put_is : (p i : ℕ) → i ≤ length sides → put_all s plane_of k sides t p i ≡ put_to s plane_of k d p cs i
      unfolding put_all put_to
      put_is p zero b = refl
      put_is p (suc i) b =
          let w = put_is p i (omega arith) in
          let x = said_is i b in
          let y = last_is p i (omega arith) in
          let z = corner_here i b in
          λ j. w j ++ put_corner s plane_of k (x j) (y j) (z j)

      put_clip : put_all s plane_of k sides t (last_to sides t 0 (length sides)) (length sides) ≡ corners s plane_of clipped
      put_clip =
          let n = length sides in
          let x = last_is 0 n (omega arith) in
          (λ j. put_all s plane_of k sides t (x j) n) ∙ put_is (prev_to s plane_of k d 0 cs n) n (omega arith) ∙ (λ j. put_to s plane_of k d (prev_to s plane_of k d 0 cs (sym count j)) cs (sym count j))
          ∙ clip_corners s plane_of k d is upright 0

      put_few : length (put_all s plane_of k sides t (last_to sides t 0 (length sides)) (length sides)) ≤ 134
      put_few = omega (arith, ap length put_clip, corners_length s plane_of clipped, clipped_few)

      pub clip_emit : EmitIn s hs width k t sides out
      clip_emit = record {
        top = a.top;
        region = a.region;
        k_below = a.k_below;
        below = λ i b. a.polygon.below i (omega arith);
        corner_room = omega (arith, a.polygon.room);
        room = a.out_room;
        few = put_few;
      }

      pub clip_cut : (out' t' : List ℤ) (m : ℕ) → Emitted s plane_of k t sides out' m → length t' ≡ length t → ((j : ℕ) → j < 5 * m → get_or t' j (pos 0) ≡ get_or out' j (pos 0)) → ClippedOn s plane_of k t n t' m
      clip_cut out' t' m e l f = on_cut out' t' m e.few (e.read_is ∙ put_clip) l f

  -- after the clip the table holds the polygon of one clip more
  module _ (t' : List ℤ) (r : ℕ) (c : ClippedOn s plane_of k t n t' r) where
    clipped_indices : indices t' r ≡ clipped
    unfolding indices
    clipped_indices = ap (map index) c.held ∙ corners_index s plane_of clipped

    clipped_below : Each (λ i. i < a.top) (indices t' r)
    clipped_below = rw clipped_indices (each_clip (bound_side s plane_of k) k is a.k_below below_each)

    pub clipped_polygon : Polygon s plane_of a.top (a.gs ++ plane_of k ∷ []) t' r
    clipped_polygon = record {
      room = c.room;
      below = λ i l. rw (← indices_at t' r i l) (each_at 0 clipped_below i (omega (arith, indices_length t' r)));
      held = c.held ∙ ap (corners s plane_of) (sym clipped_indices);
      from = ap (map plane_of) clipped_indices ∙ clipped_from;
    }

-- Whether a plane cuts the cell of a path: a polygon that is clipped only by bounds that its witness is not in front of.
--     asked_of        what is asked: the remaining axis's two sides of the box, and the rows
--     Cutting         the polygon of so many clips, each by another of these
--     cutting_..      the start, what the functions are given, one clip more, and the answers
use mathlib.Core.Path.{◌≡◌, refl, sym, ap, subst, ◌∙◌}
use mathlib.Core.Logic.{◌≢◌, ◌⊎◌, inl, inr}
use mathlib.Core.List.{List, [], ◌∷◌, ◌++◌}
use Prim.Native.Nat.{ℕ, zero, suc, ◌+◌, ◌/◌, ◌≤◌, ◌<◌}
use native.Mathlib.Omega.{arith}
use lib.Dec.{T}
use lib.IntN.{ℤ, pos}
use lib.ListN.{length, get_or, length-append}
use Rattle.whole.specs.Order.{◌⋖◌, lt_not_le}
use Rattle.whole.specs.Lists.{each_map, map_each, map_length}
use Rattle.whole.specs.Members.{◌∈◌, here, there, in_left, in_right, in_either, each_in, without, without_length, without_in}
use Rattle.scope.specs.Planes.{Plane, Point, at, in_range}
use Rattle.scope.specs.Cells.{Inside, box}
use Rattle.scope.specs.Section as scope
use Rattle.theory.specs.Section.{corner, vertex, corners, witness, witness_corners, witness_bounds, rest_length, clips_none, clips_witness, clips_enough}
use Rattle.theory.specs.Section.Sides.{inside_given, given_inside}
use Rattle.theory.specs.Section.Witness.{added}
use Rattle.planes.specs.Values.{meeting}
use Rattle.planes.specs.declared.Meeting.{Meeting}
use Rattle.std.specs.Prelude.{Some, None}
use Rattle.polygons.specs.Values.{way_code}
use Rattle.polygons.specs.Tables.{look, corner_at, indices, rows_down}
use Rattle.polygons.specs.Asked.{Region, Polygon, AddedIn, ClipIn, ClippedOn}
use Rattle.cuts.specs.Paths.{axis_sides, StoppedBy, Small, Placed, CutIn, CutTold, is_at, is_nothing}
use Rattle.polygons.proofs.Clips.{indices_length, polygon_below, polygon_corner, polygon_vertex, true_T, clipped_polygon}
use Rattle.polygons.proofs.Starts.{wider, polygon_nothing}
use Rattle.polygons.proofs.Starts.{between}

-- ---- what is asked

abbrev pub asked_of : Plane → List ℤ → ℕ → List Plane
asked_of s path depth = scope.rest (scope.way s) ++ rows_down path 9 depth

pub rest_sides : (s : Plane) (w : ℕ) → w ≡ way_code (scope.way s) → axis_sides (w / 2) ≡ scope.rest (scope.way s)
rest_sides s w e = rw e (go (scope.way s))
  where
    go : (v : scope.Way) → axis_sides (way_code v / 2) ≡ scope.rest v
    go scope.along_x = refl
    go scope.against_x = refl
    go scope.along_y = refl
    go scope.against_y = refl
    go scope.along_z = refl
    go scope.against_z = refl

rows_count : (path : List ℤ) (d : ℕ) → length (rows_down path 9 d) ≡ d
unfolding rows_down
rows_count path zero = refl
rows_count path (suc d) = ap suc (rows_count path d)

-- ---- the polygon of some clips

-- `fresh` are those that it has not been clipped by
pub record Cutting (s : Plane) (path : List ℤ) (depth : ℕ) (t : List ℤ) (n i : ℕ) : Type 0 where
  pub gs : List Plane
  pub polygon : Polygon s (look path 9) (6 + depth) gs t n
  pub count : length gs ≡ i
  pub among : (h : Plane) → h ∈ gs → h ∈ asked_of s path depth
  pub fresh : List Plane
  pub few : length fresh + i ≡ 2 + depth
  pub others : (h : Plane) → h ∈ asked_of s path depth → ¬ (h ∈ gs) → h ∈ fresh

module _ {s : Plane} {path : List ℤ} {depth : ℕ} (a : CutIn s path depth) where
  pub region_path : Region s path 9 (6 + depth)
  region_path = record {
    support = a.support;
    normal = a.normal;
    box = omega arith;
    few = omega (arith, a.rows.path_in.few);
    found = λ k b c. omega (arith, a.rows.path_in.room);
    ranged = λ k b. between path 9 depth k a.rows.ranged b;
  }

  pub cutting_first : (t : List ℤ) → Polygon s (look path 9) 6 [] t 4 → Cutting s path depth t 4 0
  cutting_first t p = record {
    gs = [];
    polygon = wider s (look path 9) 6 (6 + depth) (omega arith) p;
    count = refl;
    among = λ h m. elim m [ ];
    fresh = asked_of s path depth;
    few = omega (arith, length-append (scope.rest (scope.way s)) (rows_down path 9 depth), rest_length (scope.way s), rows_count path depth);
    others = λ h m n. m;
  }

  -- no more clips than are asked
  pub cutting_end : {t : List ℤ} {n : ℕ} → ¬ Cutting s path depth t n (depth + 3)
  cutting_end g = omega (arith, g.few)

  module _ {t : List ℤ} {n i : ℕ} (g : Cutting s path depth t n i) where
    abbrev bounds : List Plane
    bounds = scope.clips s g.gs (scope.start (scope.way s))

    -- a point of the cell is one of all bounds
    fewer : {X : Point} → Inside (rows_down path 9 depth ++ box) X → Inside (scope.start (scope.way s) ++ g.gs) X
    fewer {X} f =
        let w = inside_given (scope.way s) (rows_down path 9 depth) f in
        record { each = λ h m. go h (in_either (scope.start (scope.way s)) g.gs m) w }
      where
        go : (h : Plane) → (h ∈ scope.start (scope.way s)) ⊎ (h ∈ g.gs) → Inside (scope.start (scope.way s) ++ asked_of s path depth) X → pos 0 ⋖ at h X
        go h (inl m) w = w.each h (in_left (asked_of s path depth) m)
        go h (inr m) w = w.each h (in_right (scope.start (scope.way s)) (g.among h m))

    pub cutting_nothing : n ≡ 0 → CutTold s (rows_down path 9 depth ++ box) None
    cutting_nothing e = is_nothing (λ c. clips_none s g.gs a.normal (polygon_nothing s (look path 9) g.polygon e) c.point c.on (fewer c.inside))

    module _ (f : n ≡ 0 → ⊥) where
      bounds_count : length bounds ≡ n
      bounds_count = ap length (sym g.polygon.from) ∙ map_length (look path 9) (indices t n) ∙ indices_length t n

      some : bounds ≢ []
      some e = f (sym bounds_count ∙ ap length e)

      three : 3 ≤ n
      three = omega (arith, clips_enough s g.gs a.normal some, bounds_count)

      pub cutting_added : AddedIn t
      cutting_added = record { room = omega (arith, g.polygon.room, three); vertex_in = λ j l. polygon_vertex s path 9 (6 + depth) g.gs region_path t n g.polygon j (omega (arith, three)) }

      vertex_is : (j : ℕ) → j < n → vertex (corner_at t j) ≡ vertex (get_or (corners s (look path 9) (indices t n)) j (corner 0 s))
      vertex_is j l = ap vertex (sym (polygon_corner s path 9 (6 + depth) g.gs region_path t n g.polygon j l))

      bounds_small : Small (witness s bounds)
      bounds_small = witness_bounds s bounds (true_T a.support) (λ b m. each_in {Q = λ p. T (in_range p)} (map_each (look path 9) (each_map (λ j l. true_T (region_path.ranged j l)) (polygon_below s path 9 (6 + depth) g.gs region_path t n g.polygon))) b (subst (λ l. b ∈ l) (sym g.polygon.from) m))

      -- m is the first three vertices, added
      module _ {m : Meeting} (e : meeting m ≡ added (vertex (corner_at t 0)) (vertex (corner_at t 1)) (vertex (corner_at t 2))) where
        is_witness : meeting m ≡ witness s bounds
        is_witness =
            let x = vertex_is 0 (omega (arith, three)) in
            let y = vertex_is 1 (omega (arith, three)) in
            let z = vertex_is 2 (omega (arith, three)) in
            e ∙ (λ j. added (x j) (y j) (z j)) ∙ sym (witness_corners s (look path 9) (corner 0 s) (indices t n) (omega (arith, three, indices_length t n))) ∙ ap (witness s) g.polygon.from

        so : (at s (meeting m) ≡ pos 0) × (pos 0 ⋖ (meeting m).w) × Inside (scope.start (scope.way s) ++ g.gs) (meeting m)
        so = subst (λ X. (at s X ≡ pos 0) × (pos 0 ⋖ X.w) × Inside (scope.start (scope.way s) ++ g.gs) X) (sym is_witness) (clips_witness s g.gs a.normal some)

        small : Small (meeting m)
        small = subst Small (sym is_witness) bounds_small

        pub cutting_placed : Placed (meeting m)
        cutting_placed = record { up = so.1; small = small }

        -- w is the support's way as a number
        module _ {w : ℕ} (v : w ≡ way_code (scope.way s)) where
          sides_asked : axis_sides (w / 2) ++ rows_down path 9 depth ≡ asked_of s path depth
          sides_asked = ap (λ l. l ++ rows_down path 9 depth) (rest_sides s w v)

          -- in front of all that is asked, it lies in the cell
          pub cutting_at : ((h : Plane) → h ∈ (axis_sides (w / 2) ++ rows_down path 9 depth) → pos 0 ⋖ at h (meeting m)) → CutTold s (rows_down path 9 depth ++ box) (Some m)
          cutting_at f = is_at (record { on = so.0; inside = given_inside (scope.way s) (rows_down path 9 depth) so.1 (record { each = λ h i. go h (in_either (scope.start (scope.way s)) (asked_of s path depth) i) }); sized = small })
            where
              go : (h : Plane) → (h ∈ scope.start (scope.way s)) ⊎ (h ∈ asked_of s path depth) → pos 0 ⋖ at h (meeting m)
              go h (inl i) = so.2.each h (in_left g.gs i)
              go h (inr i) = f h (subst (λ l. h ∈ l) (sym sides_asked) i)

          -- a bound that it is not in front of is a new one
          module _ {j : ℕ} (b : StoppedBy (look path 9) (axis_sides (w / 2) ++ rows_down path 9 depth) (6 + depth) (meeting m) j) where
            asked : look path 9 j ∈ asked_of s path depth
            asked = subst (λ l. look path 9 j ∈ l) sides_asked b.member

            pub new : ¬ (look path 9 j ∈ g.gs)
            new i = lt_not_le (so.2.each (look path 9 j) (in_right (scope.start (scope.way s)) i)) b.behind

            pub is_fresh : look path 9 j ∈ g.fresh
            is_fresh = g.others (look path 9 j) asked new

            abbrev pub cutting_clip : (out : List ℤ) → 675 ≤ length t → 675 ≤ length out → ClipIn s path 9 j t n out
            cutting_clip out l l' = record {
              top = 6 + depth;
              gs = g.gs;
              region = region_path;
              k_below = b.below;
              polygon = g.polygon;
              few = omega (arith, g.few, g.count, without_length g.fresh is_fresh, a.rows.path_in.few);
              room = l;
              out_room = l';
            }

            pub cutting_more : (out : List ℤ) {t' : List ℤ} {r : ℕ} → 675 ≤ length t → 675 ≤ length out → ClippedOn s (look path 9) j t n t' r → Cutting s path depth t' r (i + 1)
            cutting_more out {t'} {r} l l' q = record {
              gs = g.gs ++ look path 9 j ∷ [];
              polygon = clipped_polygon s path 9 j t n out (cutting_clip out l l') t' r q;
              count = omega (arith, length-append g.gs (look path 9 j ∷ []), g.count);
              among = λ h v. go h (in_either g.gs (look path 9 j ∷ []) v);
              fresh = without g.fresh is_fresh;
              few = omega (arith, g.few, without_length g.fresh is_fresh);
              others = λ h v w. without_in g.fresh is_fresh (g.others h v (λ u. w (in_left (look path 9 j ∷ []) u))) (λ e. w (in_right g.gs (here e)));
            }
              where
                go : (h : Plane) → (h ∈ g.gs) ⊎ (h ∈ (look path 9 j ∷ [])) → h ∈ asked_of s path depth
                go h (inl v) = g.among h v
                go h (inr (here e)) = subst (λ p. p ∈ asked_of s path depth) (sym e) asked
                go h (inr (there v)) = elim v [ ]

-- The polygon from the start to the end: the start in a table, and the clips one after the other.
--     region_box, opened_start, first_clip, second_clip, opened_polygon   the start, and its clips by the remaining axis's two planes
--     way_in          the way of a support, as a number
--     wider, polygon_nothing   a polygon of fewer indices is one of more; one of no corners is Nothing
--     look_6, between  the planes of indices from 6 on are the rows, and all are in range
--     turn_clip, turn_more, turn_gone   one clip more, and no clip brings Nothing back
use mathlib.Core.Path.{◌≡◌, refl, sym, ap, ◌∙◌}
use mathlib.Core.Bool.{true}
use mathlib.Core.Logic.{◌≢◌}
use mathlib.Core.List.{List, [], ◌∷◌, ◌++◌, map, append_assoc, append-nil}
use Prim.Native.Nat.{ℕ, zero, suc, ◌+◌, ◌-◌, ◌*◌, ◌/◌, ◌≤◌, ◌<◌}
use native.Mathlib.Numerals.{add-one}
use native.Mathlib.Omega.{arith}
use lib.IntN.{ℤ}
use lib.ListN.{length, get_or, length-append}
use Rattle.whole.specs.Sign.{nought}
use Rattle.scope.specs.Planes.{Plane, in_range, lead}
use Rattle.scope.specs.Section as scope
use Rattle.theory.specs.Section.{index, corners, corners_index, clips_app, clips_nothing, rest_length}
use Rattle.polygons.specs.Values.{way_code, way_of, six, starts}
use Rattle.polygons.specs.Tables.{box_side, row, look, read, indices, rows_to}
use Rattle.polygons.specs.Asked.{Region, Polygon, ClipIn, ClippedOn, Supported}
use Rattle.polygons.proofs.Rules.{way_back, way_small}
use Rattle.polygons.proofs.Cells.{read_none, look_row, box_in}
use Rattle.polygons.proofs.Loops.{start_small, start_entry, start_corners, rest_first, rest_second}
use Rattle.polygons.proofs.Clips.{indices_at, indices_none, clipped_polygon}

-- ---- the start

starts_planes : (hs : List ℤ) (width : ℕ) (w : scope.Way) → map (look hs width) (starts w) ≡ scope.start w
unfolding look starts six
starts_planes hs width scope.along_x = refl
starts_planes hs width scope.against_x = refl
starts_planes hs width scope.along_y = refl
starts_planes hs width scope.against_y = refl
starts_planes hs width scope.along_z = refl
starts_planes hs width scope.against_z = refl

rest_planes : (hs : List ℤ) (width : ℕ) (w : scope.Way) → look hs width (get_or (six w) 4 0) ∷ look hs width (get_or (six w) 5 0) ∷ [] ≡ scope.rest w
unfolding look six
rest_planes hs width scope.along_x = refl
rest_planes hs width scope.against_x = refl
rest_planes hs width scope.along_y = refl
rest_planes hs width scope.against_y = refl
rest_planes hs width scope.along_z = refl
rest_planes hs width scope.against_z = refl

module _ (s : Plane) (hs : List ℤ) (width : ℕ) (b : in_range s ≡ true) (o : lead s ≢ nought) where
  pub region_box : Region s hs width 6
  region_box = record { support = b; normal = o; box = omega arith; few = omega arith; found = λ k l m. absurd (omega arith); ranged = λ k l. box_in hs width k l }

  module _ (w : ℕ) (e : w ≡ way_code (scope.way s)) where
    way_is : way_of w ≡ scope.way s
    way_is = ap way_of e ∙ way_back (scope.way s)

    pub way_in : w < 6
    way_in = rw e (way_small (scope.way s))

    -- the four corners
    module _ (t : List ℤ) (l : 675 ≤ length t) (h : read t 4 ≡ corners s (look hs width) (starts (way_of w))) where
      start_indices : indices t 4 ≡ starts (scope.way s)
      unfolding indices
      start_indices = ap (map index) h ∙ corners_index s (look hs width) (starts (way_of w)) ∙ ap starts way_is

      pub opened_start : Polygon s (look hs width) 6 [] t 4
      unfolding scope.clips
      opened_start = record {
        room = omega arith;
        below = λ i m. let q = sym (indices_at t 4 i m) ∙ ap (λ l. get_or l i 0) start_indices ∙ sym (start_entry (scope.way s) i m) in rw q (start_small (scope.way s) i (omega arith));
        held = h ∙ ap (corners s (look hs width)) (ap starts way_is ∙ sym start_indices);
        from = ap (map (look hs width)) start_indices ∙ starts_planes hs width (scope.way s);
      }

    -- the two clips
    module _ (i k : ℕ) (f : k ≡ get_or (six (way_of w)) i 0) (m : i < 6) where
      pub rest_small : k < 6
      rest_small = rw f (start_small (way_of w) i m)

      rest_is : look hs width k ≡ look hs width (get_or (six (scope.way s)) i 0)
      rest_is = ap (look hs width) (f ∙ ap (λ w. get_or (six w) i 0) way_is)

    pub opened_rest : (j k : ℕ) → j ≡ get_or (six (way_of w)) 4 0 → k ≡ get_or (six (way_of w)) 5 0 → look hs width j ∷ look hs width k ∷ [] ≡ scope.rest (scope.way s)
    opened_rest j k f g = (let x = rest_is 4 j f (omega arith) in let y = rest_is 5 k g (omega arith) in λ i. x i ∷ y i ∷ []) ∙ rest_planes hs width (scope.way s)

-- ---- polygons

module _ (s : Plane) (plane : ℕ → Plane) where
  -- of fewer indices, of more
  pub wider : {gs : List Plane} {t : List ℤ} {n : ℕ} (low top : ℕ) → low ≤ top → Polygon s plane low gs t n → Polygon s plane top gs t n
  wider low top l p = record { room = p.room; below = λ i m. omega (arith, p.below i m); held = p.held; from = p.from }

  -- Nothing
  pub nothing_polygon : (top : ℕ) (gs : List Plane) (t : List ℤ) → scope.clips s gs (scope.start (scope.way s)) ≡ [] → Polygon s plane top gs t 0
  unfolding corners
  nothing_polygon top gs t e = record {
    room = omega arith;
    below = λ i m. absurd (omega arith);
    held = read_none t ∙ ap (corners s plane) (sym (indices_none t));
    from = ap (map plane) (indices_none t) ∙ sym e;
  }

  -- a polygon of no corners is Nothing
  pub polygon_nothing : {top : ℕ} {gs : List Plane} {t : List ℤ} {n : ℕ} → Polygon s plane top gs t n → n ≡ 0 → scope.clips s gs (scope.start (scope.way s)) ≡ []
  polygon_nothing {top} {gs} {t} {n} p e = sym p.from ∙ ap (λ n. map plane (indices t n)) e ∙ ap (map plane) (indices_none t)

-- ---- rows in order

pub look_6 : (hs : List ℤ) (width i : ℕ) → look hs width (6 + i) ≡ row hs width i
look_6 hs width i = let e : 6 + i - 6 ≡ i = omega arith in sym (look_row hs width (6 + i) (omega arith)) ∙ ap (row hs width) e

module _ (s : Plane) (hs : List ℤ) (width rows : ℕ) where
  abbrev all_to : ℕ → List Plane
  all_to i = scope.rest (scope.way s) ++ rows_to hs width i

  pub rows_none : scope.rest (scope.way s) ≡ all_to 0
  unfolding rows_to
  rows_none = sym (append-nil (scope.rest (scope.way s)))

  rows_more : (i : ℕ) → all_to i ++ look hs width (6 + i) ∷ [] ≡ all_to (suc i)
  unfolding rows_to
  rows_more i = ap (λ p. all_to i ++ p ∷ []) (look_6 hs width i) ∙ append_assoc (scope.rest (scope.way s)) (rows_to hs width i) (row hs width i ∷ [])

  pub rows_next : (i : ℕ) → all_to i ++ look hs width (6 + i) ∷ [] ≡ all_to (i + 1)
  rows_next i = rows_more i ∙ ap all_to (sym (add-one i))

  rows_length : (i : ℕ) → length (rows_to hs width i) ≡ i
  unfolding rows_to
  rows_length zero = refl
  rows_length (suc i) = length-append (rows_to hs width i) (row hs width i ∷ []) ∙ omega (arith, rows_length i)

  pub rows_few : (i : ℕ) → i < rows → rows ≤ 128 → length (all_to i) ≤ 129
  rows_few i l m = omega (arith, length-append (scope.rest (scope.way s)) (rows_to hs width i), rows_length i, rest_length (scope.way s))

  -- Nothing after i rows is Nothing after all
  pub rows_gone : (i d n : ℕ) → i + d ≡ n → scope.clips s (all_to i) (scope.start (scope.way s)) ≡ [] → scope.clips s (all_to n) (scope.start (scope.way s)) ≡ []
  rows_gone i zero n e z = let f : i ≡ n = omega arith in rw (← f) z
  rows_gone i (suc d) zero e z = absurd (omega arith)
  rows_gone i (suc d) (suc n) e z =
      ap (λ g. scope.clips s g (scope.start (scope.way s))) (sym (rows_more n)) ∙ clips_app s (all_to n) (look hs width (6 + n) ∷ []) (scope.start (scope.way s))
      ∙ ap (scope.clips s (look hs width (6 + n) ∷ [])) (rows_gone i d n (omega arith) z) ∙ clips_nothing s (look hs width (6 + n) ∷ [])

-- the planes of all indices are in range, as those of the rows are
pub between : (hs : List ℤ) (width rows k : ℕ) → ((i : ℕ) → i < rows → in_range (row hs width i) ≡ true) → k < 6 + rows → in_range (look hs width k) ≡ true
between hs width rows k f l = by (6 - k) refl
  where
    by : (j : ℕ) → 6 - k ≡ j → in_range (look hs width k) ≡ true
    by zero e = ap in_range (sym (look_row hs width k (omega arith))) ∙ f (k - 6) (omega arith)
    by (suc j) e = box_in hs width k (omega arith)

-- ---- the start and its two clips, as the code makes them

abbrev six_ways : (s : Plane) {w : ℕ} → w ≡ way_code (scope.way s) → w < 6
six_ways s e = rw e (way_small (scope.way s))

module _ {s : Plane} (hs : List ℤ) (width : ℕ) {t₀ out : List ℤ} (p : Supported s t₀ out) {w : ℕ} (e : w ≡ way_code (scope.way s)) (t : List ℤ) (l : length t ≡ length t₀) (h : read t 4 ≡ corners s box_side (starts (way_of w))) where
  abbrev pub first_clip : ClipIn s hs width (w / 2 * 2) t 4 out
  first_clip = record {
    top = 6;
    gs = [];
    region = region_box s hs width p.support p.normal;
    k_below = rest_small s hs width p.support p.normal w e 4 (w / 2 * 2) (rest_first w (six_ways s e)) (omega arith);
    polygon = opened_start s hs width p.support p.normal w e t (omega (arith, p.room)) (h ∙ start_corners s hs width (way_of w));
    few = omega arith;
    room = omega (arith, p.room);
    out_room = p.out_room;
  }

  module _ {t' : List ℤ} {n : ℕ} (c : ClippedOn s (look hs width) (w / 2 * 2) t 4 t' n) (l' : length t' ≡ length t) (out' : List ℤ) (m : length out' ≡ length out) where
    abbrev pub second_clip : ClipIn s hs width (w / 2 * 2 + 1) t' n out'
    second_clip = record {
      top = 6;
      gs = look hs width (w / 2 * 2) ∷ [];
      region = region_box s hs width p.support p.normal;
      k_below = rest_small s hs width p.support p.normal w e 5 (w / 2 * 2 + 1) (rest_second w (six_ways s e)) (omega arith);
      polygon = clipped_polygon s hs width (w / 2 * 2) t 4 out first_clip t' n c;
      few = omega arith;
      room = omega (arith, p.room);
      out_room = omega (arith, p.out_room);
    }

    pub opened_polygon : {t'' : List ℤ} {r : ℕ} → ClippedOn s (look hs width) (w / 2 * 2 + 1) t' n t'' r → Polygon s (look hs width) 6 (scope.rest (scope.way s)) t'' r
    opened_polygon {t''} {r} q =
        rw (opened_rest s hs width p.support p.normal w e (w / 2 * 2) (w / 2 * 2 + 1) (rest_first w (six_ways s e)) (rest_second w (six_ways s e))) at (clipped_polygon s hs width (w / 2 * 2 + 1) t' n out' second_clip t'' r q)

-- ---- a clip by row i

module _ (s : Plane) (hs : List ℤ) (width rows : ℕ) (g : Region s hs width (6 + rows)) where
  abbrev pub row_clip : (i : ℕ) → i < rows → (gs : List Plane) (t : List ℤ) (n : ℕ) (out : List ℤ) → Polygon s (look hs width) (6 + rows) gs t n → length gs ≤ 129 → 675 ≤ length t → 675 ≤ length out
      → ClipIn s hs width (6 + i) t n out
  row_clip i l gs t n out p f m m' = record { top = 6 + rows; gs = gs; region = g; k_below = omega arith; polygon = p; few = f; room = m; out_room = m' }

  pub row_clipped : (i : ℕ) (l : i < rows) (gs : List Plane) (t : List ℤ) (n : ℕ) (out : List ℤ) (p : Polygon s (look hs width) (6 + rows) gs t n) (f : length gs ≤ 129) (m : 675 ≤ length t) (m' : 675 ≤ length out)
      (t' : List ℤ) (r : ℕ) → ClippedOn s (look hs width) (6 + i) t n t' r → Polygon s (look hs width) (6 + rows) (gs ++ look hs width (6 + i) ∷ []) t' r
  row_clipped i l gs t n out p f m m' t' r q = clipped_polygon s hs width (6 + i) t n out (row_clip i l gs t n out p f m m') t' r q

-- ---- a turn of the loop over rows in order

module _ (s : Plane) (hs : List ℤ) (width rows : ℕ) (g : Region s hs width (6 + rows)) (i : ℕ) (l : i < rows) (t : List ℤ) (n : ℕ) (out : List ℤ) (p : Polygon s (look hs width) (6 + rows) (scope.rest (scope.way s) ++ rows_to hs width i) t n)
    (m : 675 ≤ length t) (m' : 675 ≤ length out) where
  few : length (scope.rest (scope.way s) ++ rows_to hs width i) ≤ 129
  few = rows_few s hs width rows i l (omega (arith, g.few))

  pub turn_clip : ClipIn s hs width (6 + i) t n out
  turn_clip = row_clip s hs width rows g i l (scope.rest (scope.way s) ++ rows_to hs width i) t n out p few m m'

  module _ (t' : List ℤ) (r : ℕ) (q : ClippedOn s (look hs width) (6 + i) t n t' r) where
    pub turn_more : Polygon s (look hs width) (6 + rows) (scope.rest (scope.way s) ++ rows_to hs width (i + 1)) t' r
    turn_more = rw (rows_next s hs width rows i) at (row_clipped s hs width rows g i l (scope.rest (scope.way s) ++ rows_to hs width i) t n out p few m m' t' r q)

    pub turn_gone : r ≡ 0 → Polygon s (look hs width) (6 + rows) (scope.rest (scope.way s) ++ rows_to hs width rows) t' 0
    turn_gone e = nothing_polygon s (look hs width) (6 + rows) (scope.rest (scope.way s) ++ rows_to hs width rows) t'
        (rows_gone s hs width rows (i + 1) (rows - (i + 1)) rows (omega arith) (polygon_nothing s (look hs width) turn_more e))

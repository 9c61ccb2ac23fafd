-- The loops over the corners of a polygon: the sides of each, the index put out last, what is put out; and the four corners of the start.
use mathlib.Core.Path.{◌≡◌, refl, sym, ap, ◌∙◌}
use mathlib.Core.Logic.{◌≢◌}
use mathlib.Core.Bool.{Bool, true}
use mathlib.Core.List.{List, [], ◌∷◌, ◌++◌}
use Prim.Native.Nat.{ℕ, zero, suc, ◌+◌, ◌-◌, ◌*◌, ◌/◌, ◌≤◌, ◌<◌}
use native.Mathlib.Numerals.{add-one}
use native.Mathlib.Omega.{arith}
use lib.IntN.{ℤ}
use lib.ListN.{length, get_or, length-append}
use lib.Dec.{T, ltb, ltb→lt}
use lib.Seq.{get_or-take}
use Rattle.whole.specs.Tests.{◌and◌, differ, and_split}
use Rattle.scope.specs.Planes.{Plane, meet}
use Rattle.scope.specs.Section as scope
use Rattle.theory.specs.Section.{Corner, corner, index, corners, put_corner, put_last}
use Rattle.theory.specs.Section.Corners.{corners_from}
use Rattle.planes.specs.declared.Side.{Side}
use Rattle.polygons.specs.declared.Place.{Place}
use Rattle.polygons.specs.declared.Signal.{Signal}
use Rattle.polygons.specs.declared.Signal.TheVariants.{Nothing, B, HB}
use Rattle.polygons.specs.Values.{signal_is, signal_of, way_of, six, starts}
use Rattle.polygons.specs.Tables.{box_side, look, corner_at, read, said_at, last_to, put_all}
use Rattle.polygons.specs.Asked.{Puts}
use Rattle.polygons.proofs.Rules.{signal_from}
use Rattle.polygons.proofs.Cells.{read_none}
use Rattle.polygons.proofs.Put.{puts_none}

-- ---- the index put out last

module _ (sides : List Side) (t : List ℤ) where
  pub last_none : (p : ℕ) → p ≡ last_to sides t p 0
  unfolding last_to
  last_none p = refl

  pub last_more : (p i prev : ℕ) (g : Signal) → prev ≡ last_to sides t p i → g ≡ signal_is (said_at sides i) → put_last (signal_of g) prev (corner_at t i) ≡ last_to sides t p (i + 1)
  unfolding last_to
  last_more p i prev g e f = rw add-one (let s = signal_from (said_at sides i) f in λ j. put_last (s j) (e j) (corner_at t i))

  -- from the end: a corner that puts nothing out is passed, and another one's index is put out last
  module _ (p left i : ℕ) (l : left ≡ suc i) (g : Signal) (f : g ≡ signal_is (said_at sides i)) where
    pub last_passed : g ≡ Nothing → last_to sides t p i ≡ last_to sides t p left
    unfolding last_to
    last_passed e = rw l (by (said_at sides i) (sym e ∙ f))
      where
        by : (s : scope.Signal) → Nothing ≡ signal_is s → last_to sides t p i ≡ put_last s (last_to sides t p i) (corner_at t i)
        by scope.nothing q = refl
        by scope.B q = differ (cc)
        by scope.HB q = differ (cc)

    pub last_found : g ≢ Nothing → index (corner_at t i) ≡ last_to sides t p left
    unfolding last_to
    last_found e = rw l (by (said_at sides i) (λ q. e (f ∙ ap signal_is q)))
      where
        by : (s : scope.Signal) → s ≢ scope.nothing → index (corner_at t i) ≡ put_last s (last_to sides t p i) (corner_at t i)
        by scope.nothing q = absurd (q refl)
        by scope.B q = refl
        by scope.HB q = refl

  -- it is an index of the polygon, if it was one before
  pub last_below : (p top : ℕ) → p < top → ((i : ℕ) → i < length sides → index (corner_at t i) < top) → (i : ℕ) → i ≤ length sides → last_to sides t p i < top
  unfolding last_to
  last_below p top l f zero b = l
  last_below p top l f (suc i) b = by (corner_at t i) (said_at sides i) (last_below p top l f i (omega arith)) (f i (omega arith))
    where
      by : {q : ℕ} (c : Corner) (g : scope.Signal) → q < top → index c < top → put_last g q c < top
      by c scope.nothing a d = a
      by c scope.B a d = d
      by c scope.HB a d = d

-- ---- what is put out

module _ (s : Plane) (plane : ℕ → Plane) (k : ℕ) (sides : List Side) (t : List ℤ) (p : ℕ) where
  abbrev put_one : ℕ → List Corner
  put_one i = put_corner s plane k (said_at sides i) (last_to sides t p i) (corner_at t i)

  pub put_all_none : put_all s plane k sides t p 0 ≡ []
  unfolding put_all
  put_all_none = refl

  put_all_suc : (i : ℕ) → put_all s plane k sides t p (suc i) ≡ put_all s plane k sides t p i ++ put_one i
  unfolding put_all
  put_all_suc i = refl

  put_all_more : (i d j : ℕ) → i + d ≡ j → length (put_all s plane k sides t p i) ≤ length (put_all s plane k sides t p j)
  put_all_more i zero j e = let f : i ≡ j = omega arith in rw f (omega arith)
  put_all_more i (suc d) zero e = absurd (omega arith)
  put_all_more i (suc d) (suc j) e = omega (arith, put_all_more i d j (omega arith), ap length (put_all_suc j), length-append (put_all s plane k sides t p j) (put_one j))

  -- at corner i: at, prev and g are what the loop has
  module _ (i at prev : ℕ) (g : Signal) (a : at ≡ length (put_all s plane k sides t p i)) (e : prev ≡ last_to sides t p i) (f : g ≡ signal_is (said_at sides i)) where
    put_same : put_corner s plane k (signal_of g) prev (corner_at t i) ≡ put_one i
    put_same = let u = signal_from (said_at sides i) f in λ j. put_corner s plane k (u j) (e j) (corner_at t i)

    -- there is room for what corner i puts out
    pub step_room : i < length sides → length (put_all s plane k sides t p (length sides)) ≤ 134 → at + length (put_corner s plane k (signal_of g) prev (corner_at t i)) ≤ 134
    step_room l h = omega (
      arith,
      ap length put_same,
      put_all_more (suc i) (length sides - suc i) (length sides) (omega arith),
      ap length (put_all_suc i),
      length-append (put_all s plane k sides t p i) (put_one i),
    )

    -- and then the first i + 1 corners are put out
    module _ (out out' : List ℤ) (r : Place) (q : Puts out out' at (put_corner s plane k (signal_of g) prev (corner_at t i)) (put_last (signal_of g) prev (corner_at t i)) r) where
      counted : at + length (put_corner s plane k (signal_of g) prev (corner_at t i)) ≡ length (put_all s plane k sides t p (suc i))
      counted = omega (arith, ap length put_same, ap length (put_all_suc i), length-append (put_all s plane k sides t p i) (put_one i))

      pub step_count : r.at ≡ length (put_all s plane k sides t p (i + 1))
      step_count = q.at_is ∙ counted ∙ ap (λ j. length (put_all s plane k sides t p j)) (sym (add-one i))

      pub step_read : read out at ≡ put_all s plane k sides t p i → read out' r.at ≡ put_all s plane k sides t p (i + 1)
      step_read b = ap (read out') q.at_is ∙ q.read_is ∙ (λ j. b j ++ put_same j) ∙ sym (put_all_suc i) ∙ ap (put_all s plane k sides t p) (sym (add-one i))

-- ---- one step, by its signal

module _ (s : Plane) (plane : ℕ → Plane) (k prev : ℕ) (c : Corner) (g : Signal) where
  abbrev what : List Corner
  what = put_corner s plane k (signal_of g) prev c

  abbrev last : ℕ
  last = put_last (signal_of g) prev c

  pub step_nothing : g ≡ Nothing → (out : List ℤ) (at : ℕ) → Puts out out at what last (record { at = at; prev = prev })
  unfolding signal_of
  step_nothing e out at = rw e (puts_none out at prev)

  module _ (e : g ≡ B) where
    pub room_keep : (at n : ℕ) → 5 * (at + length what) ≤ n → 5 * at + 5 ≤ n
    unfolding signal_of
    room_keep at n h = let l : 5 * (at + 1) ≤ n = rw e at h in omega arith

    pub step_keep : {out out' : List ℤ} {at : ℕ} {r : Place} → Puts out out' at (c ∷ []) (index c) r → Puts out out' at what last r
    unfolding signal_of
    step_keep h = rw e h

  module _ (e : g ≡ HB) where
    pub room_pair : (at n : ℕ) → 5 * (at + length what) ≤ n → 5 * at + 10 ≤ n
    unfolding signal_of
    room_pair at n h = let l : 5 * (at + 2) ≤ n = rw e at h in omega arith

    pub step_pair : {out out' : List ℤ} {at : ℕ} {r : Place} (b : ℕ) → b ≡ index c → Puts out out' at (corner k (meet s (plane prev) (plane k)) ∷ corner b (meet s (plane k) (plane b)) ∷ []) b r → Puts out out' at what last r
    unfolding signal_of
    step_pair b f h = rw (e, ← f) h

-- ---- the start

abbrev all_small : List ℕ → Bool
all_small [] = true
all_small (x ∷ xs) = ltb x 6 and all_small xs

small : (xs : List ℕ) → T (all_small xs) → (i : ℕ) → i < 6 → get_or xs i 0 < 6
small [] t i l = omega arith
small (x ∷ xs) t zero l = ltb→lt x 6 (and_split (ltb x 6) (all_small xs) t).0
small (x ∷ xs) t (suc i) l = small xs (and_split (ltb x 6) (all_small xs) t).1 i (omega arith)

-- an entry of the table, as one of the four
pub start_entry : (w : scope.Way) (i : ℕ) → i < 4 → get_or (six w) i 0 ≡ get_or (starts w) i 0
unfolding starts
start_entry w i l = sym (get_or-take 4 (six w) i 0 l)

pub start_small : (w : scope.Way) (i : ℕ) → i < 6 → get_or (six w) i 0 < 6
unfolding six
start_small w i l = go w i l
  where
    go : (w : scope.Way) (i : ℕ) → i < 6 → get_or (six w) i 0 < 6
    go scope.along_x i l = small (six scope.along_x) tt i l
    go scope.against_x i l = small (six scope.against_x) tt i l
    go scope.along_y i l = small (six scope.along_y) tt i l
    go scope.against_y i l = small (six scope.against_y) tt i l
    go scope.along_z i l = small (six scope.along_z) tt i l
    go scope.against_z i l = small (six scope.against_z) tt i l

-- four corners, each put after the one before it
pub four_read : (s : Plane) (a b c d : ℕ) (t t₁ t₂ t₃ t₄ : List ℤ)
    → read t₁ 1 ≡ read t 0 ++ corner a (meet s (box_side d) (box_side a)) ∷ [] → read t₂ 2 ≡ read t₁ 1 ++ corner b (meet s (box_side a) (box_side b)) ∷ []
    → read t₃ 3 ≡ read t₂ 2 ++ corner c (meet s (box_side b) (box_side c)) ∷ [] → read t₄ 4 ≡ read t₃ 3 ++ corner d (meet s (box_side c) (box_side d)) ∷ []
    → read t₄ 4 ≡ corners s box_side (a ∷ b ∷ c ∷ d ∷ [])
unfolding corners corners_from
four_read s a b c d t t₁ t₂ t₃ t₄ e f g h =
    h ∙ ap (λ l. l ++ corner d (meet s (box_side c) (box_side d)) ∷ []) (g ∙ ap (λ l. l ++ corner c (meet s (box_side b) (box_side c)) ∷ []) (f ∙ ap (λ l. l ++ corner b (meet s (box_side a) (box_side b)) ∷ []) (e ∙ ap (λ l. l ++ corner a (meet s (box_side d) (box_side a)) ∷ []) (read_none t))))

-- at these indices the planes looked up are the sides of the box
pub start_corners : (s : Plane) (hs : List ℤ) (width : ℕ) (w : scope.Way) → corners s box_side (starts w) ≡ corners s (look hs width) (starts w)
unfolding corners corners_from starts six look
start_corners s hs width scope.along_x = refl
start_corners s hs width scope.against_x = refl
start_corners s hs width scope.along_y = refl
start_corners s hs width scope.against_y = refl
start_corners s hs width scope.along_z = refl
start_corners s hs width scope.against_z = refl

-- the remaining axis's minus plane and plus plane
pub rest_first : (w : ℕ) → w < 6 → w / 2 * 2 ≡ get_or (six (way_of w)) 4 0
unfolding six way_of
rest_first zero l = refl
rest_first (suc zero) l = refl
rest_first (suc (suc zero)) l = refl
rest_first (suc (suc (suc zero))) l = refl
rest_first (suc (suc (suc (suc zero)))) l = refl
rest_first (suc (suc (suc (suc (suc zero))))) l = refl
rest_first (suc (suc (suc (suc (suc (suc w)))))) l = absurd (omega arith)

pub rest_second : (w : ℕ) → w < 6 → w / 2 * 2 + 1 ≡ get_or (six (way_of w)) 5 0
unfolding six way_of
rest_second zero l = refl
rest_second (suc zero) l = refl
rest_second (suc (suc zero)) l = refl
rest_second (suc (suc (suc zero))) l = refl
rest_second (suc (suc (suc (suc zero)))) l = refl
rest_second (suc (suc (suc (suc (suc zero))))) l = refl
rest_second (suc (suc (suc (suc (suc (suc w)))))) l = absurd (omega arith)

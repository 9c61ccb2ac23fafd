-- The section of a region by a plane is right (document 01, "Section of a region by a plane"), for every support s whose normal is not zero and any list hs of half-spaces.
-- A point of the section lies on s, strictly in the box and strictly in every half-space: at s X ≡ pos 0 and Inside (hs ++ box) X.
--     section_nothing   Nothing exactly if there is no such point
--     section_witness   otherwise the first three vertices, added, are such a point: `witness`
--     section_same      and the bounds describe the same points of s
--     section_enough, section_few, section_134   at least three bounds, at most six more than half-spaces, so at most 134
--     section_up        the 3×3 determinant of s and two neighbouring bounds is positive: each vertex is a point
--     section_each      each bound is a side of the box or a half-space given
--     section_set       whether it is Nothing depends on the set of the half-spaces, not on their order or number
--     cuts?             whether a plane cuts a cell is decided
--     rest_length       the remaining axis has two sides
--     clips_none, clips_same, clips_witness, clips_enough   the same of the start clipped by any half-spaces
-- Passed on from the files below:
--     clip_plain        the clip without the test for a half-space coincident with the support is the same (Plain)
--     clip_to_all        the clip by index, as a loop makes it, is the clip (Index)
--     corners, clip_corners and what is beside them: the loop that keeps each bound's index and start vertex puts out the corners of the clip (Corners, Loop)
--     meet_bounds, det4_bounds, side_bounds, witness_bounds   sizes, for planes in range (Bounds)
-- The proof: seen along the axis of its way, the support is flat, and a half-space a line (Flat, Frames). The bounds are the lines of a convex polygon (Convex, Square); a line splits its corners into
-- a run inside and a run not inside (Split), cuts off the second (Cut), and that is what the 27 codes put out (Emit, Polygon). So it goes on through all clips (Clips), which are by the sides of the
-- box and the half-spaces given (Sides).
use Rattle.std.specs.Prelude.{◌≡◌, refl, ◌↔◌, ◌≢◌, ◌⊎◌, List, [], ◌∷◌, ◌++◌, ◌+◌, ◌≤◌, length, pos}
use Rattle.std.proofs.Common.{ap, inl, inr, arith}
use Rattle.std.proofs.Math.ListN.{length-append}
use Rattle.whole.specs.Tests.{differ}
use Rattle.whole.specs.Vec.{xyz, det3}
use Rattle.whole.specs.Order.{◌⋖◌}
use Rattle.whole.specs.Sign.{nought}
use Rattle.whole.specs.Lists.{Around, map_length}
use Rattle.whole.specs.Members.{◌∈◌, in_left, in_right, in_either}
use Rattle.scope.specs.Limits.{most_halves}
use Rattle.scope.specs.Planes.{Plane, Point, at, lead}
use Rattle.scope.specs.Cells.{Inside, box, Cuts}
use Rattle.scope.specs.Section.{Way, along_x, against_x, along_y, against_y, along_z, against_z, start, rest, way, clips, section}
use Rattle.theory.specs.Section.Polygon.{polygon_long}
use Rattle.theory.specs.Section.Frames.{turn, Turns, turn_turns, way_front}
use Rattle.theory.specs.Section.Clips.{seen, inside_view, view_inside, Live, State, live, dead}
use Rattle.theory.specs.Section.Sides.{sides, given_sides, inside_given, given_inside, section_given}
use Rattle.theory.specs.Section.Witness.{witness_of}
unfoldable pub use Rattle.theory.specs.Section.Witness.{witness}
pub use Rattle.theory.specs.Section.Plain.{clip_plain}
pub use Rattle.theory.specs.Section.Index.{clip_to_all}
pub use Rattle.theory.specs.Section.Bounds.{Sized, meet_bounds, det4_bounds, side_bounds, witness_bounds}
unfoldable pub use Rattle.theory.specs.Section.Corners.{corners_from, corners}
pub use Rattle.theory.specs.Section.Corners.{Corner, corner, index, vertex, corners_length, corners_index, corners_at, corners_index_at, corners_vertex_at, Upright, upright_at, upright_of}
pub use Rattle.theory.specs.Section.Corners.{corner_bounds, corner_bounds_at, witness_corners, bound_side, clip_index, clips_app, clips_snoc, clips_nothing, each_at, at_each}
pub use Rattle.theory.specs.Section.Corners.{clips_start, clips_up, clips_few, clip_few, indices_up, indices_few, clip_index_few, clip_index_fronts}
unfoldable pub use Rattle.theory.specs.Section.Loop.{prev_to, put_to}
pub use Rattle.theory.specs.Section.Loop.{corner_side, signal_at, put_corner, put_last, put_to_length, clip_corners, clip_all_front, clip_no_front}
pub mod Flat
pub mod Convex
pub mod Split
pub mod Fronts
pub mod Cut
pub mod Emit
pub mod Polygon
pub mod Frames
pub mod Square
pub mod Plain
pub mod Clips
pub mod Sides
pub mod Witness
pub mod Index
pub mod Bounds
pub mod Corners
pub mod Loop

-- each bound is a side of the box or one of the half-spaces
pub section_each : (s : Plane) (hs : List Plane) (b : Plane) → b ∈ section s hs → b ∈ (sides ++ hs)
section_each s hs b m = given_sides (way s) hs b (section_given s hs b m)

empty? : (bs : List Plane) → Dec (bs ≡ [])
empty? [] = yes refl
empty? (b ∷ bs) = no (λ e. differ (cc))

-- ---- any clips of the start

module _ (s : Plane) (gs : List Plane) (n : lead s ≢ nought) where
  abbrev t : Turns (turn (way s))
  t = turn_turns (way s)

  abbrev k : pos 0 ⋖ (turn (way s) s).x
  k = way_front s n

  abbrev left : List Plane
  left = clips s gs (start (way s))

  -- some bounds, and none
  live_left : left ≢ [] → Live t s k (start (way s) ++ gs) left
  live_left ne = go (clips_start s n gs)
    where
      go : State t s k (start (way s) ++ gs) left → Live t s k (start (way s) ++ gs) left
      go (live l) = l
      go (dead e z) = absurd (ne e)

  pub clips_none : left ≡ [] → (X : Point) → at s X ≡ pos 0 → ¬ Inside (start (way s) ++ gs) X
  clips_none e X o i = go (clips_start s n gs)
    where
      go : State t s k (start (way s) ++ gs) left → ⊥
      go (live l) = omega (arith, polygon_long l.polygon, map_length (seen (turn (way s)) s) left, ap length e)
      go (dead e z) = z _ (inside_view t s k X o (start (way s) ++ gs) i)

  -- the bounds left have the points of s that the start's and gs have
  pub clips_same : left ≢ [] → (X : Point) → at s X ≡ pos 0 → Inside (start (way s) ++ gs) X ↔ Inside left X
  clips_same ne X o = (
    (λ i. view_inside t s k X o left ((live_left ne).keeps _ (inside_view t s k X o (start (way s) ++ gs) i))),
    (λ i. view_inside t s k X o (start (way s) ++ gs) ((live_left ne).gives _ (inside_view t s k X o left i))),
  )

  -- their witness is such a point
  pub clips_witness : left ≢ [] → (at s (witness s left) ≡ pos 0) × (pos 0 ⋖ (witness s left).w) × Inside (start (way s) ++ gs) (witness s left)
  clips_witness ne = let w = witness_of t s k left (live_left ne).polygon in (w.0, w.1, (clips_same ne (witness s left) w.0).1 w.2)

  pub clips_enough : left ≢ [] → 3 ≤ length left
  clips_enough ne = omega (arith, polygon_long (live_left ne).polygon, map_length (seen (turn (way s)) s) left)

-- ---- the section

pub rest_length : (w : Way) → length (rest w) ≡ 2
rest_length along_x = refl
rest_length against_x = refl
rest_length along_y = refl
rest_length against_y = refl
rest_length along_z = refl
rest_length against_z = refl

module _ (s : Plane) (hs : List Plane) (n : lead s ≢ nought) where
  abbrev asked : List Plane
  asked = rest (way s) ++ hs

  none : section s hs ≡ [] → ¬ Cuts s (hs ++ box)
  unfolding section
  none e c = clips_none s asked n e c.point c.on (inside_given (way s) hs c.inside)

  -- if it is not Nothing, a point of s is in the region exactly if it is strictly inside every bound
  pub section_same : section s hs ≢ [] → (X : Point) → pos 0 ⋖ X.w → at s X ≡ pos 0 → Inside (hs ++ box) X ↔ Inside (section s hs) X
  unfolding section
  section_same ne X u o = let c = clips_same s asked n ne X o in ((λ i. c.0 (inside_given (way s) hs i)), (λ i. given_inside (way s) hs u (c.1 i)))

  -- if it is not Nothing, the witness of its bounds lies on s and in the region
  pub section_witness : section s hs ≢ [] → (at s (witness s (section s hs)) ≡ pos 0) × Inside (hs ++ box) (witness s (section s hs))
  unfolding section
  section_witness ne = let w = clips_witness s asked n ne in (w.0, given_inside (way s) hs w.1 w.2)

  section_cuts : section s hs ≢ [] → Cuts s (hs ++ box)
  section_cuts ne = record { point = witness s (section s hs); on = (section_witness ne).0; inside = (section_witness ne).1 }

  -- Nothing exactly if no point lies on s and in the region
  pub section_nothing : (section s hs ≡ []) ↔ ¬ Cuts s (hs ++ box)
  section_nothing = (none, λ c. go c (empty? (section s hs)))
    where
      go : ¬ Cuts s (hs ++ box) → Dec (section s hs ≡ []) → section s hs ≡ []
      go c (yes e) = e
      go c (no ne) = absurd (c (section_cuts ne))

  -- at least three bounds, if any
  pub section_enough : section s hs ≢ [] → 3 ≤ length (section s hs)
  unfolding section
  section_enough ne = clips_enough s asked n ne

  -- at most one bound for each side of the box and each half-space
  pub section_few : length (section s hs) ≤ 6 + length hs
  unfolding section
  section_few = omega (arith, clips_few s n asked, rest_length (way s), length-append (rest (way s)) hs)

  -- so a table of 134 holds the bounds of every lawful call
  pub section_134 : length hs ≤ most_halves → length (section s hs) ≤ 134
  section_134 h = omega (arith, section_few)

  -- the determinant of the normals of s and two neighbouring bounds is positive; neighbours are a bound and the next, and the last and the first
  pub section_up : Around (λ p q. pos 0 ⋖ det3 (xyz s) (xyz p) (xyz q)) (section s hs)
  unfolding section
  section_up = clips_up s n asked

-- whether a plane cuts a cell is decided, by its section
pub cuts? : (s : Plane) → lead s ≢ nought → (hs : List Plane) → Dec (Cuts s (hs ++ box))
cuts? s n hs = go (empty? (section s hs))
  where
    go : Dec (section s hs ≡ []) → Dec (Cuts s (hs ++ box))
    go (yes e) = no (none s hs n e)
    go (no ne) = yes (section_cuts s hs n ne)

-- a cell with fewer half-spaces is cut by what cuts one with more
cuts_fewer : (s : Plane) (hs gs : List Plane) → ((h : Plane) → h ∈ gs → h ∈ hs) → Cuts s (hs ++ box) → Cuts s (gs ++ box)
cuts_fewer s hs gs f c = record { point = c.point; on = c.on; inside = record { each = λ h m. c.inside.each h (go h (in_either gs box m)) } }
  where
    go : (h : Plane) → (h ∈ gs) ⊎ (h ∈ box) → h ∈ (hs ++ box)
    go h (inl m) = in_left box (f h m)
    go h (inr m) = in_right hs m

-- two lists with the same half-spaces, in any order and however often, give Nothing together
pub section_set : (s : Plane) (hs gs : List Plane) → lead s ≢ nought → ((h : Plane) → (h ∈ hs) ↔ (h ∈ gs)) → (section s hs ≡ []) ↔ (section s gs ≡ [])
section_set s hs gs n m = (
  (λ e. (section_nothing s gs n).1 (λ c. none s hs n e (cuts_fewer s gs hs (λ h. (m h).0) c))),
  (λ e. (section_nothing s hs n).1 (λ c. none s gs n e (cuts_fewer s hs gs (λ h. (m h).1) c))),
)

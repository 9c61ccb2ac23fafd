-- The path to a cell, as `cut` reads it: nine numbers a row, a half-space a, b, c, d, a point x, y, z, w, and a link.
--     Holds           one half-space holds another, as it has the same normal and no smaller d
--     Linked, Links   the link of row i is the place where the row ends that is asked next: the rows that it passes over hold row i's half-space
--     PathIn, RowsIn  rows that stand in the table, each with its link; and their half-spaces are in range
--     AskedIn, AsksRow, Asks    rows that are asked, last first, along their links
--     along_axis      a coordinate, by its axis
--     axis_sides      the two sides of the box along an axis
--     StoppedBy, StopTold   the index of a bound that a point is not in front of, or none
--     Small, Placed   a point that is small enough, and whose w is above 0
--     Witness         a point that shows that a plane cuts a cell
--     CutIn, CutTold  what `cut` is given, and what it answers
use Rattle.std.specs.Prelude.{◌≡◌, true, ◌≢◌, List, [], ◌∷◌, ℕ, zero, suc, ◌+◌, ◌*◌, ◌≤◌, ◌<◌, ℤ, pos, length, get_or, Option, Some, None, MatchOption}
use Rattle.whole.specs.Sign.{nought}
use Rattle.whole.specs.Order.{◌⋖◌, ◌⩽◌}
use Rattle.whole.specs.Members.{◌∈◌}
use Rattle.scope.specs.Limits.{most_halves}
use Rattle.scope.specs.Planes.{Plane, Point, at, in_range, lead}
use Rattle.scope.specs.Cells.{Inside, Cuts}
use Rattle.theory.specs.Section.{Sized}
use Rattle.planes.specs.Values.{meeting}
use Rattle.planes.specs.declared.Meeting.{Meeting}
use Rattle.polygons.specs.Tables.{row, box_side}

-- ---- rows

-- q holds p
pub record Holds (q p : Plane) : Type 0 where
  pub same_x : q.x ≡ p.x
  pub same_y : q.y ≡ p.y
  pub same_z : q.z ≡ p.z
  pub wider : p.w ⩽ q.w

-- the rows from `to` on, before row i, hold row i's half-space
pub record Linked (path : List ℤ) (i : ℕ) : Type 0 where
  pub to : ℕ
  pub back : to ≤ i
  pub link : get_or path (i * 9 + 8) (pos 0) ≡ pos (to * 9)
  pub holds : (j : ℕ) → to ≤ j → j < i → Holds (row path 9 j) (row path 9 i)

abbrev pub Links : List ℤ → ℕ → Type 0
Links path depth = (i : ℕ) → i < depth → Linked path i

pub record PathIn (path : List ℤ) (depth : ℕ) : Type 0 where
  pub few : depth ≤ most_halves
  pub room : depth * 9 ≤ length path
  pub links : Links path depth

pub record RowsIn (path : List ℤ) (depth : ℕ) : Type 0 where
  pub path_in : PathIn path depth
  pub ranged : (i : ℕ) → i < depth → in_range (row path 9 i) ≡ true

-- ---- rows asked

-- the rows of which the last ends at `end` are still to be asked, but for those that links pass over
pub record AskedIn (path : List ℤ) (end : ℕ) : Type 0 where
  pub left : ℕ
  pub at_end : end ≡ left * 9
  pub path_in : PathIn path left

-- row i, which stands from `at` to `end`, and the place where the next one ends
pub record AsksRow (path : List ℤ) (end at end' : ℕ) : Type 0 where
  pub i : ℕ
  pub begins : at ≡ i * 9
  pub ends : end ≡ at + 9
  pub linked : Linked path i
  pub next : end' ≡ linked.to * 9

pub record Asks (path : List ℤ) (end : ℕ) (r : Option ℕ) (path' : List ℤ) (end' : ℕ) : Type 0 where
  pub same : path' ≡ path
  pub row : MatchOption r (end ≡ 0) (λ at. AsksRow path end at end')

-- ---- a point and bounds

abbrev pub along_axis : ℕ → Point → ℤ
along_axis zero X = X.x
along_axis (suc zero) X = X.y
along_axis (suc (suc a)) X = X.z

abbrev pub axis_sides : ℕ → List Plane
axis_sides a = box_side (2 * a) ∷ box_side (2 * a + 1) ∷ []

-- the bound of index k is one of those asked for, and the point X is not in front of it
pub record StoppedBy (plane : ℕ → Plane) (asked : List Plane) (top : ℕ) (X : Point) (k : ℕ) : Type 0 where
  pub below : k < top
  pub member : plane k ∈ asked
  pub behind : at (plane k) X ⩽ pos 0

-- it is in front of all of them, or one stops it
abbrev pub StopTold : (ℕ → Plane) → List Plane → ℕ → Point → Option ℕ → Type 0
StopTold plane asked top X r = MatchOption r ((h : Plane) → h ∈ asked → pos 0 ⋖ at h X) (StoppedBy plane asked top X)

-- three vertices of at most 6·10^14, and w of at most 6·10^9, added
abbrev pub Small : Point → Type 0
Small X = Sized X 1800000000000000 18000000000

pub record Placed (X : Point) : Type 0 where
  pub up : pos 0 ⋖ X.w
  pub small : Small X

-- ---- cut

-- a point on the plane and in the cell
pub record Witness (g : Plane) (c : List Plane) (X : Point) : Type 0 where
  pub on : at g X ≡ pos 0
  pub inside : Inside c X
  pub sized : Small X

pub record CutIn (s : Plane) (path : List ℤ) (depth : ℕ) : Type 0 where
  pub support : in_range s ≡ true
  pub normal : lead s ≢ nought
  pub rows : RowsIn path depth

pub data CutTold (s : Plane) (c : List Plane) : Option Meeting → Type 0 where
  is_at : {m : _} → Witness s c (meeting m) → CutTold s c (Some m)
  is_nothing : ¬ Cuts s c → CutTold s c None

-- What the functions of a section are given.
--     LawfulIn             rows that are judged
--     ClipsIn, BoundedIn   the polygon that the half-spaces clip, and the table in which it is made
--     WriteIn              the corners whose bounds are written
use Rattle.std.specs.Prelude.{ℕ, ◌+◌, ◌*◌, ◌≤◌, ◌<◌, ℤ, List, length}
use Rattle.scope.specs.Planes.{Plane}
use Rattle.scope.specs.Section as scope
use Rattle.theory.specs.Section.{index}
use Rattle.polygons.specs.Tables.{look, corner_at}
use Rattle.polygons.specs.Asked.{Found, Region, Polygon, CornerIn}

-- each row is in the table
pub record LawfulIn (hs : List ℤ) (width rows : ℕ) : Type 0 where
  pub found : (i : ℕ) → i < rows → i * width + 4 ≤ length hs

pub record ClipsIn (s : Plane) (hs : List ℤ) (width rows : ℕ) (t : List ℤ) (n : ℕ) (out : List ℤ) : Type 0 where
  pub region : Region s hs width (6 + rows)
  pub polygon : Polygon s (look hs width) 6 (scope.rest (scope.way s)) t n
  pub room : 675 ≤ length t
  pub out_room : 675 ≤ length out

pub record BoundedIn (s : Plane) (hs : List ℤ) (width rows : ℕ) (t : List ℤ) : Type 0 where
  pub region : Region s hs width (6 + rows)
  pub room : 675 ≤ length t

-- the bounds of n corners are written
pub record WriteIn (hs : List ℤ) (width : ℕ) (t : List ℤ) (n : ℕ) (bounds : List ℤ) : Type 0 where
  pub corner_in : (i : ℕ) → i < n → CornerIn t i
  pub found : (i : ℕ) → i < n → Found hs width (index (corner_at t i))
  pub room : 4 * n ≤ length bounds

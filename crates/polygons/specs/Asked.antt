-- What the functions are given, and what they leave: the records of their contracts.
--     Found, Region     the plane of an index can be looked up; the support and the planes of the indices below top
--     Polygon           the polygon in a table: the corners of the bounds that clips by gs leave of the start
--     CornerIn, SideIn, SummedIn, AddedIn   what the functions on a table are given; side_of: the side of a corner
--     Looked            the sides of the corners, and what it says that none are in front
--     Puts, Emitted     corners put out; those of all
--     pair_of           the two corners of a cut
--     PairIn, StepIn, EmitIn, ClipIn, Supported   what the functions of a clip and the start are given
--     clip_of, ClippedOn                          what a clip leaves
use Rattle.std.specs.Prelude.{◌≡◌, Bool, true, false, ◌≢◌, List, [], ◌∷◌, ◌++◌, map, ℕ, ◌+◌, ◌-◌, ◌*◌, ◌≤◌, ◌<◌, ℤ, length, get_or}
use Rattle.whole.specs.Sign.{Sign, nought, plus, sgn}
use Rattle.scope.specs.Planes.{Plane, Point, at, in_range, lead, meet}
use Rattle.scope.specs.Section as scope
use Rattle.theory.specs.Section.{Corner, corner, index, vertex, corners, bound_side, put_corner}
use Rattle.planes.specs.Values.{plane, side_is}
use Rattle.planes.specs.Bounds.{PlaneIn, MeetingIn}
use Rattle.planes.specs.declared.Plane as struct
use Rattle.planes.specs.declared.Side.{Side}
use Rattle.planes.specs.declared.Side.TheVariants.{On}
use Rattle.polygons.specs.declared.Place.{Place}
use Rattle.polygons.specs.declared.Signal.{Signal}
use Rattle.polygons.specs.Values.{signal_of}
use Rattle.polygons.specs.Tables.{look, corner_at, read, indices, last_to, put_all}

-- ---- planes

abbrev pub Found : List ℤ → ℕ → ℕ → Type 0
Found hs width k = 6 ≤ k → (k - 6) * width + 4 ≤ length hs

pub record Region (s : Plane) (hs : List ℤ) (width top : ℕ) : Type 0 where
  pub support : in_range s ≡ true
  pub normal : lead s ≢ nought
  pub box : 6 ≤ top
  pub few : top ≤ 134
  pub found : (k : ℕ) → k < top → Found hs width k
  pub ranged : (k : ℕ) → k < top → in_range (look hs width k) ≡ true

-- ---- polygons

pub record Polygon (s : Plane) (plane : ℕ → Plane) (top : ℕ) (gs : List Plane) (t : List ℤ) (n : ℕ) : Type 0 where
  pub room : 5 * n ≤ length t
  pub below : (i : ℕ) → i < n → index (corner_at t i) < top
  pub held : read t n ≡ corners s plane (indices t n)
  pub from : map plane (indices t n) ≡ scope.clips s gs (scope.start (scope.way s))

-- corner i stands in the table, and its index is one
pub record CornerIn (t : List ℤ) (i : ℕ) : Type 0 where
  pub room : 5 * i + 5 ≤ length t
  pub index_small : index (corner_at t i) < 134

-- three vertices
pub record SummedIn (X Y Z : Point) : Type 0 where
  pub first : MeetingIn X
  pub second : MeetingIn Y
  pub third : MeetingIn Z

-- the first three vertices of a table
pub record AddedIn (t : List ℤ) : Type 0 where
  pub room : 15 ≤ length t
  pub vertex_in : (i : ℕ) → i < 3 → MeetingIn (vertex (corner_at t i))

-- ---- sides

abbrev pub side_of : struct.Plane → List ℤ → ℕ → Sign
side_of h t i = sgn (at (plane h) (vertex (corner_at t i)))

pub record SideIn (h : struct.Plane) (t : List ℤ) (i : ℕ) : Type 0 where
  pub room : 5 * i + 5 ≤ length t
  pub plane_in : PlaneIn h.a h.b h.c h.d
  pub vertex_in : MeetingIn (vertex (corner_at t i))

-- the sides of as many corners as there are sides, and what it says that none are in front
pub record Looked (h : struct.Plane) (t : List ℤ) (sides : List Side) (r : Bool) : Type 0 where
  pub each : (i : ℕ) → i < length sides → get_or sides i On ≡ side_is (side_of h t i)
  pub none : r ≡ false → (i : ℕ) → i < length sides → side_of h t i ≢ plus

-- ---- corners put out

-- from `at` on; then the next place, and the index put out last
pub record Puts (out out' : List ℤ) (at : ℕ) (cs : List Corner) (last : ℕ) (r : Place) : Type 0 where
  pub at_is : r.at ≡ at + length cs
  pub prev_is : r.prev ≡ last
  pub read_is : read out' (at + length cs) ≡ read out at ++ cs

-- the clipping bound, after the one put out last, and then another
abbrev pub pair_of : Plane → (ℕ → Plane) → ℕ → ℕ → ℕ → List Corner
pair_of s plane k prev b = corner k (meet s (plane prev) (plane k)) ∷ corner b (meet s (plane k) (plane b)) ∷ []

pub record PairIn (s : Plane) (hs : List ℤ) (width k prev b : ℕ) (out : List ℤ) (at : ℕ) : Type 0 where
  pub top : ℕ
  pub region : Region s hs width top
  pub k_below : k < top
  pub prev_below : prev < top
  pub b_below : b < top
  pub room : 5 * at + 10 ≤ length out

pub record StepIn (s : Plane) (hs : List ℤ) (width k : ℕ) (g : Signal) (t : List ℤ) (i : ℕ) (out : List ℤ) (p : Place) : Type 0 where
  pub top : ℕ
  pub region : Region s hs width top
  pub k_below : k < top
  pub prev_below : p.prev < top
  pub b_below : index (corner_at t i) < top
  pub corner_room : 5 * i + 5 ≤ length t
  pub room : 5 * (p.at + length (put_corner s (look hs width) k (signal_of g) p.prev (corner_at t i))) ≤ length out
  pub few : p.at ≤ 134

pub record EmitIn (s : Plane) (hs : List ℤ) (width k : ℕ) (t : List ℤ) (sides : List Side) (out : List ℤ) : Type 0 where
  pub top : ℕ
  pub region : Region s hs width top
  pub k_below : k < top
  pub below : (i : ℕ) → i < length sides → index (corner_at t i) < top
  pub corner_room : 5 * length sides ≤ length t
  pub room : 675 ≤ length out
  pub few : length (put_all s (look hs width) k sides t (last_to sides t 0 (length sides)) (length sides)) ≤ 134

pub record Emitted (s : Plane) (plane : ℕ → Plane) (k : ℕ) (t : List ℤ) (sides : List Side) (out' : List ℤ) (r : ℕ) : Type 0 where
  pub few : r ≤ 134
  pub count : r ≡ length (put_all s plane k sides t (last_to sides t 0 (length sides)) (length sides))
  pub read_is : read out' r ≡ put_all s plane k sides t (last_to sides t 0 (length sides)) (length sides)

-- ---- a clip by the bound of index k

pub record ClipIn (s : Plane) (hs : List ℤ) (width k : ℕ) (t : List ℤ) (n : ℕ) (out : List ℤ) : Type 0 where
  pub top : ℕ
  pub gs : List Plane
  pub region : Region s hs width top
  pub k_below : k < top
  pub polygon : Polygon s (look hs width) top gs t n
  pub few : length gs ≤ 129
  pub room : 675 ≤ length t
  pub out_room : 675 ≤ length out

-- the indices that the clip puts out
abbrev pub clip_of : Plane → (ℕ → Plane) → ℕ → List ℕ → List ℕ
clip_of s plane k is = scope.clip_by (bound_side s plane k) k is

pub record ClippedOn (s : Plane) (plane : ℕ → Plane) (k : ℕ) (t : List ℤ) (n : ℕ) (t' : List ℤ) (r : ℕ) : Type 0 where
  pub room : 5 * r ≤ length t'
  pub held : read t' r ≡ corners s plane (clip_of s plane k (indices t n))

-- ---- all clips

pub record Supported (s : Plane) (t out : List ℤ) : Type 0 where
  pub support : in_range s ≡ true
  pub normal : lead s ≢ nought
  pub room : 675 ≤ length t
  pub out_room : 675 ≤ length out

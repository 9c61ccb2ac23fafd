-- The path to a cell, in a table, and what a plane is to the cell.
--     witness_at                 the witness in row i
--     OnPath                     the first rows of a table are the kept half-spaces of a cell, each with the witness of its cut and its link
--     LinkTold, Pushed           the link of a row to be written, and one row more
--     Classes, ClassifiedIn     Cut, Front or Behind, as document 01's C.2 and C.3 have it
--     own_side, side_by, missed_by   how the code tells the side of a plane that misses the cell
--     BelowIn, MissedIn, ClassifyIn   what the functions are given
use Rattle.std.specs.Prelude.{◌≡◌, Bool, cond, List, [], ◌∷◌, ℕ, zero, suc, ◌+◌, ◌*◌, ◌≤◌, ◌<◌, ℤ, pos, length}
use Rattle.std.proofs.lemmas.List.Edits.{sets}
use Rattle.whole.specs.Sign.{Sign, minus, nought, plus, sgn}
use Rattle.scope.specs.Limits.{most_halves}
use Rattle.scope.specs.Planes.{Plane, Point, at, equal, Lawful}
use Rattle.scope.specs.Cells.{box, AllFront, AllBack}
use Rattle.theory.specs.Cells.Sides.{half}
use Rattle.planes.specs.Values.{plane, meeting}
use Rattle.planes.specs.Bounds.{SumIn}
use Rattle.planes.specs.declared.Plane as struct
use Rattle.planes.specs.declared.Meeting.{Meeting}
use Rattle.polygons.specs.Tables.{four_at, row}
use Rattle.cuts.specs.Paths.{Holds, Linked}
pub use Rattle.cuts.specs.Paths.{PathIn, Witness}
use Rattle.cells.specs.declared.Classified.{Classified}
use Rattle.cells.specs.declared.Classified.TheVariants.{Cut, Front, Behind}

-- ---- paths

unfoldable pub witness_at : List ℤ → ℕ → Point
witness_at path i = four_at path (i * 9 + 4)

-- each row is a side of a plane that is Q and cuts the cell of the rows before it
pub data OnPath (Q : Plane → Type 0) (path : List ℤ) : ℕ → List Plane → Type 0 where
  at_box : OnPath Q path 0 box
  below : {d : ℕ} {c : List Plane} → OnPath Q path d c → (s : Bool) (g : Plane) → Q g → row path 9 d ≡ half s g → Witness g c (witness_at path d) → Linked path d → OnPath Q path (suc d) (half s g ∷ c)

-- ---- one row more

-- the link of row `depth` if h stands there
pub record LinkTold (path : List ℤ) (depth : ℕ) (h : Plane) (l : ℤ) : Type 0 where
  pub to : ℕ
  pub back : to ≤ depth
  pub link : l ≡ pos (to * 9)
  pub holds : (j : ℕ) → to ≤ j → j < depth → Holds (row path 9 j) h

-- the nine numbers of a row
abbrev pub nine : struct.Plane → Meeting → ℤ → List ℤ
nine h m l = h.a ∷ h.b ∷ h.c ∷ h.d ∷ m.x ∷ m.y ∷ m.z ∷ m.w ∷ l ∷ []

pub record Pushed (path path' : List ℤ) (depth : ℕ) (h : struct.Plane) (m : Meeting) : Type 0 where
  pub number : ℤ
  pub table : path' ≡ sets path (depth * 9) (nine h m number)
  pub told : LinkTold path depth (plane h) number

-- ---- what a plane is to a cell

pub data Classes (p : Plane) (c : List Plane) : Classified → Type 0 where
  is_cut : {m : _} → Witness p c (meeting m) → Classes p c (Cut m)
  is_front : AllFront p c → Classes p c Front
  is_behind : AllBack p c → Classes p c Behind

-- whatever cell the path leads to
abbrev pub ClassifiedIn : Plane → List ℤ → ℕ → Classified → Type 0
ClassifiedIn p path depth r = (c : List Plane) → OnPath Lawful path depth c → Classes p c r

-- the side taken at the half-space h, for its own plane
abbrev pub own_side : Plane → Plane → Classified
own_side p h = cond (equal p h) Front Behind

abbrev pub by_sign : Sign → Classified → Classified
by_sign plus o = Front
by_sign nought o = o
by_sign minus o = Behind

abbrev pub side_by : Plane → Plane → Point → Classified
side_by p h X = by_sign (sgn (at p X)) (own_side p h)

unfoldable pub missed_by : Plane → List ℤ → ℕ → Classified
missed_by p path zero = by_sign (sgn p.w) Behind
missed_by p path (suc d) = side_by p (row path 9 d) (witness_at path d)

-- ---- what is given

-- row i stands in the table; the plane and the witness are small enough for their sum
pub record BelowIn (p : Plane) (path : List ℤ) (i : ℕ) : Type 0 where
  pub room : i * 9 + 9 ≤ length path
  pub sizes : SumIn p.x p.y p.z p.w (witness_at path i).x (witness_at path i).y (witness_at path i).z (witness_at path i).w

-- the last row, if there is one
abbrev pub MissedIn : Plane → List ℤ → ℕ → Type 0
MissedIn p path zero = Unit {0}
MissedIn p path (suc d) = BelowIn p path d

pub record ClassifyIn (p : Plane) (path : List ℤ) (depth : ℕ) : Type 0 where
  pub lawful : Lawful p
  pub few : depth ≤ most_halves
  pub room : depth * 9 ≤ length path
  pub cell : List Plane
  pub on : OnPath Lawful path depth cell

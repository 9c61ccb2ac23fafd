-- What the functions promise. An answer stands for document 01's value, or for its number of the refusal.
--     SideIn, StepIn, WalkIn     what the functions are given
--     went, stepped              where a walk goes
--     told, Walked               the walk, of any tree that has the tables
--     told_answer, Tells         the public call
use Rattle.std.specs.Prelude.{◌≡◌, List, ℕ, ◌+◌, ◌*◌, ◌<◌, ℤ, pos, length, get_or, replicate, Option, Some, None, Result, Ok, Err}
use Rattle.whole.specs.Sign.{Sign, minus, nought, plus}
use Rattle.scope.specs.Planes.{Point, side}
use Rattle.scope.specs.Solids.{IN, OUT, Tree, Reply, marked, ON, reply}
use Rattle.scope.specs.Answers.{Answer, given, refused, PointAnswer}
use Rattle.theory.specs.Text.Lent.{lent}
use Rattle.planes.specs.Bounds.{PlaneIn, PointIn}
use Rattle.tables.specs.Rows.{plane_at}
use Rattle.points.specs.declared.Place.{Place}
use Rattle.tables.specs.Promises.{SolidOf}

-- a row of the planes, and a point, within the limits of a side's sum
pub record SideIn (xs : List ℤ) (i : ℕ) (X : Point) : Type 0 where
  pub inside : 4 * i + 3 < length xs
  pub plane_in : PlaneIn (plane_at xs i).x (plane_at xs i).y (plane_at xs i).z (plane_at xs i).w
  pub point_in : PointIn X.x X.y X.z X.w

-- a row of the nodes, its plane, and a point
pub record StepIn (xs : List ℤ) (ns : List ℕ) (c : ℕ) (X : Point) : Type 0 where
  pub row : 3 * c + 2 < length ns
  pub side_in : SideIn xs (get_or ns (3 * c) 0) X

-- where a walk goes: to the front code, nowhere, or to the back code
abbrev pub went : Sign → ℕ → ℕ → Option ℕ
went plus f b = Some f
went nought f b = None
went minus f b = Some b

abbrev pub stepped : List ℤ → List ℕ → ℕ → Point → Option ℕ
stepped xs ns c X = went (side (plane_at xs (get_or ns (3 * c) 0)) X) (get_or ns (3 * c + 1) 0) (get_or ns (3 * c + 2) 0)

-- what a walk is given: the tables of some lawful tree, and a point in range
pub record WalkIn (xs : List ℤ) (ns : List ℕ) (r : ℕ) (X : Point) : Type 0 where
  pub tree : Tree
  pub solid : SolidOf xs ns r tree
  pub point_in : PointIn X.x X.y X.z X.w

-- a reply as the code has it
abbrev pub told : Reply → Place
told (marked IN) = Place.In
told (marked OUT) = Place.Out
told ON = Place.On

-- the reply of the tree that has these tables
pub record Walked (xs : List ℤ) (ns : List ℕ) (r : ℕ) (X : Point) (a : Place) : Type 0 where
  pub exact : (t : Tree) → SolidOf xs ns r t → a ≡ told (reply t X)

-- IN, OUT or ON, or the number of the refusal
abbrev pub told_answer : Result Place ℕ → Answer Reply
told_answer (Ok Place.In) = given (marked IN)
told_answer (Ok Place.Out) = given (marked OUT)
told_answer (Ok Place.On) = given ON
told_answer (Err k) = refused k

-- `point`: the answer, and a work table of zeros whatever it is
pub record Tells (xs : List ℤ) (ns : List ℕ) (r : ℕ) (X : Point) (w w' : List ℤ) (a : Result Place ℕ) : Type 0 where
  pub answer : PointAnswer (length w) (lent xs ns r) X (told_answer a)
  pub zeros : w' ≡ replicate (length w) (pos 0)

-- What the functions of the library promise: what the call of the public page promises, its answer as numbers.
--     GivenOut               merge and normal form of lent tables
--     ReadOut, WriteOut      reading and writing
--     TextOut                merge and normal form of a text
--     SectionOut, PointOut   section, point
use Rattle.std.specs.Prelude.{◌≡◌, List, ℕ, ℤ, Option, Result}
use Rattle.scope.specs.Planes.{Point}
use Rattle.planes.specs.declared.Plane.{Plane}
use Rattle.tables.specs.declared.Solid.{Solid}
use Rattle.points.specs.declared.Place.{Place}
use Rattle.points.specs.Promises.{Tells}
use Rattle.solids.specs.Reading.{ReadTold}
use Rattle.solids.specs.Writing.{WriteTold}
use Rattle.sections.specs.Promises.{SectionTold}
use Rattle.results.specs.Results.{Asked, Told}
use Rattle.texts.specs.Answers.{Job}
use Rattle.zones.specs.Promises.{TextTold}
use Rattle.skopelyne.specs.Numbers.{given_as, read_as, written_as, section_as, point_as, Counted}

pub record GivenOut (q : Asked) (xs xs' : List ℤ) (ns ns' : List ℕ) (w w' : List ℤ) (k p n r : ℕ) : Type 0 where
  pub answer : Result Solid ℕ
  pub promise : Told q xs xs' ns ns' w w' answer
  pub counted : Counted (given_as answer) k p n r

pub record ReadOut (t : List ℕ) (xs xs' : List ℤ) (ns ns' : List ℕ) (w w' : List ℤ) (k p n r : ℕ) : Type 0 where
  pub answer : Result Solid (ℕ × ℕ)
  pub promise : ReadTold t xs xs' ns ns' w w' answer
  pub counted : Counted (read_as answer) k p n r

pub record WriteOut (xs : List ℤ) (ns : List ℕ) (r : ℕ) (u u' : List ℕ) (w w' : List ℤ) (k n : ℕ) : Type 0 where
  pub answer : Result ℕ ℕ
  pub promise : WriteTold xs ns r u u' w w' answer
  pub number : k ≡ (written_as answer).0
  pub length : n ≡ (written_as answer).1

pub record TextOut (job : Job) (t out out' : List ℕ) (w w' : List ℤ) (k n : ℕ) : Type 0 where
  pub answer : Result ℕ ℕ
  pub promise : TextTold job t out out' w w' answer
  pub number : k ≡ (written_as answer).0
  pub length : n ≡ (written_as answer).1

pub record SectionOut (s : Plane) (hs bs bs' w w' : List ℤ) (k n : ℕ) : Type 0 where
  pub answer : Result (Option ℕ) ℕ
  pub promise : SectionTold s hs bs bs' w w' answer
  pub number : k ≡ (section_as answer).0
  pub count : n ≡ (section_as answer).1

pub record PointOut (xs : List ℤ) (ns : List ℕ) (r : ℕ) (X : Point) (w w' : List ℤ) (k n : ℕ) : Type 0 where
  pub answer : Result Place ℕ
  pub promise : Tells xs ns r X w w' answer
  pub number : k ≡ (point_as answer).0
  pub place : n ≡ (point_as answer).1

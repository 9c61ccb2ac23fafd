-- What the calls promise, in document 01's words.
--     answer_to      the answer to a section, by the lengths of the two tables lent (scope's `section_answer`)
--     SectionTold    the section: its answer is exactly that one, the table of bounds holds its rows and then zeros, the work table zeros
--     Drawn          the same before the work table is cleared
use Rattle.std.specs.Prelude.{◌≡◌, Option, Result, List, [], ℕ, ℤ, pos, length}
use Rattle.scope.specs.Planes.{Plane}
use Rattle.scope.specs.Answers.{Answer, section_answer, left, filled, flat_planes}
use Rattle.planes.specs.Values.{plane}
use Rattle.planes.specs.declared.Plane as struct
use Rattle.sections.specs.Values.{section_of}

abbrev pub answer_to : struct.Plane → List ℤ → List ℤ → List ℤ → Answer (List Plane)
answer_to s halves bounds work = section_answer (length work) (length bounds) (plane s) halves

-- the tables as they were lent, and as they are left
pub record SectionTold (s : struct.Plane) (halves bounds bounds' work work' : List ℤ) (r : Result (Option ℕ) ℕ) : Type 0 where
  pub answer : r ≡ section_of (answer_to s halves bounds work)
  pub bounds_left : bounds' ≡ left (pos 0) (length bounds) flat_planes (answer_to s halves bounds work)
  pub work_left : work' ≡ filled (pos 0) (length work) []

pub record Drawn (s : struct.Plane) (halves bounds bounds' work : List ℤ) (r : Result (Option ℕ) ℕ) : Type 0 where
  pub answer : r ≡ section_of (answer_to s halves bounds work)
  pub bounds_left : bounds' ≡ left (pos 0) (length bounds) flat_planes (answer_to s halves bounds work)

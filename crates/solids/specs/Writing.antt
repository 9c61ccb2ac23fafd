-- What writing promises: the public call.
--     fitted, wrote, itself    a text that fits the room, and the answer as the code has it
--     Sound, FittedTold        what `put_text` is given and tells
--     WriteTold                the public call
use Rattle.std.specs.Prelude.{◌≡◌, cond, List, ℕ, leb, ℤ, pos, length, replicate, Result, Ok, Err}
use Rattle.scope.specs.Solids.{Tables}
use Rattle.scope.specs.Text.{text}
use Rattle.scope.specs.Answers.{Answer, given, refused, left, write_answer}
use Rattle.theory.specs.Text.Lent.{lent, Flat}
use Rattle.theory.specs.Text.Trees.{LawfulTables}
use Rattle.tables.specs.declared.Solid.{Solid}
use Rattle.lines.specs.Reading.{solid_of}
use Rattle.lines.specs.Writing.{tables_in}

-- a text that fits the room, else 8
abbrev pub fitted : ℕ → List ℕ → Answer (List ℕ)
fitted room x = cond (leb (length x) room) (given x) (refused 8)

abbrev pub wrote : Answer (List ℕ) → Result ℕ ℕ
wrote (given t) = Ok (length t)
wrote (refused k) = Err k

abbrev pub itself : List ℕ → List ℕ
itself t = t

-- flat tables of a lawful solid, and its counts
pub record Sound (xs : List ℤ) (ns : List ℕ) (s : Solid) : Type 0 where
  pub is : Tables
  pub lawful : LawfulTables is
  pub flat : Flat is xs ns s.root
  pub counts : s ≡ solid_of is

pub record FittedTold (xs : List ℤ) (ns : List ℕ) (s : Solid) (t t' : List ℕ) (a : Result ℕ ℕ) : Type 0 where
  pub answer : a ≡ wrote (fitted (length t) (text (tables_in xs ns s)))
  pub text : t' ≡ left 0 (length t) itself (fitted (length t) (text (tables_in xs ns s)))

-- the answer, and what is left in the text and the work table
pub record WriteTold (xs : List ℤ) (ns : List ℕ) (r : ℕ) (t t' : List ℕ) (w w' : List ℤ) (a : Result ℕ ℕ) : Type 0 where
  pub answer : a ≡ wrote (write_answer (length w) (length t) (lent xs ns r))
  pub text : t' ≡ left 0 (length t) itself (write_answer (length w) (length t) (lent xs ns r))
  pub work : w' ≡ replicate (length w) (pos 0)

-- What the code's answers stand for.
--     section_of        an answer of document 01 as the code's: how many bounds, none for Nothing, or the number of the refusal
use Rattle.std.specs.Prelude.{Option, None, Some, Result, Ok, Err, List, [], ◌∷◌, ℕ, length}
use Rattle.scope.specs.Planes.{Plane}
use Rattle.scope.specs.Answers.{Answer, given, refused}

abbrev pub section_of : Answer (List Plane) → Result (Option ℕ) ℕ
section_of (given []) = Ok None
section_of (given (b ∷ bs)) = Ok (Some (length (b ∷ bs)))
section_of (refused n) = Err n

-- What is asked of a text, and its answer, in document 01's words.
--     Job                  its merge, or its normal form
--     MergedText, FormedText, AnswerTo   the answer: what the text says, then the merge or the form, then room
use Rattle.std.specs.Prelude.{◌≡◌, List, ℕ}
use Rattle.scope.specs.Solids.{Tables}
use Rattle.scope.specs.Judging.{accepted, order, order_refused, judge, judge_merge}
use Rattle.scope.specs.Answers.{Answer, refused, MergeBy, FormBy, operand_rooms, program_rooms}
use Rattle.outputs.specs.Outputs.{in_room}

pub data Job : Type 0 where
  merging : Job
  forming : Job

-- what the text says decides: a refusal of the operation's line, of A's or of B's, or the merge with the rooms of the program
pub data MergedText (t : List ℕ) (room : ℕ) : Answer (List ℕ) → Type 0 where
  unread : {n l : ℕ} → judge_merge operand_rooms t ≡ order_refused n l → MergedText t room (refused n)
  merged_text : {o : ℕ} {a b : Tables} {r : Answer Tables} → judge_merge operand_rooms t ≡ order o a b → MergeBy program_rooms o (accepted a) (accepted b) r → MergedText t room (in_room room r)

-- a refusal of the solid's line, or the normal form with the rooms of the program
pub data FormedText (t : List ℕ) (room : ℕ) : Answer (List ℕ) → Type 0 where
  formed_text : {r : Answer Tables} → FormBy program_rooms (judge operand_rooms t) r → FormedText t room (in_room room r)

abbrev pub AnswerTo : Job → List ℕ → ℕ → Answer (List ℕ) → Type 0
AnswerTo merging t room = MergedText t room
AnswerTo forming t room = FormedText t room

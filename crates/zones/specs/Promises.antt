-- What the merge and the normal form of a text promise, in document 01's words.
--     TextTold             the answer to the job asked of the text (crate `texts`, specs/Answers) and no other, the text and the work table whole
use Rattle.std.specs.Prelude.{◌≡◌, List, ℕ, ℤ, pos, length, replicate, Result}
use Rattle.scope.specs.Answers.{Answer, left, WithWork}
use Rattle.solids.specs.Writing.{wrote, itself}
use Rattle.texts.specs.Answers.{Job, AnswerTo}

pub record TextTold (job : Job) (t : List ℕ) (out out' : List ℕ) (w w' : List ℤ) (r : Result ℕ ℕ) : Type 0 where
  pub answer : Answer (List ℕ)
  pub exact : WithWork (length w) (AnswerTo job t (length out)) answer
  pub told : r ≡ wrote answer
  pub text : out' ≡ left 0 (length out) itself answer
  pub work : w' ≡ replicate (length w) (pos 0)

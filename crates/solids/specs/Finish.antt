-- What may follow the end of a solid: nothing.
--     FinishIn, Finished   what is given, and the answer
use Rattle.std.specs.Prelude.{◌≡◌, List, [], ℕ, ◌≤◌, length, drop, Result, Ok, Err}
use Rattle.scope.specs.Text.{frames}
use Rattle.frames.specs.Promises.{Follows}
use Rattle.tables.specs.declared.Solid.{Solid}
use Rattle.lines.specs.declared.SolidRead.{SolidRead}

abbrev pub FinishIn : List ℕ → Result SolidRead (ℕ × ℕ) → Type 0
FinishIn t (Ok r) = r.next.cursor.at ≤ length t
FinishIn t (Err e) = Unit {0}

pub data Finished (t : List ℕ) : Result SolidRead (ℕ × ℕ) → Result Solid (ℕ × ℕ) → Type 0 where
  not_read : {k l : ℕ} → Finished t (Err (k, l)) (Err (k, l))
  at_end : {r : SolidRead} → frames (drop r.next.cursor.at t) ≡ [] → Finished t (Ok r) (Ok r.solid)
  more : {r : SolidRead} {k : ℕ} → Follows (frames (drop r.next.cursor.at t)) k → Finished t (Ok r) (Err (k, r.next.line))

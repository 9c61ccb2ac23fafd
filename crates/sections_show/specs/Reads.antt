-- What the program reads.
--     Onward      a case that was read leads on in the text, and has at most 130 half-spaces
use Rattle.std.specs.Prelude.{ℕ, ◌≤◌, ◌<◌, Result, Ok, Err}
use Rattle.frames.specs.declared.Cursor.{Cursor}
use Rattle.refusals.specs.declared.Refusal.{Refusal}

abbrev pub Onward : ℕ → ℕ → Result (Cursor × ℕ) Refusal → Type 0
Onward n at (Ok (c, count)) = (at < c.at) × (c.at ≤ n) × (count ≤ 130)
Onward n at (Err k) = Unit {0}

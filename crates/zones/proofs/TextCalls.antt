-- The public calls on a text.
--     text_short, text_told    a work table that is too short, and one that is not
use mathlib.Core.Path.{◌≡◌, sym, ap, subst, ◌∙◌}
use mathlib.Core.List.{List}
use Prim.Native.Nat.{ℕ, ◌-◌, ◌≤◌, ◌<◌}
use native.Mathlib.Omega.{arith}
use lib.Dec.{T}
use borrow.Author.Tests.{le-leb, lt-leb}
use lib.IntN.{ℤ, pos}
use lib.ListN.{length, replicate}
use Rattle.scope.specs.Limits.{stated}
use Rattle.scope.specs.Answers.{refused, short_work, enough_work}
use Rattle.std.specs.Prelude.{Result}
use Rattle.outputs.specs.Outputs.{Refuses}
use Rattle.texts.specs.Answers.{Job}
use Rattle.texts.specs.Steps.{WithTold}
use Rattle.zones.specs.Promises.{TextTold}

pub text_short : {job : Job} {t out out' : List ℕ} {w w' : List ℤ} → length w < stated → w' ≡ replicate (length w) (pos 0) → {r : Result ℕ ℕ} → Refuses 8 out out' r → TextTold job t out out' w w' r
text_short {job} {t} {out} {out'} {w} e zw z = record { answer = refused 8; exact = short_work (λ x. subst T (lt-leb stated (length w) e) x); told = z.number; text = z.text ∙ ap (λ n. replicate {A = ℕ} n 0) {x = length out} {y = length out - 0} (omega arith); work = zw }

pub text_told : {job : Job} {t out out' : List ℕ} {w w' : List ℤ} {r : Result ℕ ℕ} → stated ≤ length w → w' ≡ replicate (length w) (pos 0) → WithTold job t out out' r → TextTold job t out out' w w' r
text_told {w = w} e zw h = record { answer = h.answer; exact = enough_work (subst T (sym (le-leb stated (length w) e)) tt) h.exact; told = h.outcome.told; text = h.outcome.text; work = zw }

-- What a call on lent tables tells, once its work table is long enough.
--     from_work                what is told of a call with enough work, without it
--     result_gave              what a call left in the tables for the result
--     refusal_told             a refusal that is told, and a text of zeros
use mathlib.Core.Path.{◌≡◌, sym, ap, subst, ◌∙◌}
use mathlib.Core.List.{List}
use Prim.Native.Nat.{ℕ, ◌-◌, ◌≤◌}
use native.Mathlib.Omega.{arith}
use lib.Dec.{T}
use borrow.Author.Tests.{le-leb}
use lib.IntN.{ℤ, pos}
use lib.ListN.{length, replicate}
use Rattle.scope.specs.Limits.{stated}
use Rattle.scope.specs.Solids.{Tables}
use Rattle.scope.specs.Answers.{Answer, given, refused, plane_numbers, node_numbers, left, WithWork, short_work, enough_work}
use Rattle.theory.specs.Text.Trees.{LawfulTables}
use Rattle.std.specs.Prelude.{Result}
use Rattle.tables.specs.declared.Solid.{Solid}
use Rattle.results.specs.Results.{Asked, Told}
use Rattle.outputs.specs.Outputs.{Refuses, Outcome, Gave}

pub from_work : {work : ℕ} {P : Answer Tables → Type 0} {r : Answer Tables} → stated ≤ work → WithWork work P r → P r
from_work {work} e (short_work n) = absurd (n (subst T (sym (le-leb stated work e)) tt))
from_work e (enough_work t p) = p

pub result_gave : {q : Asked} {xs xs' : List ℤ} {ns ns' : List ℕ} {w w' : List ℤ} {m : Result Solid ℕ} (h : Told q xs xs' ns ns' w w' m) → ((a : Tables) → h.answer ≡ given a → LawfulTables a) → length xs' ≡ length xs → length ns' ≡ length ns → Gave h.answer xs' ns' m
result_gave h l lx ln = record { told = h.told; planes = h.planes ∙ ap (λ n. left (pos 0) n plane_numbers h.answer) (sym lx); nodes = h.nodes ∙ ap (λ n. left 0 n node_numbers h.answer) (sym ln); lawful = l }

-- ---- a refusal

pub refusal_told : {k : ℕ} {out out' : List ℕ} {r : Result ℕ ℕ} → Refuses k out out' r → Outcome (refused k) out out' r
refusal_told {out = out} h = record { told = h.number; text = h.text ∙ ap (λ n. replicate {A = ℕ} n 0) {x = length out} {y = length out - 0} (omega arith) }

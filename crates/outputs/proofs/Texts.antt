-- What is written of an answer.
--     refuses_number                   a refusal that is told, by its number
--     Gives, gives                     the tables that were given
--     written_refused, written_solid   what comes of an answer
use mathlib.Core.Path.{◌≡◌, refl, sym, ap, ◌∙◌}
use mathlib.Core.Bool.{cond}
use mathlib.Core.List.{List}
use Prim.Native.Nat.{ℕ, ◌-◌, ◌≤◌}
use native.Mathlib.Omega.{arith}
use lib.Dec.{leb}
use borrow.Author.Tests.{le-leb}
use lib.IntN.{ℤ, pos}
use lib.ListN.{length, replicate}
use Rattle.whole.specs.Tests.{differ}
use Rattle.scope.specs.Limits.{stated}
use Rattle.scope.specs.Solids.{Tables, tables}
use Rattle.scope.specs.Text.{text}
use Rattle.scope.specs.Judging.{judge_lent}
use Rattle.scope.specs.Answers.{Answer, given, refused, plane_numbers, node_numbers, left, write_answer, solid_then}
use Rattle.theory.specs.Text.Lent.{lent}
use Rattle.theory.specs.Text.Trees.{LawfulTables}
use Rattle.tables.specs.declared.Solid.{Solid}
use Rattle.std.specs.Prelude.{Result, Ok, Err}
use Rattle.refusals.specs.declared.Refusal.{Refusal}
use Rattle.refusals.specs.Numbers.{number, numbered}
use Rattle.solids.specs.Writing.{wrote, itself}
use Rattle.solids.specs.Writing as writing
use Rattle.results.specs.Results.{given_of}
use Rattle.results.specs.Follows.{refused_by}
use Rattle.inputs.specs.Orders.{HoldsSolid}
use Rattle.outputs.specs.Outputs.{in_room, Refuses, Outcome, Gave, RowsLent}
use Rattle.outputs.proofs.Held.{rows_lent}

pub refuses_number : {e : Refusal} {out out' : List ℕ} {r : Result ℕ Refusal} → Refuses e out out' r → Refuses (number e) out out' (numbered r)
refuses_number h = record { number = ap numbered h.number; text = h.text }

module _ {answer : Answer Tables} {xs : List ℤ} {ns : List ℕ} {g : Result Solid ℕ} (h : Gave answer xs ns g) where
  pub written_refused : {k : ℕ} {out out' : List ℕ} → g ≡ Err k → {r : Result ℕ ℕ} → Refuses k out out' r → Outcome (in_room (length out) answer) out out' r
  written_refused {k} {out} {out'} e f = record { told = f.number ∙ ap (λ x. wrote (in_room (length out) x)) (sym no); text = f.text ∙ ap (λ n. replicate {A = ℕ} n 0) {x = length out} {y = length out - 0} (omega arith) ∙ ap (λ x. left 0 (length out) itself (in_room (length out) x)) (sym no) }
    where
      no : answer ≡ refused k
      no = refused_by answer e h.told

  -- the tables that were given
  pub record Gives (s : Solid) : Type 0 where
    pub is : Tables
    pub answer_is : answer ≡ given is
    pub held : HoldsSolid is s xs ns
    pub lawful : LawfulTables is

  pub gives : {s : Solid} → g ≡ Ok s → Gives s
  gives {s} e = by answer refl
    where
      by : (x : Answer Tables) → answer ≡ x → Gives s
      by (refused n) f = let d : ◌≡◌ {A = Result Solid ℕ} (Ok s) (Err n) = sym e ∙ h.told ∙ ap given_of f in differ (cc)
      by (given (tables ps es q)) f =
          let d : ◌≡◌ {A = Result Solid ℕ} (Ok s) (given_of (given (tables ps es q))) = sym e ∙ h.told ∙ ap given_of f in
          record { is = tables ps es q; answer_is = f; held = record { counts = cc; planes = h.planes ∙ ap (left (pos 0) (length xs) plane_numbers) f; nodes = h.nodes ∙ ap (left 0 (length ns) node_numbers) f }; lawful = h.lawful (tables ps es q) f }

  pub written_solid : {s : Solid} → g ≡ Ok s → {ys : List ℤ} {ms : List ℕ} {k : ℕ} → RowsLent s xs ns ys ms k → {out out' : List ℕ} {y y' : List ℤ} {r : Result ℕ ℕ} → stated ≤ length y → writing.WriteTold ys ms k out out' y y' r → Outcome (in_room (length out) answer) out out' r
  unfolding write_answer
  written_solid {s} e {ys} {ms} {k} l {out} {out'} {y} ey j = record { told = j.answer ∙ ap wrote same; text = j.text ∙ ap (left 0 (length out) itself) same }
    where
      q : Gives s
      q = gives e

      same : write_answer (length y) (length out) (lent ys ms k) ≡ in_room (length out) answer
      same =
          ap (λ c. cond c (solid_then (judge_lent (lent ys ms k)) (λ a. cond (leb (length (text a)) (length out)) (given (text a)) (refused 8))) (refused 8)) (le-leb stated (length y) ey)
          ∙ ap (λ x. solid_then x (λ a. cond (leb (length (text a)) (length out)) (given (text a)) (refused 8))) (rows_lent s xs ns l q.is q.lawful q.held)
          ∙ sym (ap (in_room (length out)) q.answer_is)

-- What reading promises, by scope's `judge`.
--     verdict, judgement          the verdict on a text by the length of the work table, and as the code has it
--     same_number                 the number of a refusal with its line
--     Into, IntoTold              a text read into tables of zeros
--     ReadTold                    the public call
use Rattle.std.specs.Prelude.{◌≡◌, cond, List, ℕ, leb, ℤ, pos, length, replicate, Result, Ok, Err}
use Rattle.std.proofs.Common.{ap}
use Rattle.scope.specs.Limits.{stated}
use Rattle.scope.specs.Solids.{Tables}
use Rattle.scope.specs.Judging.{Rooms, Verdict, accepted, refusal, judge}
use Rattle.scope.specs.Answers.{plane_numbers, node_numbers, filled, left, read_answer}
use Rattle.tables.specs.declared.Solid.{Solid}
use Rattle.lines.specs.Reading.{rooms, solid_of}

-- a short work table is 8, before everything; its line is 0
abbrev pub verdict : ℕ → Rooms → List ℕ → Verdict
verdict work a t = cond (leb stated work) (judge a t) (refusal 8 0)

abbrev pub judgement : Verdict → Result Solid (ℕ × ℕ)
judgement (accepted a) = Ok (solid_of a)
judgement (refusal k l) = Err (k, l)

-- two refusals that are one have one number
pub same_number : {k l m j : ℕ} → ◌≡◌ {A = Result Solid (ℕ × ℕ)} (Err (k, l)) (Err (m, j)) → k ≡ m
same_number {k} {l} {m} {j} e = let p : ◌≡◌ {A = ℕ × ℕ} (k, l) (m, j) = cc in ap (λ p. p.0) p

-- the text's tables were read, and the tables lent hold them
pub record Into (t : List ℕ) (a : Rooms) (work : ℕ) (s : Solid) (xs : List ℤ) (ns : List ℕ) : Type 0 where
  pub is : Tables
  pub counts : s ≡ solid_of is
  pub plane_table : xs ≡ filled (pos 0) (length xs) (plane_numbers is)
  pub node_table : ns ≡ filled 0 (length ns) (node_numbers is)
  pub sound : verdict work a t ≡ accepted is

abbrev pub IntoTold : List ℕ → Rooms → ℕ → List ℤ → List ℕ → Result Solid (ℕ × ℕ) → Type 0
IntoTold t a work xs ns (Ok s) = Into t a work s xs ns
IntoTold t a work xs ns (Err (k, l)) = verdict work a t ≡ refusal k l

-- the answer, and what is left in the tables lent
pub record ReadTold (t : List ℕ) (xs xs' : List ℤ) (ns ns' : List ℕ) (w w' : List ℤ) (r : Result Solid (ℕ × ℕ)) : Type 0 where
  pub answer : r ≡ judgement (verdict (length w) (rooms xs ns) t)
  pub planes : xs' ≡ left (pos 0) (length xs) plane_numbers (read_answer (length w) (rooms xs ns) t)
  pub nodes : ns' ≡ left 0 (length ns) node_numbers (read_answer (length w) (rooms xs ns) t)
  pub work : w' ≡ replicate (length w) (pos 0)

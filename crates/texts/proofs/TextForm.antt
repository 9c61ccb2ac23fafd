-- From a solid's text to its form's: the solid that stands in tables, its normal form, and what is written.
--     formed_right, form_gave, forming_told   what the normal form gave is that of the solid, and is written
--     solid_refused, solid_held, solid_formed   what comes of the text
use mathlib.Core.Path.{◌≡◌, refl, sym, ap, subst, ◌∙◌}
use mathlib.Core.Bool.{cond}
use mathlib.Core.List.{List}
use Prim.Native.Nat.{ℕ, ◌/◌, ◌≤◌}
use native.Mathlib.Omega.{arith}
use borrow.Author.Tests.{le-leb}
use lib.IntN.{ℤ, pos}
use lib.ListN.{length}
use Rattle.whole.specs.Tests.{differ}
use Rattle.scope.specs.Limits.{stated}
use Rattle.scope.specs.Judging.{Verdict, accepted, refusal, judge}
use Rattle.scope.specs.Answers.{given, refused, plane_numbers, node_numbers, left, FormBy, operand_rooms, program_rooms}
use Rattle.scope.specs.Answers as scope
use Rattle.theory.specs.Answers.{sound_tables}
use Rattle.theory.specs.Text.Judge.{judge_read}
use Rattle.tables.specs.declared.Solid.{Solid}
use Rattle.std.specs.Prelude.{Result, Ok, Err}
use Rattle.lines.specs.Reading.{rooms}
use Rattle.solids.specs.Reading.{judgement, ReadTold}
use Rattle.solids.specs.Follows.{read_given}
use Rattle.solids.specs.Follows as reading
use Rattle.forms.specs.Promises.{NormalTold}
use Rattle.outputs.specs.Outputs.{in_room, Refuses, Gave, RowsLent, WriteTold}
use Rattle.outputs.proofs.Held.{rows_lent}
use Rattle.texts.specs.Answers.{forming, formed_text}
use Rattle.texts.specs.Steps.{WithTold, SolidIn, ResultIn, Holds, Forming, SolidFormed}
use Rattle.texts.specs.Lawful.{form_given_lawful}
use Rattle.texts.proofs.Calls.{from_work, result_gave, refusal_told}

-- ---- the form's answer

module _ {s : Solid} {pa : List ℤ} {na : List ℕ} (a : Holds s pa na) {ya : List ℤ} {ma : List ℕ} {ra : ℕ} (la : RowsLent s pa na ya ma ra) {xs xs' : List ℤ} {ns ns' : List ℕ} {w w' : List ℤ} {m : Result Solid ℕ} (i : ResultIn xs ns w) (h : NormalTold ya ma ra xs xs' ns ns' w w' m) where
  pub formed_right : FormBy program_rooms (accepted a.is) h.answer
  formed_right = subst (λ x. x) (λ j. FormBy (record { plane_rows = plane_rows j; node_rows = node_rows j }) (rows_lent s pa na la a.is a.lawful a.held j) h.answer) (from_work i.enough h.exact)
    where
      plane_rows : length xs / 4 ≡ 128
      plane_rows = omega (arith, i.planes)

      node_rows : length ns / 3 ≡ 1000
      node_rows = omega (arith, i.nodes)

  pub form_gave : length xs' ≡ length xs → length ns' ≡ length ns → Gave h.answer xs' ns' m
  form_gave = result_gave h (λ c e. form_given_lawful (sound_tables a.lawful) formed_right e)

  pub forming_told : length xs' ≡ length xs → length ns' ≡ length ns → {out out' : List ℕ} {r : Result ℕ ℕ} → WriteTold m xs' ns' out out' r → Forming a.is out out' r
  forming_told lx ln f = record { answer = h.answer; exact = formed_right; outcome = f h.answer (form_gave lx ln) }

-- ---- the text

module _ {t : List ℕ} {xs xs' : List ℤ} {ns ns' : List ℕ} {w w' : List ℤ} {j : Result Solid (ℕ × ℕ)} (i : SolidIn xs ns) (enough : stated ≤ length w) (h : ReadTold t xs xs' ns ns' w w' j) where
  rooms_are : rooms xs ns ≡ operand_rooms
  rooms_are = λ k. record { plane_rows = plane_rows k; node_rows = node_rows k }
    where
      plane_rows : length xs / 4 ≡ 64
      plane_rows = omega (arith, i.planes)

      node_rows : length ns / 3 ≡ 1000
      node_rows = omega (arith, i.nodes)

  judged : j ≡ judgement (judge operand_rooms t)
  judged = h.answer ∙ ap (λ b. judgement (cond b (judge (rooms xs ns) t) (refusal 8 0))) (le-leb stated (length w) enough) ∙ ap (λ r. judgement (judge r t)) rooms_are

  refuses : {k l : ℕ} → j ≡ Err (k, l) → judge operand_rooms t ≡ refusal k l
  refuses {k} {l} e = by (judge operand_rooms t) (sym judged ∙ e)
    where
      by : (v : Verdict) → judgement v ≡ Err (k, l) → v ≡ refusal k l
      by (accepted a) q = differ (cc)
      by (refusal n m) q = let d : ◌≡◌ {A = ℕ × ℕ} (n, m) (k, l) = cc in λ i. refusal (d i).0 (d i).1

  module _ {s : Solid} (e : j ≡ Ok s) where
    pub read_in : reading.Given t (rooms xs ns) (length w) s
    read_in = read_given (sym e ∙ h.answer)

    pub accepts : judge operand_rooms t ≡ accepted read_in.is
    accepts = ap (λ r. judge r t) (sym rooms_are) ∙ read_in.judged

    abbrev pub solid_held : length xs' ≡ length xs → length ns' ≡ length ns → Holds s xs' ns'
    solid_held lx ln = record {
      is = read_in.is;
      lawful = (judge_read operand_rooms t read_in.is accepts).lawful;
      held = record { counts = read_in.counts; planes = h.planes ∙ ap (left (pos 0) (length xs) plane_numbers) read_in.told ∙ ap (λ n. left (pos 0) n plane_numbers (given read_in.is)) (sym lx); nodes = h.nodes ∙ ap (left 0 (length ns) node_numbers) read_in.told ∙ ap (λ n. left 0 n node_numbers (given read_in.is)) (sym ln) };
    }

    pub solid_formed : (lx : length xs' ≡ length xs) (ln : length ns' ≡ length ns) → {out out' : List ℕ} {r : Result ℕ ℕ} → SolidFormed s xs' ns' out out' r → WithTold forming t out out' r
    solid_formed lx ln {out} f = let g = f (solid_held lx ln) in record { answer = in_room (length out) g.answer; exact = formed_text (subst (λ v. FormBy program_rooms v g.answer) (sym accepts) g.exact); outcome = g.outcome }

pub solid_refused : {t : List ℕ} {xs xs' : List ℤ} {ns ns' : List ℕ} {w w' : List ℤ} {k l : ℕ} {out out' : List ℕ} {r : Result ℕ ℕ} → ReadTold t xs xs' ns ns' w w' (Err (k, l)) → Refuses k out out' r → SolidIn xs ns → stated ≤ length w → WithTold forming t out out' r
solid_refused {k = k} h f i enough = record { answer = refused k; exact = formed_text {r = refused k} (scope.solid_refused (refuses i enough h refl)); outcome = refusal_told f }

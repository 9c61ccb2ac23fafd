-- From a solid that was read to the promise of the public call.
--     into_long, into_refused, into_sound, into_more, into_told   a text
--     solid_inside   where the text goes on after a solid
--     read_sound, read_refused, told_sound, told_refused   the answer, and what is left in the tables
use mathlib.Core.Path.{◌≡◌, refl, sym, ap, subst, ◌∙◌}
use mathlib.Core.Bool.{Bool, true, false, cond}
use mathlib.Core.List.{List, []}
use Prim.Native.Nat.{ℕ, ◌-◌, ◌/◌, ◌≤◌, ◌<◌}
use native.Mathlib.Omega.{arith}
use Rattle.std.specs.Prelude.{Result, Ok, Err}
use lib.Dec.{leb}
use lib.IntN.{ℤ, pos}
use lib.ListN.{length, drop, replicate}
use borrow.Author.Tests.{le-leb, lt-leb}
use Rattle.refusals.specs.declared.LineRefusal.{LineRefusal}
use Rattle.refusals.specs.Numbers.{lined}
use Rattle.scope.specs.Limits.{stated, most_text}
use Rattle.scope.specs.Text.{frames}
use Rattle.scope.specs.Judging.{Rooms, fresh, refused, read_solid, refusal, finish, judge}
use Rattle.scope.specs.Answers.{given, solid_then, plane_numbers, node_numbers, filled, left, read_answer}
use Rattle.scope.specs.Answers as answers
use Rattle.frames.specs.Promises.{Follows}
use Rattle.tables.specs.declared.Solid.{Solid}
use Rattle.lines.specs.declared.SolidRead.{SolidRead}
use Rattle.solids.specs.Finish.{FinishIn, Finished, not_read, at_end, more}
use Rattle.lines.specs.Reading.{rooms, WholeSolid, SolidTold}
use Rattle.solids.specs.Reading.{verdict, judgement, Into, IntoTold, ReadTold}
use Rattle.lines.proofs.Whole.{finish_read, finish_more, finish_refused}

-- ---- a text

module _ (t : List ℕ) (a : Rooms) (work : ℕ) where
  module _ (enough : stated ≤ work) where
    with_enough : verdict work a t ≡ judge a t
    with_enough = ap (λ b. cond b (judge a t) (refusal 8 0)) (le-leb stated work enough)

    pub into_long : most_text < length t → verdict work a t ≡ refusal 3 0
    unfolding judge
    into_long h = with_enough ∙ ap (λ b. cond b (finish (read_solid a fresh 1 (frames t))) (refusal 3 0)) (lt-leb (length t) most_text h)

    module _ (short : length t ≤ most_text) where
      by_lines : verdict work a t ≡ finish (read_solid a fresh 1 (frames t))
      unfolding judge
      by_lines = with_enough ∙ ap (λ b. cond b (finish (read_solid a fresh 1 (frames t))) (refusal 3 0)) (le-leb (length t) most_text short)

      pub into_refused : {k l : ℕ} → read_solid a fresh 1 (frames t) ≡ refused k l → verdict work a t ≡ refusal k l
      into_refused e = by_lines ∙ finish_refused e

      pub into_more : {s : Solid} {xs : List ℤ} {ns : List ℕ} {next l k : ℕ} → WholeSolid t 0 1 a s xs ns next l → Follows (frames (drop next t)) k → verdict work a t ≡ refusal k l
      into_more q h = by_lines ∙ finish_more q.reading h

      pub into_sound : {s : Solid} {xs : List ℤ} {ns : List ℕ} {next l : ℕ} → WholeSolid t 0 1 a s xs ns next l → frames (drop next t) ≡ [] → Into t a work s xs ns
      into_sound q h = record { is = q.is; counts = q.counts; plane_table = q.plane_table; node_table = q.node_table; sound = by_lines ∙ finish_read q.reading h }

      -- from what was read to what is told
      pub into_told : (xs : List ℤ) (ns : List ℕ) {r : Result SolidRead (ℕ × ℕ)} {j : Result Solid (ℕ × ℕ)} → Finished t r j → SolidTold t 0 1 a xs ns r → IntoTold t a work xs ns j
      into_told xs ns not_read h = into_refused h
      into_told xs ns (at_end e) h = into_sound h e
      into_told xs ns (more e) h = into_more h e

-- where the text goes on after a solid
pub solid_inside : (t : List ℕ) (from l : ℕ) (a : Rooms) (xs : List ℤ) (ns : List ℕ) (r : Result SolidRead (ℕ × ℕ)) → SolidTold t from l a xs ns r → FinishIn t r
solid_inside t from l a xs ns (Ok r) h = h.inside
solid_inside t from l a xs ns (Err e) h = tt

-- ---- the public call

module _ (t : List ℕ) (xs : List ℤ) (ns : List ℕ) (w : List ℤ) where
  answer_verdict : read_answer (length w) (rooms xs ns) t ≡ solid_then (verdict (length w) (rooms xs ns) t) given
  unfolding read_answer
  answer_verdict = by (leb stated (length w))
    where
      by : (b : Bool) → cond b (solid_then (judge (rooms xs ns) t) given) (answers.refused 8) ≡ solid_then (cond b (judge (rooms xs ns) t) (refusal 8 0)) given
      by true = refl
      by false = refl

  pub read_sound : {s : Solid} {xs' : List ℤ} {ns' : List ℕ} {w' : List ℤ} → length xs' ≡ length xs → length ns' ≡ length ns → w' ≡ replicate (length w) (pos 0) → Into t (rooms xs ns) (length w) s xs' ns' → ReadTold t xs xs' ns ns' w w' (Ok s)
  read_sound {s} {xs'} {ns'} ex en ew q = record {
    answer = ap Ok q.counts ∙ ap judgement (sym q.sound);
    planes = q.plane_table ∙ ap (λ i. filled (pos 0) i (plane_numbers q.is)) ex ∙ sym (ap (left (pos 0) (length xs) plane_numbers) given_is);
    nodes = q.node_table ∙ ap (λ i. filled 0 i (node_numbers q.is)) en ∙ sym (ap (left 0 (length ns) node_numbers) given_is);
    work = ew;
  }
    where
      given_is : read_answer (length w) (rooms xs ns) t ≡ given q.is
      given_is = answer_verdict ∙ ap (λ v. solid_then v given) q.sound

  pub read_refused : {k l : ℕ} {xs' : List ℤ} {ns' : List ℕ} {w' : List ℤ} → xs' ≡ replicate (length xs) (pos 0) → ns' ≡ replicate (length ns) 0 → w' ≡ replicate (length w) (pos 0) → verdict (length w) (rooms xs ns) t ≡ refusal k l → ReadTold t xs xs' ns ns' w w' (Err (k, l))
  read_refused {k} {l} ex en ew e = record {
    answer = ap judgement (sym e);
    planes = ex ∙ ap (λ n. replicate n (pos 0)) {x = length xs} {y = length xs - 0} (omega arith) ∙ sym (ap (left (pos 0) (length xs) plane_numbers) is_refused);
    nodes = en ∙ ap (λ n. replicate n 0) {x = length ns} {y = length ns - 0} (omega arith) ∙ sym (ap (left 0 (length ns) node_numbers) is_refused);
    work = ew;
  }
    where
      is_refused : read_answer (length w) (rooms xs ns) t ≡ answers.refused k
      is_refused = answer_verdict ∙ ap (λ v. solid_then v given) e

  -- the tables that were read into have the lengths of those lent
  module _ (xs₁ : List ℤ) (ns₁ : List ℕ) (w₁ : List ℤ) (ex : length xs₁ ≡ length xs) (en : length ns₁ ≡ length ns) (ew : length w₁ ≡ length w) (xs₂ : List ℤ) (ns₂ : List ℕ) where
    lent : (r : Result Solid (ℕ × ℕ)) → IntoTold t (rooms xs₁ ns₁) (length w₁) xs₂ ns₂ r → IntoTold t (rooms xs ns) (length w) xs₂ ns₂ r
    lent r = subst (λ a. a) (λ i. IntoTold t (record { plane_rows = ex i / 4; node_rows = en i / 3 }) (ew i) xs₂ ns₂ r)

    pub told_refused : {r : Result Solid LineRefusal} {e : LineRefusal} {xs' : List ℤ} {ns' : List ℕ} {w' : List ℤ} → r ≡ Err e → IntoTold t (rooms xs₁ ns₁) (length w₁) xs₂ ns₂ (lined r) → xs' ≡ replicate (length xs) (pos 0) → ns' ≡ replicate (length ns) 0 → w' ≡ replicate (length w) (pos 0) → ReadTold t xs xs' ns ns' w w' (lined r)
    told_refused {e = e} {xs' = xs'} {ns' = ns'} {w' = w'} q h zx zn zw = subst (λ r. ReadTold t xs xs' ns ns' w w' (lined r)) (sym q) (read_refused zx zn zw (lent (lined (Err e)) (subst (λ r. IntoTold t (rooms xs₁ ns₁) (length w₁) xs₂ ns₂ (lined r)) q h)))

    pub told_sound : {r : Result Solid LineRefusal} {s : Solid} {w' : List ℤ} → r ≡ Ok s → IntoTold t (rooms xs₁ ns₁) (length w₁) xs₂ ns₂ (lined r) → length xs₂ ≡ length xs → length ns₂ ≡ length ns → w' ≡ replicate (length w) (pos 0) → ReadTold t xs xs₂ ns ns₂ w w' (Ok s)
    told_sound {s = s} q h lx ln zw = read_sound lx ln zw (lent (Ok s) (subst (λ r. IntoTold t (rooms xs₁ ns₁) (length w₁) xs₂ ns₂ (lined r)) q h))

-- From the judge's answer to the promise of writing.
--     sound_in, sound_writes   the tables that stand in lent tables that are sound, which can be written
--     fitted_short, fitted_whole, fitted_lent   a text that has no room, and one that has
--     write_refused, write_sound     the answer, and what is left in the text
use mathlib.Core.Path.{◌≡◌, refl, sym, ap, subst, ◌∙◌}
use mathlib.Core.Bool.{Bool, true, false, cond}
use mathlib.Core.List.{List, []}
use Prim.Native.Nat.{ℕ, ◌+◌, ◌-◌, ◌*◌, ◌/◌, ◌≤◌, ◌<◌}
use native.Mathlib.Omega.{arith}
use Rattle.std.specs.Prelude.{Result, Ok, Err}
use borrow.Author.Tests.{le-leb, lt-leb}
use lib.Dec.{leb}
use lib.IntN.{ℤ, pos}
use lib.ListN.{length, replicate}
use lib.Seq.{sets}
use Rattle.whole.specs.Tests.{differ}
use Rattle.scope.specs.Limits.{stated}
use Rattle.scope.specs.Solids.{Tables, tables}
use Rattle.scope.specs.Text.{head, plane, node_row, written, text}
use Rattle.scope.specs.Judging.{Verdict, accepted, refusal, judge_lent}
use Rattle.scope.specs.Answers.{given, refused, solid_then, filled, left, write_answer}
use Rattle.theory.specs.Text.Filled.{filled_more, planes_count, nodes_count}
use Rattle.theory.specs.Text.Frames.{Fits}
use Rattle.theory.specs.Text.Lent.{lent, Flat, lent_taken}
use Rattle.theory.specs.Text.Sizes.{Writable, writable, solid_length}
use Rattle.theory.specs.Text.Trees.{LawfulTables}
use Rattle.tables.specs.Rows.{plane_at, entry_at, planes_to, entries_to}
use Rattle.tables.specs.Promises.{judgement, judge_answer, counts}
use Rattle.tables.specs.declared.Solid.{Solid}
use Rattle.lines.specs.Reading.{solid_of}
use Rattle.lines.specs.Writing.{Writes, tables_in}
use Rattle.solids.specs.Reading.{same_number}
use Rattle.solids.specs.Writing.{fitted, wrote, itself, Sound, FittedTold, WriteTold}
use Rattle.lines.proofs.TextLines.{planes_all, entries_all, plane_each, node_each}
use Rattle.lines.proofs.Tables.{zeros_held}

-- ---- what stands in sound tables

pub sound_in : (xs : List ℤ) (ns : List ℕ) (s : Solid) (a : Sound xs ns s) → tables_in xs ns s ≡ a.is
sound_in xs ns s a = by a.is a.flat a.counts
  where
    by : (b : Tables) → Flat b xs ns s.root → s ≡ solid_of b → tables_in xs ns s ≡ b
    by (tables ps es r) f e = λ i. tables (((λ j. planes_to (f.planes j) (e j).planes) ∙ planes_all ps) i) (((λ j. entries_to (f.nodes j) (e j).nodes) ∙ entries_all es) i) (e i).root

-- the text of sound tables has so many characters
pub sound_length : (xs : List ℤ) (ns : List ℕ) (s : Solid) → Sound xs ns s → length (text (tables_in xs ns s)) ≡ 16 + 23 * s.planes + 13 * s.nodes
unfolding text written
sound_length xs ns s a = ap (λ b. length (text b)) (sound_in xs ns s a) ∙ by a.is a.counts
  where
    by : (b : Tables) → s ≡ solid_of b → length (text b) ≡ 16 + 23 * s.planes + 13 * s.nodes
    by (tables ps es r) e = solid_length ps es r [] ∙ omega (arith, ap (λ i. i.planes) e, ap (λ i. i.nodes) e)

-- sound tables can be written where there is room
pub sound_writes : (xs : List ℤ) (ns : List ℕ) (s : Solid) (t : List ℕ) → Sound xs ns s → 16 + 23 * s.planes + 13 * s.nodes ≤ length t → Writes xs ns s t
sound_writes xs ns s t a room = by a.is a.lawful a.flat a.counts (writable a.is a.lawful)
  where
    by : (b : Tables) → LawfulTables b → Flat b xs ns s.root → s ≡ solid_of b → Writable b → Writes xs ns s t
    by (tables ps es r) h f e w = record {
      planes_fit = record {
        rows = omega (arith, ap length f.planes, planes_count ps, ap (λ i. i.planes) e);
        few = omega (arith, h.few_planes, ap (λ i. i.planes) e);
        fits = λ i l. subst (λ l. Fits (plane (plane_at l i))) (sym f.planes) (plane_each ps w.each_plane i (omega (arith, l, ap (λ i. i.planes) e)));
      };
      nodes_fit = record {
        rows = omega (arith, ap length f.nodes, nodes_count es, ap (λ i. i.nodes) e);
        few = omega (arith, h.few_rows, ap (λ i. i.nodes) e);
        fits = λ i l. subst (λ l. Fits (node_row (entry_at l i))) (sym f.nodes) (node_each es w.each_node i (omega (arith, l, ap (λ i. i.nodes) e)));
      };
      head_fits = subst (λ s. Fits (head s.planes s.nodes s.root)) (sym e) w.counts;
      room = room;
    }

-- ---- a text and its room

module _ (xs : List ℤ) (ns : List ℕ) (s : Solid) (t : List ℕ) (a : Sound xs ns s) where
  abbrev size : ℕ
  size = 16 + 23 * s.planes + 13 * s.nodes

  pub fitted_short : {t' : List ℕ} → length t < size → t' ≡ replicate (length t) 0 → FittedTold xs ns s t t' (Err 8)
  fitted_short {t'} l z = record { answer = ap wrote (sym no); text = z ∙ zeros ∙ ap (left 0 (length t) itself) (sym no) }
    where
      no : fitted (length t) (text (tables_in xs ns s)) ≡ refused 8
      no = ap (λ b. cond b (given (text (tables_in xs ns s))) (refused 8)) (lt-leb (length (text (tables_in xs ns s))) (length t) (omega (arith, l, sound_length xs ns s a)))

      zeros : replicate {A = ℕ} (length t) 0 ≡ filled 0 (length t) []
      zeros = ap (λ n. replicate {A = ℕ} n 0) {x = length t} {y = length t - 0} (omega arith)

  pub fitted_whole : {t' : List ℕ} → size ≤ length t → t ≡ replicate (length t) 0 → t' ≡ sets t 0 (text (tables_in xs ns s)) → FittedTold xs ns s t t' (Ok size)
  fitted_whole {t'} l z h = record {
    answer = ap Ok (sym (sound_length xs ns s a)) ∙ ap wrote (sym yes);
    text = h ∙ ap (λ u. sets u 0 (text (tables_in xs ns s))) (zeros_held 0 t z) ∙ filled_more 0 (length t) [] (text (tables_in xs ns s)) (omega (arith, l, sound_length xs ns s a)) ∙ ap (left 0 (length t) itself) (sym yes);
  }
    where
      yes : fitted (length t) (text (tables_in xs ns s)) ≡ given (text (tables_in xs ns s))
      yes = ap (λ b. cond b (given (text (tables_in xs ns s))) (refused 8)) (le-leb (length (text (tables_in xs ns s))) (length t) (omega (arith, l, sound_length xs ns s a)))

-- a text of the same length
pub fitted_lent : (xs : List ℤ) (ns : List ℕ) (s : Solid) (u t : List ℕ) {t' : List ℕ} {a : Result ℕ ℕ} → length u ≡ length t → FittedTold xs ns s u t' a → FittedTold xs ns s t t' a
fitted_lent xs ns s u t e h = record { answer = h.answer ∙ ap (λ n. wrote (fitted n (text (tables_in xs ns s)))) e; text = h.text ∙ ap (λ n. left 0 n itself (fitted n (text (tables_in xs ns s)))) e }

-- ---- the public call

module _ (xs : List ℤ) (ns : List ℕ) (r work : ℕ) where
  -- the judge's answer, taken apart
  refused_write : (room : ℕ) {k l : ℕ} → judge_answer work xs ns r ≡ Err (k, l) → write_answer work room (lent xs ns r) ≡ refused k
  unfolding write_answer
  refused_write room {k} {l} e = by (leb stated work) (judge_lent (lent xs ns r)) e
    where
      by : (b : Bool) (v : Verdict) → cond b (judgement xs ns r v) (Err (8, 0)) ≡ Err (k, l) → cond b (solid_then v (λ a. fitted room (text a))) (refused 8) ≡ refused k
      by false v e = ap refused (same_number e)
      by true (accepted a) e = differ (cc e)
      by true (refusal n j) e = ap refused (same_number e)

  pub write_refused : {k l : ℕ} {t t' : List ℕ} {w w' : List ℤ} → length w ≡ work → judge_answer work xs ns r ≡ Err (k, l) → t' ≡ replicate (length t) 0 → w' ≡ replicate (length w) (pos 0) → WriteTold xs ns r t t' w w' (Err k)
  write_refused {k} {l} {t} {t'} {w} ew e z zw = record { answer = ap wrote (sym no); text = z ∙ ap (λ n. replicate {A = ℕ} n 0) {x = length t} {y = length t - 0} (omega arith) ∙ ap (left 0 (length t) itself) (sym no); work = zw }
    where
      no : write_answer (length w) (length t) (lent xs ns r) ≡ refused k
      no = ap (λ n. write_answer n (length t) (lent xs ns r)) ew ∙ refused_write (length t) e

  -- sound tables are those of a lawful solid
  record Judged_sound : Type 0 where
    pub sound : Sound xs ns (counts xs ns r)
    pub writes : (room : ℕ) → write_answer work room (lent xs ns r) ≡ fitted room (text sound.is)

  sound_judged : {s : Solid} → judge_answer work xs ns r ≡ Ok s → Judged_sound
  unfolding write_answer
  sound_judged {s} e = by (leb stated work) refl (judge_lent (lent xs ns r)) refl e
    where
      taken : (a : Tables) → Flat a xs ns r × LawfulTables a → counts xs ns r ≡ solid_of a
      taken (tables ps es u) (f, h) = λ i. record { planes = rows i; nodes = lines i; root = f.root i }
        where
          rows : length xs / 4 ≡ length ps
          rows = omega (arith, ap length f.planes, planes_count ps)

          lines : length ns / 3 ≡ length es
          lines = omega (arith, ap length f.nodes, nodes_count es)

      by : (b : Bool) → leb stated work ≡ b → (v : Verdict) → judge_lent (lent xs ns r) ≡ v → cond b (judgement xs ns r v) (Err (8, 0)) ≡ Ok s → Judged_sound
      by false eb v ev e = differ (cc e)
      by true eb (refusal n j) ev e = differ (cc e)
      by true eb (accepted a) ev e = record {
        sound = record { is = a; lawful = (lent_taken xs ns r a ev).1; flat = (lent_taken xs ns r a ev).0; counts = taken a (lent_taken xs ns r a ev) };
        writes = λ room. λ i. cond (eb i) (solid_then (ev i) (λ a. fitted room (text a))) (refused 8);
      }

  pub judged_sound : {s : Solid} → judge_answer work xs ns r ≡ Ok s → Sound xs ns (counts xs ns r)
  judged_sound e = (sound_judged e).sound

  pub write_sound : {s : Solid} {t t' : List ℕ} {w w' : List ℤ} {a : Result ℕ ℕ} → length w ≡ work → judge_answer work xs ns r ≡ Ok s → FittedTold xs ns (counts xs ns r) t t' a → w' ≡ replicate (length w) (pos 0) → WriteTold xs ns r t t' w w' a
  write_sound {t = t} {w = w} ew e q zw = record { answer = q.answer ∙ ap wrote (sym yes); text = q.text ∙ ap (left 0 (length t) itself) (sym yes); work = zw }
    where
      yes : write_answer (length w) (length t) (lent xs ns r) ≡ fitted (length t) (text (tables_in xs ns (counts xs ns r)))
      yes = ap (λ n. write_answer n (length t) (lent xs ns r)) ew ∙ (sound_judged e).writes (length t) ∙ ap (λ b. fitted (length t) (text b)) (sym (sound_in xs ns (counts xs ns r) (sound_judged e).sound))

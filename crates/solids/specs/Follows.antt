-- What follows from the promises of reading and writing.
--     read_unique, write_unique     no second answer, and no second table, meets them
--     Given, read_given             a text that was read
--     read_written                  a text read and written again is the same text
--     written_read                  tables written and read again are the same tables
--     read_refusal, write_refusal   a refusal leaves every table all zeros
use Rattle.std.specs.Prelude.{◌≡◌, refl, Bool, true, false, cond, List, [], ℕ, ◌-◌, ◌*◌, ◌/◌, ◌≤◌, T, leb, ℤ, pos, length, take, replicate, Result, Ok, Err}
use Rattle.std.proofs.Common.{sym, subst, ◌∙◌, arith, le-leb}
use Rattle.std.proofs.Math.Path.{ap}
use Rattle.std.proofs.Math.Seq.{take-append_seam}
use Rattle.whole.specs.Tests.{◌and◌, differ}
use Rattle.scope.specs.Limits.{stated}
use Rattle.scope.specs.Solids.{Tables, tables}
use Rattle.scope.specs.Text.{text}
use Rattle.scope.specs.Judging.{Rooms, Verdict, accepted, refusal, judge, judge_lent}
use Rattle.scope.specs.Answers.{Answer, given, refused, solid_then, plane_numbers, node_numbers, flat_planes, flat_nodes, filled, left, read_answer, write_answer}
use Rattle.theory.specs.Text.Filled.{planes_count, nodes_count}
use Rattle.theory.specs.Text.Judge.{Roomy, judge_text, judge_read}
use Rattle.theory.specs.Text.Lent.{lent, Flat, lent_accepted, lent_taken}
use Rattle.theory.specs.Text.Trees.{LawfulTables}
use Rattle.tables.specs.declared.Solid.{Solid}
use Rattle.lines.specs.Reading.{rooms, solid_of}
use Rattle.solids.specs.Reading.{same_number, verdict, judgement, ReadTold}
use Rattle.solids.specs.Writing.{wrote, itself, WriteTold}

-- ---- no second answer

pub read_unique : {t : List ℕ} {xs xs' xs'' : List ℤ} {ns ns' ns'' : List ℕ} {w w' w'' : List ℤ} {i j : Result Solid (ℕ × ℕ)} → ReadTold t xs xs' ns ns' w w' i → ReadTold t xs xs'' ns ns'' w w'' j → (i ≡ j) × (xs' ≡ xs'') × (ns' ≡ ns'') × (w' ≡ w'')
read_unique h k = (h.answer ∙ sym k.answer, h.planes ∙ sym k.planes, h.nodes ∙ sym k.nodes, h.work ∙ sym k.work)

pub write_unique : {xs : List ℤ} {ns : List ℕ} {r : ℕ} {t t' t'' : List ℕ} {w w' w'' : List ℤ} {a b : Result ℕ ℕ} → WriteTold xs ns r t t' w w' a → WriteTold xs ns r t t'' w w'' b → (a ≡ b) × (t' ≡ t'') × (w' ≡ w'')
write_unique h k = (h.answer ∙ sym k.answer, h.text ∙ sym k.text, h.work ∙ sym k.work)

-- ---- the answers, taken apart

-- with enough work
worked : {A : Type 0} {work : ℕ} (a b : A) → stated ≤ work → cond (leb stated work) a b ≡ a
worked {work = work} a b h = ap (λ c. cond c a b) (le-leb stated work h)

pub record Given (t : List ℕ) (r : Rooms) (work : ℕ) (s : Solid) : Type 0 where
  pub is : Tables
  pub counts : s ≡ solid_of is
  pub judged : judge r t ≡ accepted is
  pub told : read_answer work r t ≡ given is

-- a text that was read
pub read_given : {t : List ℕ} {r : Rooms} {work : ℕ} {s : Solid} → Ok s ≡ judgement (verdict work r t) → Given t r work s
unfolding read_answer
read_given {t} {r} {work} {s} e = by (leb stated work) refl (judge r t) refl e
  where
    by : (b : Bool) → leb stated work ≡ b → (v : Verdict) → judge r t ≡ v → Ok s ≡ judgement (cond b v (refusal 8 0)) → Given t r work s
    by false eb v ev e = differ (cc e)
    by true eb (refusal k l) ev e = differ (cc e)
    by true eb (accepted a) ev e = record { is = a; counts = cc e; judged = ev; told = λ i. cond (eb i) (solid_then (ev i) given) (refused 8) }

record Put (xs : List ℤ) (ns : List ℕ) (r work room n : ℕ) : Type 0 where
  pub is : Tables
  pub judged : judge_lent (lent xs ns r) ≡ accepted is
  pub long : n ≡ length (text is)
  pub told : write_answer work room (lent xs ns r) ≡ given (text is)

-- tables that were written
put_given : {xs : List ℤ} {ns : List ℕ} {r work room n : ℕ} → Ok n ≡ wrote (write_answer work room (lent xs ns r)) → Put xs ns r work room n
unfolding write_answer
put_given {xs} {ns} {r} {work} {room} {n} e = by (leb stated work) refl (judge_lent (lent xs ns r)) refl e
  where
    fits : (b : Bool) (a : Tables) → leb (length (text a)) room ≡ b → leb stated work ≡ true → judge_lent (lent xs ns r) ≡ accepted a → Ok n ≡ wrote (cond b (given (text a)) (refused 8)) → Put xs ns r work room n
    fits false a el eb ev e = differ (cc e)
    fits true a el eb ev e = record { is = a; judged = ev; long = cc e; told = (λ i. cond (eb i) (solid_then (ev i) (λ a. cond (leb (length (text a)) room) (given (text a)) (refused 8))) (refused 8)) ∙ ap (λ c. cond c (given (text a)) (refused 8)) el }

    by : (b : Bool) → leb stated work ≡ b → (v : Verdict) → judge_lent (lent xs ns r) ≡ v → Ok n ≡ wrote (cond b (solid_then v (λ a. cond (leb (length (text a)) room) (given (text a)) (refused 8))) (refused 8)) → Put xs ns r work room n
    by false eb v ev e = differ (cc e)
    by true eb (refusal k l) ev e = differ (cc e)
    by true eb (accepted a) ev e = fits (leb (length (text a)) room) a refl eb ev e

-- the entries of a table that is filled with them
first : {A : Type 0} (o : A) (n k : ℕ) (xs ys : List A) → ys ≡ filled o n xs → length xs ≡ k → take k ys ≡ xs
first o n k xs ys e l = (λ i. take (sym l i) (e i)) ∙ take-append_seam xs (replicate (n - length xs) o)

-- ---- read and written again

module _ {t : List ℕ} {xs xs' : List ℤ} {ns ns' : List ℕ} {w w' : List ℤ} {s : Solid} (h : ReadTold t xs xs' ns ns' w w' (Ok s)) where
  -- the rows that were read, lent again
  abbrev plane_rows : List ℤ
  plane_rows = take (4 * s.planes) xs'

  abbrev node_rows : List ℕ
  node_rows = take (3 * s.nodes) ns'

  pub read_written : {u u' : List ℕ} {v v' : List ℤ} {a : Result ℕ ℕ} → WriteTold plane_rows node_rows s.root u u' v v' a → stated ≤ length v → length t ≤ length u → (a ≡ Ok (length t)) × (u' ≡ filled 0 (length u) t)
  unfolding write_answer
  read_written {u} {u'} {v} k work room = (k.answer ∙ ap wrote same, k.text ∙ ap (left 0 (length u) itself) same)
    where
      g : Given t (rooms xs ns) (length w) s
      g = read_given h.answer

      lent_again : (a : Tables) → s ≡ solid_of a → LawfulTables a → xs' ≡ filled (pos 0) (length xs) (plane_numbers a) → ns' ≡ filled 0 (length ns) (node_numbers a) → judge_lent (lent plane_rows node_rows s.root) ≡ accepted a
      lent_again (tables ps es r) e l ex en =
          (λ i. judge_lent (lent (planes i) (nodes i) (e i).root)) ∙ lent_accepted ps es r l
        where
          planes : plane_rows ≡ flat_planes ps
          planes = first (pos 0) (length xs) (4 * s.planes) (flat_planes ps) xs' ex (planes_count ps ∙ ap (λ s. 4 * s.planes) (sym e))

          nodes : node_rows ≡ flat_nodes es
          nodes = first 0 (length ns) (3 * s.nodes) (flat_nodes es) ns' en (nodes_count es ∙ ap (λ s. 3 * s.nodes) (sym e))

      again : judge_lent (lent plane_rows node_rows s.root) ≡ accepted g.is
      again = lent_again g.is g.counts (judge_read (rooms xs ns) t g.is g.judged).lawful (h.planes ∙ ap (left (pos 0) (length xs) plane_numbers) g.told) (h.nodes ∙ ap (left 0 (length ns) node_numbers) g.told)

      same_text : text g.is ≡ t
      same_text = (judge_read (rooms xs ns) t g.is g.judged).same_text

      same : write_answer (length v) (length u) (lent plane_rows node_rows s.root) ≡ given t
      same = worked _ (refused 8) work ∙ ap (λ x. solid_then x (λ a. cond (leb (length (text a)) (length u)) (given (text a)) (refused 8))) again
          ∙ ap (λ x. cond (leb (length x) (length u)) (given x) (refused 8)) same_text ∙ ap (λ b. cond b (given t) (refused 8)) (le-leb (length t) (length u) room)

-- ---- written and read again

module _ {xs : List ℤ} {ns : List ℕ} {r n : ℕ} {u u' : List ℕ} {v v' : List ℤ} (h : WriteTold xs ns r u u' v v' (Ok n)) where
  pub written_read : {ys ys' : List ℤ} {ms ms' : List ℕ} {w w' : List ℤ} {j : Result Solid (ℕ × ℕ)} → ReadTold (take n u') ys ys' ms ms' w w' j → stated ≤ length w → length xs ≤ length ys → length ns ≤ length ms → (j ≡ Ok (record { planes = length xs / 4; nodes = length ns / 3; root = r })) × (ys' ≡ filled (pos 0) (length ys) xs) × (ms' ≡ filled 0 (length ms) ns)
  unfolding read_answer
  written_read {ys} {ys'} {ms} {ms'} {w} {w'} {j} k work px pn = by p.is (lent_taken xs ns r p.is p.judged) whole_text
    where
      p : Put xs ns r (length v) (length u) n
      p = put_given h.answer

      whole_text : take n u' ≡ text p.is
      whole_text = first 0 (length u) n (text p.is) u' (h.text ∙ ap (left 0 (length u) itself) p.told) (sym p.long)

      by : (a : Tables) → Flat a xs ns r × LawfulTables a → take n u' ≡ text a → (j ≡ Ok (record { planes = length xs / 4; nodes = length ns / 3; root = r })) × (ys' ≡ filled (pos 0) (length ys) xs) × (ms' ≡ filled 0 (length ms) ns)
      by (tables ps es q) (f, l) e = (
        k.answer ∙ ap judgement (worked _ (refusal 8 0) work ∙ taken) ∙ ap Ok (λ i. record { planes = sym rows i; nodes = sym lines i; root = sym f.root i }),
        k.planes ∙ ap (left (pos 0) (length ys) plane_numbers) same ∙ ap (filled (pos 0) (length ys)) (sym f.planes),
        k.nodes ∙ ap (left 0 (length ms) node_numbers) same ∙ ap (filled 0 (length ms)) (sym f.nodes),
      )
        where
          rows : length xs / 4 ≡ length ps
          rows = omega (arith, ap length f.planes, planes_count ps)

          lines : length ns / 3 ≡ length es
          lines = omega (arith, ap length f.nodes, nodes_count es)

          room : Roomy (rooms ys ms) (tables ps es q)
          room = subst T (sym (λ i. le-leb (length ps) (length ys / 4) (omega (arith, px, ap length f.planes, planes_count ps)) i and le-leb (length es) (length ms / 3) (omega (arith, pn, ap length f.nodes, nodes_count es)) i)) tt

          taken : judge (rooms ys ms) (take n u') ≡ accepted (tables ps es q)
          taken = ap (judge (rooms ys ms)) e ∙ judge_text (rooms ys ms) (tables ps es q) l room

          same : read_answer (length w) (rooms ys ms) (take n u') ≡ given (tables ps es q)
          same = worked _ (refused 8) work ∙ ap (λ v. solid_then v given) taken

-- ---- a refusal leaves zeros

no_entries : {A : Type 0} (o : A) (n : ℕ) → filled o n [] ≡ replicate n o
no_entries o n = ap (λ k. replicate k o) {x = n - 0} {y = n} (omega arith)

pub read_refusal : {t : List ℕ} {xs xs' : List ℤ} {ns ns' : List ℕ} {w w' : List ℤ} {k l : ℕ} → ReadTold t xs xs' ns ns' w w' (Err (k, l)) → (xs' ≡ replicate (length xs) (pos 0)) × (ns' ≡ replicate (length ns) 0) × (w' ≡ replicate (length w) (pos 0))
unfolding read_answer
read_refusal {t} {xs} {xs'} {ns} {ns'} {w} {w'} {k} {l} h = (h.planes ∙ ap (left (pos 0) (length xs) plane_numbers) no ∙ no_entries (pos 0) (length xs), h.nodes ∙ ap (left 0 (length ns) node_numbers) no ∙ no_entries 0 (length ns), h.work)
  where
    by : (b : Bool) (v : Verdict) → Err (k, l) ≡ judgement (cond b v (refusal 8 0)) → cond b (solid_then v given) (refused 8) ≡ refused k
    by false v e = ap refused (sym (same_number e))
    by true (accepted a) e = differ (cc e)
    by true (refusal n m) e = ap refused (sym (same_number e))

    no : read_answer (length w) (rooms xs ns) t ≡ refused k
    no = by (leb stated (length w)) (judge (rooms xs ns) t) h.answer

pub write_refusal : {xs : List ℤ} {ns : List ℕ} {r : ℕ} {t t' : List ℕ} {w w' : List ℤ} {k : ℕ} → WriteTold xs ns r t t' w w' (Err k) → (t' ≡ replicate (length t) 0) × (w' ≡ replicate (length w) (pos 0))
write_refusal {xs} {ns} {r} {t} {t'} {w} {w'} {k} h = (h.text ∙ ap (left 0 (length t) itself) (by (write_answer (length w) (length t) (lent xs ns r)) h.answer) ∙ no_entries 0 (length t), h.work)
  where
    by : (a : Answer (List ℕ)) → Err k ≡ wrote a → a ≡ refused k
    by (given x) e = differ (cc e)
    by (refused n) e = cc e

-- No refusal has the number 0, so 0 can stand for none.
--     judge_number, lent_number, order_number   of a text, of lent tables, of an order
--     merge_number, form_number, work_number    of a merge, of a normal form, and with a work table
use Rattle.std.specs.Prelude.{◌≡◌, Bool, true, false, cond, List, ℕ, ◌≤◌, leb, length}
use Rattle.std.proofs.Common.{arith}
use Rattle.whole.specs.Tests.{differ}
use Rattle.scope.specs.Limits.{most_planes}
use Rattle.scope.specs.Solids.{Tree, planes, ascending, Tables, tables_of}
use Rattle.scope.specs.Text.{Frame}
use Rattle.scope.specs.Judging.{Rooms, State, Verdict, refusal, judge, Lent, judge_lent, order_refused, judge_merge}
use Rattle.scope.specs.Answers.{Answer, given, refused, WithWork, short_work, enough_work, fits_rooms, tree_answer, MergeBy, no_operation, a_refused, b_refused, merged, FormBy, solid_refused, formed}
use Rattle.theory.specs.Text.Rules.{Why, malformed, not_due, over, bad_root, no_room, unlawful, not_after, bad_row, unused, outside}
use Rattle.theory.specs.Text.Refusals.{Fails, missing, bad_line, After, after_bad, after_any, Refused, too_long, in_solid, after_end, judge_refused}
use Rattle.theory.specs.Text.MergeInput.{OpeningRefused, no_line, not_operation, unknown, in_a, in_b, after_b, OrderRefused, order_too_long, in_lines, merge_refused}
use Rattle.theory.specs.Text.Lent.{lent_refused}

-- ---- lines

why_number : {s : Rooms} {c : State} {f : Frame} {n : ℕ} → Why s c f n → 1 ≤ n
why_number malformed = omega arith
why_number (not_due d b) = omega arith
why_number (over h) = omega arith
why_number (bad_root h k r) = omega arith
why_number (no_room h k r m) = omega arith
why_number (unlawful h) = omega arith
why_number (not_after h b) = omega arith
why_number (bad_row b) = omega arith
why_number (unused k h u) = omega arith
why_number (outside h) = omega arith

fails_number : {s : Rooms} {c : State} {fs : List Frame} {n : ℕ} → Fails s c fs n → 1 ≤ n
fails_number missing = omega arith
fails_number (bad_line w) = why_number w

after_number : {f : Frame} {n : ℕ} → After f n → 1 ≤ n
after_number after_bad = omega arith
after_number (after_any h) = omega arith

-- ---- verdicts

pub judge_number : (s : Rooms) (t : List ℕ) {n l : ℕ} → judge s t ≡ refusal n l → 1 ≤ n
judge_number s t {n} {l} e = by (judge_refused s t n l e)
  where
    by : {n l : ℕ} → Refused s t n l → 1 ≤ n
    by (too_long h) = omega arith
    by (in_solid h r) = fails_number r.fails
    by (after_end a h r d k) = after_number k

pub lent_number : (A : Lent) {n l : ℕ} → judge_lent A ≡ refusal n l → 1 ≤ n
lent_number A {n} {l} e = fails_number (lent_refused A.planes A.nodes A.root n l e).fails

pub order_number : (s : Rooms) (t : List ℕ) {n l : ℕ} → judge_merge s t ≡ order_refused n l → 1 ≤ n
order_number s t {n} {l} e = by (merge_refused s t n l e)
  where
    opening : {fs : List Frame} {n l : ℕ} → OpeningRefused s fs n l → 1 ≤ n
    opening no_line = omega arith
    opening (not_operation h k) = after_number k
    opening (unknown h) = omega arith
    opening (in_a t x) = fails_number x.fails
    opening (in_b a t y x) = fails_number x.fails
    opening (after_b a b t y z d k) = after_number k

    by : {n l : ℕ} → OrderRefused s t n l → 1 ≤ n
    by (order_too_long h) = omega arith
    by (in_lines h o) = opening o

-- ---- answers

tree_number : (s : Rooms) (t : Tree) {k : ℕ} → tree_answer s t ≡ refused k → 1 ≤ k
tree_number s t {k} e = by (fits_rooms s t) (leb (length (ascending (planes t))) most_planes) e
  where
    by : (b d : Bool) → cond b (cond d (given (tables_of t)) (refused 9)) (refused 8) ≡ refused k → 1 ≤ k
    by false d e = let f : ◌≡◌ {A = ℕ} 8 k = cc in omega (arith, f)
    by true false e = let f : ◌≡◌ {A = ℕ} 9 k = cc in omega (arith, f)
    by true true e = differ (cc)

same : {m k : ℕ} → 1 ≤ m → ◌≡◌ {A = Answer Tables} (refused m) (refused k) → 1 ≤ k
same {m} {k} h e = let f : m ≡ k = cc in omega (arith, f, h)

module _ {s : Rooms} where
  pub merge_number : {o : ℕ} {A B : Verdict} {a : Answer Tables} {k : ℕ} → ((n l : ℕ) → A ≡ refusal n l → 1 ≤ n) → ((n l : ℕ) → B ≡ refusal n l → 1 ≤ n) → MergeBy s o A B a → a ≡ refused k → 1 ≤ k
  merge_number f g (no_operation n) e = same (omega arith) e
  merge_number f g (a_refused {n = n} {l = l} k d) e = same (f n l d) e
  merge_number f g (b_refused {n = n} {l = l} a k d h) e = same (g n l h) e
  merge_number f g (merged x a b t i d h m) e = tree_number s t e

  pub form_number : {A : Verdict} {a : Answer Tables} {k : ℕ} → ((n l : ℕ) → A ≡ refusal n l → 1 ≤ n) → FormBy s A a → a ≡ refused k → 1 ≤ k
  form_number f (solid_refused {n = n} {l = l} d) e = same (f n l d) e
  form_number f (formed a t d n) e = tree_number s t e

pub work_number : {A : Type 0} {work : ℕ} {P : Answer A → Type 0} {a : Answer A} {k : ℕ} → ((b : Answer A) → P b → b ≡ refused k → 1 ≤ k) → WithWork work P a → a ≡ refused k → 1 ≤ k
work_number {A} {k = k} f (short_work n) e = let d : ◌≡◌ {A = ℕ} 8 k = cc in omega (arith, d)
work_number f (enough_work {r = r} t p) e = f r p e

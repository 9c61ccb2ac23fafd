-- A text that is refused: the first bad line decides, and the refusal's number says which rule that line broke.
--     RefusedAt, solid_refused, refused_solid     lines taken, then a line that fails, or none where one was due
--     After, after_number, after, after_one       text after the end
--     Refused, judge_refused, refused_judge, refused_one   a text is refused with a number at a line exactly if this holds, and with no other
use Rattle.std.specs.Prelude.{◌≡◌, refl, Bool, true, false, cond, not, List, [], ◌∷◌, ◌++◌, ◌≢◌, ℕ, suc, ◌+◌, ◌≤◌, ◌<◌, T, leb, length}
use Rattle.std.proofs.Common.{sym, ap, subst, ◌∙◌, arith, leb→le}
use Rattle.std.proofs.Math.Dec.{nleb→lt}
use Rattle.whole.specs.Tests.{differ, le_true, is_false}
use Rattle.scope.specs.Limits.{most_text}
use Rattle.scope.specs.Solids.{Tables}
use Rattle.scope.specs.Text.{Frame, bad, other, operation, head, plane, node_row, end, frames}
use Rattle.scope.specs.Judging.{Rooms, State, fresh, Step, go, done, stop, by_frame, step, Reading, read, refused, next, read_solid, refusal, finish, judge}
use Rattle.theory.specs.Text.Rules.{Why, why, stops}
use Rattle.theory.specs.Text.Reached.{Passed, none_yet, taken}
use Rattle.theory.specs.Text.Judge.{SolidRead, solid_read, solid_again, solid_line, lines_of}

-- ---- the first bad line

-- n is the number of a line's refusal, or 2 for a missing line
pub data Fails (s : Rooms) (c : State) : List Frame → ℕ → Type 0 where
  missing : Fails s c [] 2
  bad_line : {f : Frame} {fs : List Frame} {n : ℕ} → Why s c f n → Fails s c (f ∷ fs) n

-- the lines fs, from line k on, are refused with n at line l
pub record RefusedAt (s : Rooms) (c : State) (k : ℕ) (fs : List Frame) (n l : ℕ) : Type 0 where
  pub good : List Frame
  pub rest : List Frame
  pub state : State
  pub parts : fs ≡ good ++ rest
  pub passed : Passed s c good state
  pub line : l ≡ k + length good
  pub fails : Fails s state rest n

-- lines that are refused have a first line that fails, with that number
pub solid_refused : (s : Rooms) (c : State) (k : ℕ) (fs : List Frame) (n l : ℕ) → read_solid s c k fs ≡ refused n l → RefusedAt s c k fs n l
unfolding read_solid
solid_refused s c k [] n l e = let x : ◌≡◌ {A = ℕ} 2 n = cc in let y : k ≡ l = cc in record { good = []; rest = []; state = c; parts = refl; passed = none_yet; line = omega arith; fails = rw (sym x) missing }
solid_refused s c k (f ∷ fs) n l e = by (step s c f) refl e (λ c' h. solid_refused s c' (suc k) fs n l h)
  where
    more : (c' : State) → step s c f ≡ go c' → RefusedAt s c' (suc k) fs n l → RefusedAt s c k (f ∷ fs) n l
    more c' h x = record { good = f ∷ x.good; rest = x.rest; state = x.state; parts = ap (λ i. f ∷ i) x.parts; passed = taken h x.passed; line = omega (arith, x.line); fails = x.fails }

    by : (x : Step) → step s c f ≡ x → next x (λ c'. read_solid s c' (suc k) fs) k fs ≡ refused n l → ((c' : State) → read_solid s c' (suc k) fs ≡ refused n l → RefusedAt s c' (suc k) fs n l) → RefusedAt s c k (f ∷ fs) n l
    by (go c') h e r = more c' h (r c' e)
    by (done a) h e r = differ (cc)
    by (stop m) h e r = let x : m ≡ n = cc in let y : k ≡ l = cc in record { good = []; rest = f ∷ fs; state = c; parts = refl; passed = none_yet; line = omega arith; fails = bad_line (why s c f n (h ∙ ap stop x)) }

fails_read : {s : Rooms} {c : State} {fs : List Frame} {n : ℕ} (k : ℕ) → Fails s c fs n → read_solid s c k fs ≡ refused n k
unfolding read_solid
fails_read k missing = refl
fails_read {s} {c} {fs = f ∷ fs} k (bad_line w) = ap (λ x. next x (λ c'. read_solid s c' (suc k) fs) k fs) (stops w)

passed_read : {s : Rooms} {c d : State} {gs : List Frame} (k : ℕ) (fs : List Frame) → Passed s c gs d → read_solid s c k (gs ++ fs) ≡ read_solid s d (k + length gs) fs
unfolding read_solid
passed_read {s} {c} k fs none_yet = ap (λ i. read_solid s c i fs) (omega arith)
passed_read {s} {d = d} k fs (taken {f = f} {fs = gs} h r) =
    let z : suc k + length gs ≡ k + suc (length gs) = omega arith in
    ap (λ x. next x (λ c'. read_solid s c' (suc k) (gs ++ fs)) k (gs ++ fs)) h ∙ passed_read (suc k) fs r ∙ ap (λ i. read_solid s d i fs) z

-- and back
pub refused_solid : {s : Rooms} {c : State} {k : ℕ} {fs : List Frame} {n l : ℕ} → RefusedAt s c k fs n l → read_solid s c k fs ≡ refused n l
refused_solid {s} {c} {k} {n = n} x = ap (read_solid s c k) x.parts ∙ passed_read k x.rest x.passed ∙ fails_read (k + length x.good) x.fails ∙ ap (refused n) (sym x.line)

-- ---- text after the end

-- 1, else 2
pub data After : Frame → ℕ → Type 0 where
  after_bad : After bad 1
  after_any : {f : Frame} → f ≢ bad → After f 2

-- the number by which what follows the end is refused
abbrev pub after_number : Frame → ℕ
after_number f = by_frame (λ n. n) (λ c. 2) (λ n m r. 2) (λ p. 2) (λ e. 2) 2 f

-- it is the right one
pub after : (f : Frame) → After f (after_number f)
after bad = after_bad
after other = after_any {f = other} (λ i. differ (cc))
after (operation o) = after_any {f = operation o} (λ i. differ (cc))
after (head a b c) = after_any {f = head a b c} (λ i. differ (cc))
after (plane p) = after_any {f = plane p} (λ i. differ (cc))
after (node_row d) = after_any {f = node_row d} (λ i. differ (cc))
after end = after_any {f = end} (λ i. differ (cc))

-- it has one number
pub after_one : {f : Frame} {m n : ℕ} → After f m → After f n → m ≡ n
after_one after_bad after_bad = refl
after_one after_bad (after_any g) = absurd (g refl)
after_one (after_any g) after_bad = absurd (g refl)
after_one (after_any g) (after_any h) = refl

-- ---- a text

-- why a text is refused: its length; a line of the solid; text after the end
pub data Refused (s : Rooms) (t : List ℕ) : ℕ → ℕ → Type 0 where
  too_long : most_text < length t → Refused s t 3 0
  in_solid : {n l : ℕ} → length t ≤ most_text → RefusedAt s fresh 1 (frames t) n l → Refused s t n l
  after_end : {n l : ℕ} {f : Frame} {fs : List Frame} (a : Tables) → length t ≤ most_text → SolidRead s (frames t) a (f ∷ fs) → l ≡ 1 + lines_of a → After f n → Refused s t n l

-- a text that is refused breaks the rule of that number at that line, and none before
pub judge_refused : (s : Rooms) (t : List ℕ) (n l : ℕ) → judge s t ≡ refusal n l → Refused s t n l
unfolding judge
judge_refused s t n l = by (leb (length t) most_text) (leb→le (length t) most_text) (nleb→lt (length t) most_text)
  where
    finished : (x : Reading) → read_solid s fresh 1 (frames t) ≡ x → length t ≤ most_text → finish x ≡ refusal n l → Refused s t n l
    finished (read a k []) h i e = differ (cc)
    finished (read a k (f ∷ fs)) h i e =
        let x : after_number f ≡ n = cc in
        let y : k ≡ l = cc in
        after_end a i (solid_read s (frames t) 1 a k (f ∷ fs) h) (sym y ∙ solid_line s 1 (frames t) a k (f ∷ fs) h) (subst (After f) x (after f))
    finished (refused m k) h i e = let x : m ≡ n = cc in let y : k ≡ l = cc in in_solid i (solid_refused s fresh 1 (frames t) n l (h ∙ (λ j. refused (x j) (y j))))

    by : (b : Bool) → (T b → length t ≤ most_text) → (T (not b) → most_text < length t) → cond b (finish (read_solid s fresh 1 (frames t))) (refusal 3 0) ≡ refusal n l → Refused s t n l
    by true f g e = finished (read_solid s fresh 1 (frames t)) refl (f tt) e
    by false f g e = let x : ◌≡◌ {A = ℕ} 3 n = cc in let y : ◌≡◌ {A = ℕ} 0 l = cc in rw (sym x, sym y) (too_long (g tt))

-- a text that does is refused so
pub refused_judge : (s : Rooms) (t : List ℕ) (n l : ℕ) → Refused s t n l → judge s t ≡ refusal n l
unfolding judge
refused_judge s t n l (too_long h) = rw (is_false (leb (length t) most_text) (λ b. omega (arith, leb→le (length t) most_text b))) refl
refused_judge s t n l (in_solid h x) = rw (le_true (length t) most_text h) (ap finish (refused_solid x))
refused_judge s t n l (after_end {f = f} a h x d k) =
    rw (le_true (length t) most_text h) (ap finish (solid_again 1 x) ∙ (λ i. refusal (after_one (after f) k i) (sym d i)))

-- so a text has one number and one line
pub refused_one : {s : Rooms} {t : List ℕ} {m k n l : ℕ} → Refused s t m k → Refused s t n l → (m ≡ n) × (k ≡ l)
refused_one {s} {t} {m} {k} {n} {l} a b =
    let x = refused_judge s t m k a in
    let y = refused_judge s t n l b in
    (cc, cc)

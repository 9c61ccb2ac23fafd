-- The merge program's input: the operation, A and B in one text.
--     operation_of, operation_known       the known operation codes are those of the three operations
--     order_text, order_length            its text, and that it is within the limit
--     merge_written                       written and read again: the same
--     OrderRead, merge_read               read and written again: the same text
--     OrderRefused, merge_refused, refused_merge   a text is refused exactly if its first bad line breaks the rule of that number
use Rattle.std.specs.Prelude.{◌≡◌, refl, Bool, true, false, cond, not, List, [], ◌∷◌, ◌≢◌, ℕ, zero, suc, ◌+◌, ◌≤◌, ◌<◌, T, leb, length}
use Rattle.std.proofs.Common.{sym, ap, subst, ◌∙◌, arith, leb→le}
use Rattle.std.proofs.Math.Dec.{nleb→lt}
use Rattle.whole.specs.Tests.{is_true, is_false, true_is, le_true, differ, and_split}
use Rattle.whole.specs.Lists.{Each, Each.none, Each.◌and◌}
use Rattle.scope.specs.Limits.{most_text}
use Rattle.scope.specs.Cells.{Operation, union, intersection, difference}
use Rattle.scope.specs.Solids.{Tables, tables}
use Rattle.scope.specs.Text.{Frame, bad, other, operation, head, plane, node_row, end, frames, bytes, written, solid_frames, operation_code}
use Rattle.scope.specs.Judging.{Rooms, fresh, Reading, read, refused, read_solid, Verdict, accepted, refusal, finish, order, order_refused, second, first, known, with_operation, opening, judge_merge}
use Rattle.theory.specs.Text.Frames.{Fits, fits_operation, frames_written}
use Rattle.theory.specs.Text.Trees.{LawfulTables}
use Rattle.theory.specs.Text.Sizes.{writable, solid_fits, written_cons, solid_length}
use Rattle.theory.specs.Text.Judge.{Roomy, lines_of, SolidRead, solid_read, solid_reads, solid_again, solid_line, finish_accepted, frames_text}
use Rattle.theory.specs.Text.Refusals.{RefusedAt, solid_refused, refused_solid, After, after_number, after, after_one}

-- ---- operations

-- a known code is that of an operation
pub operation_of : (o : ℕ) → T (known o) → (x : Operation) × (operation_code x ≡ o)
unfolding known
operation_of zero t = absurd (and_split (leb 1 0) (leb 0 3) t).0
operation_of (suc zero) t = (union, refl)
operation_of (suc (suc zero)) t = (intersection, refl)
operation_of (suc (suc (suc zero))) t = (difference, refl)
operation_of (suc (suc (suc (suc o)))) t = let u = and_split (leb 1 (suc (suc (suc (suc o))))) (leb (suc (suc (suc (suc o)))) 3) t in absurd (omega (arith, leb→le (suc (suc (suc (suc o)))) 3 u.1))

-- and back
pub operation_one : (x y : Operation) → operation_code x ≡ operation_code y → x ≡ y
operation_one union union e = refl
operation_one union intersection e = absurd (omega arith)
operation_one union difference e = absurd (omega arith)
operation_one intersection union e = absurd (omega arith)
operation_one intersection intersection e = refl
operation_one intersection difference e = absurd (omega arith)
operation_one difference union e = absurd (omega arith)
operation_one difference intersection e = absurd (omega arith)
operation_one difference difference e = refl

pub operation_known : (x : Operation) → T (known (operation_code x))
unfolding known
operation_known union = tt
operation_known intersection = tt
operation_known difference = tt

known_small : (o : ℕ) → T (known o) → o < 256
unfolding known
known_small o t = let u = and_split (leb 1 o) (leb o 3) t in omega (arith, leb→le o 3 u.1)

-- ---- the text of an operation and two solids

unfoldable pub order_frames : ℕ → Tables → Tables → List Frame
order_frames o a b = operation o ∷ solid_frames a (solid_frames b [])

unfoldable pub order_text : ℕ → Tables → Tables → List ℕ
order_text o a b = written (order_frames o a b)

-- a known operation and two lawful solids that fit
pub record LawfulOrder (s : Rooms) (o : ℕ) (a b : Tables) : Type 0 where
  pub operation_known : T (known o)
  pub lawful_a : LawfulTables a
  pub lawful_b : LawfulTables b
  pub room_a : Roomy s a
  pub room_b : Roomy s b

order_fits : {s : Rooms} {o : ℕ} {a b : Tables} → LawfulOrder s o a b → Each Fits (order_frames o a b)
unfolding order_frames
order_fits {o = o} {a = a} {b = b} h = fits_operation (known_small o h.operation_known) and solid_fits a (solid_frames b []) (writable a h.lawful_a) (solid_fits b [] (writable b h.lawful_b) none)

operation_bytes : (o : ℕ) → length (bytes (operation o)) ≡ 2
unfolding bytes
operation_bytes o = refl

none_written : length (written []) ≡ 0
unfolding written
none_written = refl

-- the largest is 28,981 bytes
pub order_length : (o : ℕ) (a b : Tables) → LawfulTables a → LawfulTables b → length (order_text o a b) ≤ 28981
unfolding order_text order_frames
order_length o (tables ps es r) (tables qs ds u) h k = omega (arith, written_cons (operation o) (solid_frames (tables ps es r) (solid_frames (tables qs ds u) [])), operation_bytes o, solid_length ps es r (solid_frames (tables qs ds u) []), solid_length qs ds u [], none_written, h.few_planes, h.few_rows, k.few_planes, k.few_rows)

-- ---- written, then read

order_read : (s : Rooms) (o : ℕ) (a b : Tables) → LawfulOrder s o a b → opening s (order_frames o a b) ≡ order o a b
unfolding opening order_frames
order_read s o a b h = ap (λ x. with_operation s x o (solid_frames a (solid_frames b []))) (is_true (known o) h.operation_known)
    ∙ ap (first s o) (solid_reads s a 2 (solid_frames b []) h.lawful_a h.room_a)
    ∙ ap (λ x. second o a (finish x)) (solid_reads s b (2 + lines_of a) [] h.lawful_b h.room_b)

text_frames : (o : ℕ) (a b : Tables) → Each Fits (order_frames o a b) → frames (order_text o a b) ≡ order_frames o a b
unfolding order_text
text_frames o a b h = frames_written h

-- the text of an operation and two lawful solids that fit is read as they are
pub merge_written : (s : Rooms) (o : ℕ) (a b : Tables) → LawfulOrder s o a b → judge_merge s (order_text o a b) ≡ order o a b
unfolding judge_merge
merge_written s o a b h =
    rw (le_true (length (order_text o a b)) most_text (omega (arith, order_length o a b h.lawful_a h.lawful_b)))
    (ap (opening s) (text_frames o a b (order_fits h)) ∙ order_read s o a b h)

-- ---- read, then written

-- the first line is an operation, or refused
data First (f : Frame) : Type 0 where
  an_operation : (o : ℕ) → f ≡ operation o → First f
  no_operation : ((o : ℕ) → f ≢ operation o) → ((s : Rooms) (fs : List Frame) → opening s (f ∷ fs) ≡ order_refused (after_number f) 1) → First f

first_line : (f : Frame) → First f
unfolding opening
first_line bad = no_operation (λ o e. differ (cc)) (λ s fs. refl)
first_line other = no_operation (λ o e. differ (cc)) (λ s fs. refl)
first_line (operation o) = an_operation o refl
first_line (head n m r) = no_operation (λ o e. differ (cc)) (λ s fs. refl)
first_line (plane p) = no_operation (λ o e. differ (cc)) (λ s fs. refl)
first_line (node_row e) = no_operation (λ o e. differ (cc)) (λ s fs. refl)
first_line end = no_operation (λ o e. differ (cc)) (λ s fs. refl)

record Opened (s : Rooms) (fs : List Frame) (o : ℕ) (a b : Tables) : Type 0 where
  lawful : LawfulOrder s o a b
  frames_are : fs ≡ order_frames o a b

second_is : (o p : ℕ) (a a' b : Tables) (v : Verdict) → second p a' v ≡ order o a b → (p ≡ o) × (a' ≡ a) × (v ≡ accepted b)
second_is o p a a' b (accepted b') e = (cc, cc, cc)
second_is o p a a' b (refusal n l) e = differ (cc)

first_is : (s : Rooms) (o p : ℕ) (a b : Tables) (fs : List Frame) (x : Reading) → T (known p) → read_solid s fresh 2 fs ≡ x → first s p x ≡ order o a b → Opened s (operation p ∷ fs) o a b
unfolding order_frames
first_is s o p a b fs (read a' k gs) t h e =
    let u = second_is o p a a' b (finish (read_solid s fresh k gs)) e in
    let v = finish_accepted (read_solid s fresh k gs) b u.2 in
    let w = solid_read s gs k b v.0 [] v.1 in
    let y = solid_read s fs 2 a' k gs h in
    record {
      lawful = record { operation_known = subst (λ i. T (known i)) u.0 t; lawful_a = subst LawfulTables u.1 y.lawful; lawful_b = w.lawful; room_a = subst (Roomy s) u.1 y.room; room_b = w.room };
      frames_are = λ i. operation (u.0 i) ∷ (y.frames_are ∙ (λ j. solid_frames (u.1 j) (w.frames_are j))) i;
    }
first_is s o p a b fs (refused n l) t h e = differ (cc)

opened : (s : Rooms) (fs : List Frame) (o : ℕ) (a b : Tables) → opening s fs ≡ order o a b → Opened s fs o a b
unfolding opening
opened s [] o a b e = differ (cc)
opened s (f ∷ fs) o a b e = by (first_line f)
  where
    at : (p : ℕ) (c : Bool) → known p ≡ c → with_operation s c p fs ≡ order o a b → Opened s (operation p ∷ fs) o a b
    at p true h e = first_is s o p a b fs (read_solid s fresh 2 fs) (true_is (known p) h) refl e
    at p false h e = differ (cc)

    by : First f → Opened s (f ∷ fs) o a b
    by (an_operation p d) = rw d (at p (known p) refl (rw d at e))
    by (no_operation h k) = differ (cc (k s fs))

-- the text t is that of o, a and b
pub record OrderRead (s : Rooms) (t : List ℕ) (o : ℕ) (a b : Tables) : Type 0 where
  pub lawful : LawfulOrder s o a b
  pub same_text : order_text o a b ≡ t

-- a text that is read is the text of what is read, which is lawful
pub merge_read : (s : Rooms) (t : List ℕ) (o : ℕ) (a b : Tables) → judge_merge s t ≡ order o a b → OrderRead s t o a b
unfolding judge_merge order_text
merge_read s t o a b = by (leb (length t) most_text)
  where
    by : (c : Bool) → cond c (opening s (frames t)) (order_refused 3 0) ≡ order o a b → OrderRead s t o a b
    by false e = differ (cc)
    by true e = let x = opened s (frames t) o a b e in record { lawful = x.lawful; same_text = frames_text t (order_frames o a b) x.frames_are (order_fits x.lawful) }

-- ---- refused

-- of the lines, after the length was judged
pub data OpeningRefused (s : Rooms) : List Frame → ℕ → ℕ → Type 0 where
  no_line : OpeningRefused s [] 2 1
  not_operation : {f : Frame} {fs : List Frame} {n : ℕ} → ((o : ℕ) → f ≢ operation o) → After f n → OpeningRefused s (f ∷ fs) n 1
  unknown : {o : ℕ} {fs : List Frame} → ¬ T (known o) → OpeningRefused s (operation o ∷ fs) 7 1
  in_a : {o n l : ℕ} {fs : List Frame} → T (known o) → RefusedAt s fresh 2 fs n l → OpeningRefused s (operation o ∷ fs) n l
  in_b : {o n l : ℕ} {fs gs : List Frame} (a : Tables) → T (known o) → SolidRead s fs a gs → RefusedAt s fresh (2 + lines_of a) gs n l → OpeningRefused s (operation o ∷ fs) n l
  after_b : {o n l : ℕ} {f : Frame} {fs gs hs : List Frame} (a b : Tables) → T (known o) → SolidRead s fs a gs → SolidRead s gs b (f ∷ hs) → l ≡ 2 + lines_of a + lines_of b → After f n → OpeningRefused s (operation o ∷ fs) n l

second_refused : (s : Rooms) (o : ℕ) (fs gs : List Frame) (a : Tables) (n l : ℕ) → T (known o) → SolidRead s fs a gs → (x : Reading) → read_solid s fresh (2 + lines_of a) gs ≡ x → second o a (finish x) ≡ order_refused n l → OpeningRefused s (operation o ∷ fs) n l
second_refused s o fs gs a n l t y (read b k []) h e = differ (cc)
second_refused s o fs gs a n l t y (read b k (f ∷ hs)) h e =
    let u : after_number f ≡ n = cc in
    let v : k ≡ l = cc in
    after_b a b t y (solid_read s gs (2 + lines_of a) b k (f ∷ hs) h) (sym v ∙ solid_line s (2 + lines_of a) gs b k (f ∷ hs) h) (subst (After f) u (after f))
second_refused s o fs gs a n l t y (refused m k) h e = let u : m ≡ n = cc in let v : k ≡ l = cc in in_b a t y (solid_refused s fresh (2 + lines_of a) gs n l (h ∙ (λ j. refused (u j) (v j))))

first_refused : (s : Rooms) (o : ℕ) (fs : List Frame) (n l : ℕ) → T (known o) → (x : Reading) → read_solid s fresh 2 fs ≡ x → first s o x ≡ order_refused n l → OpeningRefused s (operation o ∷ fs) n l
first_refused s o fs n l t (read a k gs) h e =
    let d = solid_line s 2 fs a k gs h in
    second_refused s o fs gs a n l t (solid_read s fs 2 a k gs h) (read_solid s fresh (2 + lines_of a) gs) refl (subst (λ i. second o a (finish (read_solid s fresh i gs)) ≡ order_refused n l) d e)
first_refused s o fs n l t (refused m k) h e = let u : m ≡ n = cc in let v : k ≡ l = cc in in_a t (solid_refused s fresh 2 fs n l (h ∙ (λ j. refused (u j) (v j))))

numbered : {s : Rooms} {fs : List Frame} (m k n l : ℕ) → order_refused m k ≡ order_refused n l → OpeningRefused s fs m k → OpeningRefused s fs n l
numbered {s} {fs} m k n l e x = let u : m ≡ n = cc in let v : k ≡ l = cc in subst (λ i. OpeningRefused s fs i l) u (subst (λ i. OpeningRefused s fs m i) v x)

opening_refused : (s : Rooms) (fs : List Frame) (n l : ℕ) → opening s fs ≡ order_refused n l → OpeningRefused s fs n l
unfolding opening
opening_refused s [] n l e = numbered 2 1 n l e no_line
opening_refused s (f ∷ fs) n l e = by (first_line f)
  where
    at : (o : ℕ) (c : Bool) → known o ≡ c → with_operation s c o fs ≡ order_refused n l → OpeningRefused s (operation o ∷ fs) n l
    at o true h e = first_refused s o fs n l (true_is (known o) h) (read_solid s fresh 2 fs) refl e
    at o false h e = numbered 7 1 n l e (unknown (λ t. subst T h t))

    by : First f → OpeningRefused s (f ∷ fs) n l
    by (an_operation o d) = rw d (at o (known o) refl (rw d at e))
    by (no_operation h k) = numbered (after_number f) 1 n l (sym (k s fs) ∙ e) (not_operation h (after f))

-- of the whole text
pub data OrderRefused (s : Rooms) (t : List ℕ) : ℕ → ℕ → Type 0 where
  order_too_long : most_text < length t → OrderRefused s t 3 0
  in_lines : {n l : ℕ} → length t ≤ most_text → OpeningRefused s (frames t) n l → OrderRefused s t n l

-- a text that is refused breaks the rule of that number at that line, and none before
pub merge_refused : (s : Rooms) (t : List ℕ) (n l : ℕ) → judge_merge s t ≡ order_refused n l → OrderRefused s t n l
unfolding judge_merge
merge_refused s t n l = by (leb (length t) most_text) (leb→le (length t) most_text) (nleb→lt (length t) most_text)
  where
    by : (c : Bool) → (T c → length t ≤ most_text) → (T (not c) → most_text < length t) → cond c (opening s (frames t)) (order_refused 3 0) ≡ order_refused n l → OrderRefused s t n l
    by true f g e = in_lines (f tt) (opening_refused s (frames t) n l e)
    by false f g e = let x : ◌≡◌ {A = ℕ} 3 n = cc in let y : ◌≡◌ {A = ℕ} 0 l = cc in rw (sym x, sym y) (order_too_long (g tt))

-- and the other way about

opening_is : {s : Rooms} {fs : List Frame} {n l : ℕ} → OpeningRefused s fs n l → opening s fs ≡ order_refused n l
unfolding opening
opening_is no_line = refl
opening_is {s} {fs = f ∷ fs} {n} (not_operation h k) = by (first_line f)
  where
    by : First f → opening s (f ∷ fs) ≡ order_refused n 1
    by (an_operation o d) = absurd (h o d)
    by (no_operation _ e) = e s fs ∙ ap (λ i. order_refused i 1) (after_one (after f) k)
opening_is {s} (unknown {o = o} {fs = fs} h) = ap (λ c. with_operation s c o fs) (is_false (known o) h)
opening_is {s} (in_a {o = o} {fs = fs} t x) = ap (λ c. with_operation s c o fs) (is_true (known o) t) ∙ ap (first s o) (refused_solid x)
opening_is {s} (in_b {o = o} {fs = fs} a t y x) = ap (λ c. with_operation s c o fs) (is_true (known o) t) ∙ ap (first s o) (solid_again 2 y) ∙ ap (λ x. second o a (finish x)) (refused_solid x)
opening_is {s} (after_b {o = o} {f = f} {fs = fs} a b t y z d k) =
    ap (λ c. with_operation s c o fs) (is_true (known o) t) ∙ ap (first s o) (solid_again 2 y) ∙ ap (λ x. second o a (finish x)) (solid_again (2 + lines_of a) z) ∙ (λ i. order_refused (after_one (after f) k i) (sym d i))

-- a text that does is refused so
pub refused_merge : (s : Rooms) (t : List ℕ) (n l : ℕ) → OrderRefused s t n l → judge_merge s t ≡ order_refused n l
unfolding judge_merge
refused_merge s t n l (order_too_long h) = rw (is_false (leb (length t) most_text) (λ b. omega (arith, leb→le (length t) most_text b))) refl
refused_merge s t n l (in_lines h x) = rw (le_true (length t) most_text h) (opening_is x)

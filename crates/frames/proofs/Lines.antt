-- One line of a text, by the places of its characters: what `line_at` meets is the first frame of the text from its place on.
--     Digits                                     the characters from one place up to another are digits
--     whole_line, bad_line                       up to LF, an even number of digits and not none; or another line with a character that is no digit
--     torn_line, line_missing                    a rest without LF; no text
use mathlib.Core.Path.{◌≡◌, refl, sym, ap, subst, ◌∙◌}
use mathlib.Core.List.{List, [], ◌∷◌, ◌++◌, append-nil}
use mathlib.Core.Bool.{Bool, true, false}
use mathlib.Core.Logic.{◌≢◌}
use mathlib.Core.Option.{Option, none, some}
use Prim.Native.Nat.{ℕ, zero, suc, ◌+◌, ◌-◌, ◌*◌, ◌/◌, ◌%◌, ◌≤◌, ◌<◌}
use native.Mathlib.Nat.{add-zero}
use native.Mathlib.Omega.{arith}
use lib.ListN.{length, get_or, take, drop, drop_of_length-le, length-drop}
use lib.Dec.{eqb}
use Rattle.std.specs.Prelude.{Some, None}
use Rattle.std.specs.Bool.{Decides}
use Rattle.std.proofs.lemmas.Bool.Decides.{Decides-eqb}
use Rattle.std.proofs.lemmas.List.{get_or-drop}
use lib.Seq.{drop-cons, take-length}
use Rattle.whole.specs.Tests.{differ, eq_false}
use Rattle.scope.specs.Text.{digit, pair, pairs, Line, whole, torn, put, lines, content, frame, frame_or, each, frames}
use Rattle.theory.specs.Text.Lines.{NoLF, nil, cons, lines_whole, lines_torn, malformed_content}
use Rattle.theory.specs.Text.Frames.{bad_malformed}
use Rattle.frames.specs.Bytes.{nibble_of, byte_of, bytes_of}
use Rattle.frames.specs.Promises.{OtherTold, BadFirst, WholeLine}
use Rattle.frames.proofs.Digits.{digit_is, digit_not_lf}

-- ---- content

-- an odd number of characters
pairs_odd : (l : List ℕ) → length l % 2 ≡ 1 → pairs l ≡ none
unfolding pairs
pairs_odd [] h = differ (omega arith)
pairs_odd (c ∷ []) h = refl
pairs_odd (c ∷ d ∷ l) h = ap (λ o. pair (digit c) (digit d) o) (pairs_odd l (omega arith)) ∙ by (digit c) (digit d)
  where
    by : (x y : Option ℕ) → pair x y none ≡ none
    by none y = refl
    by (some n) none = refl
    by (some n) (some m) = refl

-- some character is no digit
data NoDigit : List ℕ → Type 0 where
  at_first : {c : ℕ} {l : List ℕ} → digit c ≡ none → NoDigit (c ∷ l)
  later : {c : ℕ} {l : List ℕ} → NoDigit l → NoDigit (c ∷ l)

pairs_no_digit : {l : List ℕ} → NoDigit l → pairs l ≡ none
unfolding pairs
pairs_no_digit (at_first {c = c} {l = []} e) = refl
pairs_no_digit (at_first {c = c} {l = d ∷ l} e) = ap (λ o. pair o (digit d) (pairs l)) e
pairs_no_digit (later {c = c} (at_first {c = d} {l = l} e)) = ap (λ o. pair (digit c) o (pairs l)) e ∙ by (digit c)
  where
    by : (x : Option ℕ) → pair x none (pairs l) ≡ none
    by none = refl
    by (some n) = refl
pairs_no_digit (later {c = c} (later {c = d} {l = l} h)) = ap (λ o. pair (digit c) (digit d) o) (pairs_no_digit h) ∙ by (digit c) (digit d)
  where
    by : (x y : Option ℕ) → pair x y none ≡ none
    by none y = refl
    by (some n) none = refl
    by (some n) (some m) = refl

content_pairs : (l : List ℕ) → 0 < length l → content (whole l) ≡ pairs l
unfolding content
content_pairs [] h = absurd (omega arith)
content_pairs (c ∷ l) h = refl

-- ---- lines whose first is refused with 1

data BadLine : List Line → Type 0 where
  unread : {l : List ℕ} {ls : List Line} → NoDigit l → BadLine (whole l ∷ ls)
  without_lf : {l : List ℕ} {ls : List Line} → BadLine (torn l ∷ ls)

bad_put : (c : ℕ) {ls : List Line} → BadLine ls → BadLine (put c ls)
bad_put c (unread h) = unread (later h)
bad_put c without_lf = without_lf

bad_here : (c : ℕ) (ls : List Line) → digit c ≡ none → BadLine (put c ls)
bad_here c [] e = without_lf
bad_here c (whole l ∷ ls) e = unread (at_first e)
bad_here c (torn l ∷ ls) e = without_lf

bad_lines : {l : List ℕ} (c : ℕ) (t : List ℕ) → NoLF l → digit c ≡ none → c ≢ 10 → BadLine (lines (l ++ c ∷ t))
unfolding lines
bad_lines c t nil e h = rw (eq_false c 10 h) (bad_here c (lines t) e)
bad_lines c t (cons {c = d} k r) e h = rw (eq_false d 10 k) (bad_put d (bad_lines c t r e h))

bad_first : (ls : List Line) → BadLine ls → BadFirst (each ls)
unfolding content
bad_first [] h = elim h [ ]
bad_first (whole [] ∷ ls) h = record { rest = each ls; is = refl }
bad_first (whole (c ∷ l) ∷ ls) (unread h) = record { rest = each ls; is = ap (λ o. frame_or o ∷ each ls) (pairs_no_digit h) }
bad_first (torn l ∷ ls) h = record { rest = each ls; is = refl }

torn_first : (l : List ℕ) → NoLF l → 0 < length l → BadFirst (each (lines (l ++ [])))
torn_first [] n h = absurd (omega arith)
torn_first (c ∷ l) n h = rw (append-nil (c ∷ l), lines_torn n) (bad_first (torn (c ∷ l) ∷ []) without_lf)

-- ---- by places

module _ (t : List ℕ) where
  abbrev chars : ℕ → ℕ → List ℕ
  chars at zero = []
  chars at (suc j) = get_or t at 0 ∷ chars (suc at) j

  chars_length : (at j : ℕ) → length (chars at j) ≡ j
  chars_length at zero = refl
  chars_length at (suc j) = ap suc (chars_length (suc at) j)

  drop_chars : (at j : ℕ) → at + j ≤ length t → drop at t ≡ chars at j ++ drop (at + j) t
  drop_chars at zero h = rw add-zero
  drop_chars at (suc j) h =
      let e : suc at + j ≡ at + suc j = omega arith in
      drop-cons t at 0 (omega arith) ∙ ap (λ l. get_or t at 0 ∷ l) (drop_chars (suc at) j (omega arith) ∙ ap (λ n. chars (suc at) j ++ drop n t) e)

  abbrev Digits : ℕ → ℕ → Type 0
  Digits at i = (k : ℕ) → at ≤ k → k < i → digit (get_or t k 0) ≡ some (nibble_of (get_or t k 0))

  chars_no_lf : (at j : ℕ) → Digits at (at + j) → NoLF (chars at j)
  chars_no_lf at zero d = nil
  chars_no_lf at (suc j) d = cons (digit_not_lf (get_or t at 0) (d at (omega arith) (omega arith))) (chars_no_lf (suc at) j (λ k h l. d k (omega arith) (omega arith)))

  -- two characters a byte
  chars_pairs : (at k n : ℕ) → Digits (at + 2 * k) (at + 2 * k + 2 * n) → pairs (chars (at + 2 * k) (2 * n)) ≡ some (bytes_of t at k n)
  unfolding pairs byte_of
  chars_pairs at k zero d = refl
  chars_pairs at k (suc n) d =
      let a : ℕ = at + 2 * k in
      let e : 2 * suc n ≡ suc (suc (2 * n)) = omega arith in
      let f : suc (suc (at + 2 * k)) ≡ at + 2 * suc k = omega arith in
      let g : suc (at + 2 * k) ≡ at + 2 * k + 1 = omega arith in
      let p : pairs (chars (suc (suc (at + 2 * k))) (2 * n)) ≡ some (bytes_of t at (suc k) n) = ap (λ m. pairs (chars m (2 * n))) f ∙ chars_pairs at (suc k) n (λ m h l. d m (omega arith) (omega arith)) in
      let hi = d (at + 2 * k) (omega arith) (omega arith) in
      let lo = d (suc (at + 2 * k)) (omega arith) (omega arith) in
      ap (λ m. pairs (chars (at + 2 * k) m)) e ∙ (λ i. pair (hi i) (lo i) (p i)) ∙ ap (λ m. some ((nibble_of (get_or t (at + 2 * k) 0) * 16 + nibble_of (get_or t m 0)) ∷ bytes_of t at (suc k) n)) g

-- n digits from `at` on
module _ (t : List ℕ) (at n : ℕ) (d : Digits t at (at + n)) where
  -- and LF after them
  module _ (l : at + n < length t) (e : get_or t (at + n) 0 ≡ 10) where
    first_line : frames (drop at t) ≡ frame_or (content (whole (chars t at n))) ∷ frames (drop (suc (at + n)) t)
    unfolding frames
    first_line =
        let r : drop (at + n) t ≡ 10 ∷ drop (suc (at + n)) t = drop-cons t (at + n) 0 l ∙ ap (λ c. c ∷ drop (suc (at + n)) t) e in
        ap (λ m. each (lines m)) (drop_chars t at n (omega arith) ∙ ap (λ m. chars t at n ++ m) r) ∙ ap each (lines_whole (drop (suc (at + n)) t) (chars_no_lf t at n d))

    line_empty : n ≡ 0 → BadFirst (frames (drop at t))
    unfolding content
    line_empty z = record { rest = frames (drop (suc (at + n)) t); is = first_line ∙ ap (λ m. frame_or (content (whole (chars t at m))) ∷ frames (drop (suc (at + n)) t)) z }

    line_odd : n % 2 ≡ 1 → BadFirst (frames (drop at t))
    line_odd o =
        let m : length (chars t at n) ≡ n = chars_length t at n in
        record { rest = frames (drop (suc (at + n)) t); is = first_line ∙ ap (λ x. frame_or x ∷ frames (drop (suc (at + n)) t)) (content_pairs (chars t at n) (omega arith) ∙ pairs_odd (chars t at n) (omega arith)) }

    line_whole : (m : ℕ) → n ≡ 2 * m → 0 < m → WholeLine t at m
    line_whole m z s =
        let q : at ≡ at + 2 * 0 = omega arith in
        let d' : Digits t (at + 2 * 0) (at + 2 * 0 + 2 * m) = λ k u v. d k (omega arith) (omega arith) in
        let c : content (whole (chars t at n)) ≡ some (bytes_of t at 0 m) =
        content_pairs (chars t at n) (omega (arith, chars_length t at n)) ∙ ap (λ k. pairs (chars t at k)) z ∙ ap (λ a. pairs (chars t a (2 * m))) q ∙ chars_pairs t at 0 m d' in
        let e' : suc (at + n) ≡ at + (2 * m + 1) = omega arith in
        record {
          reads = record {
            first = first_line ∙ ap (λ o. frame_or o ∷ frames (drop (suc (at + n)) t)) c ∙ ap (λ k. frame (bytes_of t at 0 m) ∷ frames (drop k t)) e';
            place = refl;
            inside = omega arith;
          };
          some = s;
          good = λ b. let o : content (whole (chars t at n)) ≡ none = malformed_content (bad_malformed (whole (chars t at n)) (ap frame_or c ∙ b)) in differ (cc);
        }

  line_unread : at + n < length t → digit (get_or t (at + n) 0) ≡ none → get_or t (at + n) 0 ≢ 10 → BadFirst (frames (drop at t))
  unfolding frames
  line_unread l e f =
      let w : drop at t ≡ chars t at n ++ get_or t (at + n) 0 ∷ drop (suc (at + n)) t = drop_chars t at n (omega arith) ∙ ap (λ m. chars t at n ++ m) (drop-cons t (at + n) 0 l) in
      rw w (bad_first (lines (chars t at n ++ get_or t (at + n) 0 ∷ drop (suc (at + n)) t)) (bad_lines (get_or t (at + n) 0) (drop (suc (at + n)) t) (chars_no_lf t at n d) e f))

  line_torn : at + n ≡ length t → 0 < n → BadFirst (frames (drop at t))
  unfolding frames
  line_torn e f =
      let w : drop at t ≡ chars t at n ++ [] = drop_chars t at n (omega arith) ∙ ap (λ m. chars t at n ++ m) (drop_of_length-le t {i = at + n} (omega arith)) in
      rw w (torn_first (chars t at n) (chars_no_lf t at n d) (omega (arith, chars_length t at n)))

-- ---- by the first character that is no digit, in the rest of the text as the code takes it

abbrev pub rest : List ℕ → ℕ → List ℕ
rest t at = take (length t - at) (drop at t)

rest_is : (t : List ℕ) (at : ℕ) → rest t at ≡ drop at t
rest_is t at = ap (λ n. take n (drop at t)) (sym (length-drop at t)) ∙ take-length (drop at t)

module _ (t : List ℕ) (at : ℕ) where
  rest_length : length (rest t at) ≡ length t - at
  rest_length = ap length (rest_is t at) ∙ length-drop at t

  rest_here : (n : ℕ) → get_or (rest t at) n 0 ≡ get_or t (at + n) 0
  rest_here n = ap (λ u. get_or u n 0) (rest_is t at) ∙ get_or-drop at t n 0

  rest_digits : (n : ℕ) → ((k : ℕ) → k < n → digit (get_or (rest t at) k 0) ≢ none) → Digits t at (at + n)
  rest_digits n h k l m =
      let e : at + (k - at) ≡ k = omega arith in
      digit_is (get_or t k 0) (subst (λ c. digit c ≢ none) (rest_here (k - at) ∙ ap (λ i. get_or t i 0) e) (h (k - at) (omega arith)))

  module _ {n : ℕ} (o : OtherTold (rest t at) (Some n)) where
    inside : at + n < length t
    inside = omega (arith, o.0, rest_length)

    pub whole_line : get_or (rest t at) n 0 ≡ 10 → 0 < n → n % 2 ≡ 0 → WholeLine t at (n / 2)
    whole_line e s m = line_whole t at n (rest_digits n o.2) inside (sym (rest_here n) ∙ e) (n / 2) (omega arith) (omega arith)

    pub bad_line : (get_or (rest t at) n 0 ≡ 10 → 0 < n → n % 2 ≡ 1) → BadFirst (frames (drop at t))
    bad_line h = by (eqb c 10) refl n refl
      where
        c : ℕ
        c = get_or t (at + n) 0

        is : Decides (eqb c 10) (c ≡ 10)
        is = Decides-eqb c 10

        by : (b : Bool) → eqb c 10 ≡ b → (m : ℕ) → n ≡ m → BadFirst (frames (drop at t))
        by false b m e = line_unread t at n (rest_digits n o.2) inside (ap digit (sym (rest_here n)) ∙ o.1) (λ z. let q = is.1 z in differ (cc))
        by true b zero e = line_empty t at n (rest_digits n o.2) inside (is.0 b) e
        by true b (suc m) e = line_odd t at n (rest_digits n o.2) inside (is.0 b) (h (rest_here n ∙ is.0 b) (omega arith))

  pub torn_line : OtherTold (rest t at) None → 0 < length (rest t at) → BadFirst (frames (drop at t))
  torn_line o l = line_torn t at (length (rest t at)) (rest_digits (length (rest t at)) o) (omega (arith, rest_length)) l

  pub line_missing : length (rest t at) ≡ 0 → frames (drop at t) ≡ []
  unfolding frames lines
  line_missing h = rw (drop_of_length-le t {i = at} (omega (arith, rest_length)))

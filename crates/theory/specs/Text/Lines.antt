-- Lines: a text is its lines joined again, and a line is refused with 1 exactly if it is malformed.
--     unline, unline_lines                  the lines of a text, joined, are the text
--     NoLF, lines_whole, lines_torn         what a loop over lines meets: a line up to its LF, or a rest without LF
--     lines_line                            a line written is a line
--     Malformed, content_malformed, malformed_content   refusal 1 in the table's words
use Rattle.std.specs.Prelude.{◌≡◌, refl, Bool, true, false, List, [], ◌∷◌, ◌++◌, ◌≢◌, ℕ, ◌/◌, ◌%◌, T, eqb}
use Rattle.std.proofs.Common.{ap, ◌∙◌, append_assoc, eqb→eq}
use Rattle.std.proofs.Math.Option.{none}
use Rattle.whole.specs.Tests.{eq_false}
use Rattle.scope.specs.Text.{hexes, Line, whole, torn, put, add, lines, content, line}
use Rattle.theory.specs.Text.Hex.{hex_lf, Unread, pairs_unread, unread_pairs}

-- ---- joined again

-- lines, joined
unfoldable pub unline : List Line → List ℕ
unline [] = []
unline (whole l ∷ ls) = l ++ 10 ∷ unline ls
unline (torn l ∷ ls) = l ++ unline ls

unline_put : (c : ℕ) (ls : List Line) → unline (put c ls) ≡ c ∷ unline ls
unfolding unline
unline_put c [] = refl
unline_put c (whole l ∷ ls) = refl
unline_put c (torn l ∷ ls) = refl

-- the lines of a text, joined, are the text
pub unline_lines : (t : List ℕ) → unline (lines t) ≡ t
unfolding unline lines
unline_lines [] = refl
unline_lines (c ∷ t) = go (eqb c 10) (eqb→eq c 10) (unline_lines t)
  where
    go : (b : Bool) → (T b → c ≡ 10) → unline (lines t) ≡ t → unline (add b c (lines t)) ≡ c ∷ t
    go true f e = cc (f tt)
    go false f e = unline_put c (lines t) ∙ ap (λ l. c ∷ l) e

-- ---- one line

-- no character is LF
pub data NoLF : List ℕ → Type 0 where
  nil : NoLF []
  cons : {c : ℕ} {l : List ℕ} → c ≢ 10 → NoLF l → NoLF (c ∷ l)

-- a line is what stands before the next LF
pub lines_whole : {l : List ℕ} (t : List ℕ) → NoLF l → lines (l ++ 10 ∷ t) ≡ whole l ∷ lines t
unfolding lines
lines_whole t nil = refl
lines_whole t (cons {c = c} {l = l} h r) = rw (eq_false c 10 h, lines_whole t r)

-- a rest without LF is a torn line
pub lines_torn : {c : ℕ} {l : List ℕ} → NoLF (c ∷ l) → lines (c ∷ l) ≡ torn (c ∷ l) ∷ []
unfolding lines
lines_torn (cons {c = c} h nil) = rw (eq_false c 10 h)
lines_torn (cons {c = c} h (cons {c = d} {l = l} k r)) = rw (eq_false c 10 h) (ap (put c) (lines_torn (cons k r)))

hexes_lf : (bs : List ℕ) → NoLF (hexes bs)
unfolding hexes
hexes_lf [] = nil
hexes_lf (b ∷ bs) = cons (hex_lf (b / 16)) (cons (hex_lf (b % 16)) (hexes_lf bs))

-- a line written before a text is the first line of both
pub lines_line : (bs t : List ℕ) → lines (line bs ++ t) ≡ whole (hexes bs) ∷ lines t
unfolding line
lines_line bs t = rw append_assoc (lines_whole t (hexes_lf bs))

-- ---- refusal 1

-- the table's words: an odd or empty line, a character other than 0-9, A-F, a last line without LF
pub data Malformed : Line → Type 0 where
  empty : Malformed (whole [])
  unread : {l : List ℕ} → Unread l → Malformed (whole l)
  without_lf : {l : List ℕ} → Malformed (torn l)

-- a line with no content is malformed
pub content_malformed : (l : Line) → content l ≡ none → Malformed l
unfolding content
content_malformed (whole []) e = empty
content_malformed (whole (c ∷ l)) e = unread (pairs_unread (c ∷ l) e)
content_malformed (torn l) e = without_lf

-- and back
pub malformed_content : {l : Line} → Malformed l → content l ≡ none
unfolding content
malformed_content empty = refl
malformed_content without_lf = refl
malformed_content (unread {l = []} u) = elim u [ ]
malformed_content (unread {l = c ∷ l} u) = unread_pairs u

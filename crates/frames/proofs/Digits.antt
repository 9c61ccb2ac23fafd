-- Characters and bytes: what a digit that was read is, and how large it is.
use mathlib.Core.Path.{◌≡◌, refl, ap, ◌∙◌}
use mathlib.Core.Bool.{Bool, true, false, cond}
use mathlib.Core.List.{List, ◌∷◌, map}
use mathlib.Core.Logic.{◌≢◌}
use mathlib.Core.Option.{Option, none, some}
use Prim.Native.Nat.{ℕ, zero, suc, ◌+◌, ◌-◌, ◌<◌}
use native.Mathlib.Omega.{arith}
use lib.Dec.{T, ltb, ltb→lt}
use lib.ListN.{length, get_or}
use Rattle.std.specs.List.{range_with_len}
use Rattle.std.specs.Option.{is_none}
use Rattle.std.proofs.lemmas.List.FromFn.{fill_by_all}
use Rattle.whole.specs.Tests.{differ}
use Rattle.scope.specs.Text.{digit}
use Rattle.frames.specs.Bytes.{digit_answer, value_or, nibble_of, byte_of, bytes_of}

-- a digit is below 16
pub nibble_small : (c : ℕ) → nibble_of c < 16
unfolding nibble_of digit
nibble_small c = go (ltb c 48) (ltb c 58) (ltb c 65) (ltb c 71) (ltb→lt c 58) (ltb→lt c 71)
  where
    go : (b₁ b₂ b₃ b₄ : Bool) → (T b₂ → c < 58) → (T b₄ → c < 71) → value_or (cond b₁ none (cond b₂ (some (c - 48)) (cond b₃ none (cond b₄ (some (c - 55)) none)))) < 16
    go true b₂ b₃ b₄ f g = omega arith
    go false true b₃ b₄ f g = omega (arith, f tt)
    go false false true b₄ f g = omega arith
    go false false false true f g = omega (arith, g tt)
    go false false false false f g = omega arith

-- the value of a digit, and of a character that is none
pub digit_is : (c : ℕ) → digit c ≢ none → digit c ≡ some (nibble_of c)
unfolding nibble_of
digit_is c h = by (digit c) refl
  where
    by : (o : Option ℕ) → digit c ≡ o → digit c ≡ some (value_or (digit c))
    by none e = absurd (h e)
    by (some n) e = rw e refl

-- LF is no digit
lf_none : digit 10 ≡ none
unfolding digit
lf_none = refl

pub digit_not_lf : (c : ℕ) {n : ℕ} → digit c ≡ some n → c ≢ 10
digit_not_lf c {n} e h = let z : digit c ≡ none = ap digit h ∙ lf_none in differ (cc)

-- ---- bytes, one after the other

bytes_range : (t : List ℕ) (at k n : ℕ) → map (byte_of t at) (range_with_len k n) ≡ bytes_of t at k n
bytes_range t at k zero = refl
bytes_range t at k (suc n) = let e : k + 1 ≡ suc k = omega arith in ap (λ l. byte_of t at k ∷ l) (ap (λ j. map (byte_of t at) (range_with_len j n)) e ∙ bytes_range t at (suc k) n)

-- a table of them
pub bytes_filled : (t : List ℕ) (at n : ℕ) (bs : List ℕ) → length bs ≡ n → ((k : ℕ) → k < n → get_or bs k 0 ≡ byte_of t at k) → bs ≡ bytes_of t at 0 n
bytes_filled t at n bs l h = fill_by_all (byte_of t at) bs n 0 l h ∙ bytes_range t at 0 n

-- ---- whether a character is a digit

pub other_true : (c : ℕ) → is_none (digit_answer (digit c)) ≡ true → digit c ≡ none
other_true c e = by (digit c) e
  where
    by : (o : Option ℕ) → is_none (digit_answer o) ≡ true → o ≡ none
    by none e = refl
    by (some n) e = differ (cc)

pub other_false : (c : ℕ) → is_none (digit_answer (digit c)) ≡ false → digit c ≢ none
other_false c e = by (digit c) e
  where
    by : (o : Option ℕ) → is_none (digit_answer o) ≡ false → o ≢ none
    by none e h = differ (cc)
    by (some n) e h = differ (cc)

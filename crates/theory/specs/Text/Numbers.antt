-- Numbers of two and of four bytes, unsigned and signed: written are read, and read are written.
--     word_of, word_parts                   two bytes are a word, and a word is two bytes
--     long_of, long_parts                   two words
--     Half, signed_unsigned, unsigned_signed, unsigned_small   two's complement: -h to h-1 are 0 to 2h-1
use Rattle.std.specs.Prelude.{◌≡◌, refl, Bool, true, false, cond, not, ℕ, ◌+◌, ◌-◌, ◌≤◌, ◌<◌, T, ltb, ℤ, pos, negsuc}
use Rattle.std.proofs.Common.{ap, arith, ltb→lt, nltb→le}
use Rattle.whole.specs.Tests.{lt_true, lt_false}
use Rattle.scope.specs.Text.{word, high, low, long, high_word, low_word, signed, unsigned}

-- ---- unsigned

-- two bytes, read, then written
pub word_of : (a b : ℕ) → a < 256 → b < 256 → (high (word a b) ≡ a) × (low (word a b) ≡ b) × (word a b < 65536)
unfolding word high low
word_of a b h k = (omega arith, omega arith, omega arith)

-- written, then read
pub word_parts : (n : ℕ) → n < 65536 → (word (high n) (low n) ≡ n) × (high n < 256) × (low n < 256)
unfolding word high low
word_parts n h = (omega arith, omega arith, omega arith)

-- two words, read, then written
pub long_of : (a b : ℕ) → a < 65536 → b < 65536 → (high_word (long a b) ≡ a) × (low_word (long a b) ≡ b) × (long a b < 4294967296)
unfolding long high_word low_word
long_of a b h k = (omega arith, omega arith, omega arith)

-- written, then read
pub long_parts : (n : ℕ) → n < 4294967296 → (long (high_word n) (low_word n) ≡ n) × (high_word n < 65536) × (low_word n < 65536)
unfolding long high_word low_word
long_parts n h = (omega arith, omega arith, omega arith)

-- ---- signed

-- -h to h-1
abbrev pub Half : ℕ → ℤ → Type 0
Half h (pos n) = n < h
Half h (negsuc n) = n < h

-- written, then read
pub signed_unsigned : (h : ℕ) (z : ℤ) → Half h z → signed h (unsigned h z) ≡ z
unfolding signed unsigned
signed_unsigned h (pos n) k = rw (lt_true n h k)
signed_unsigned h (negsuc n) k = rw (lt_false (h + h - 1 - n) h (omega arith)) (ap negsuc (omega arith))

-- what is written fits
pub unsigned_small : (h : ℕ) (z : ℤ) → Half h z → unsigned h z < h + h
unfolding unsigned
unsigned_small h (pos n) k = omega arith
unsigned_small h (negsuc n) k = omega arith

-- read, then written
pub unsigned_signed : (h u : ℕ) → u < h + h → unsigned h (signed h u) ≡ u
unfolding signed unsigned
unsigned_signed h u k = go (ltb u h) (ltb→lt u h) (nltb→le u h)
  where
    go : (b : Bool) → (T b → u < h) → (T (not b) → h ≤ u) → unsigned h (cond b (pos u) (negsuc (h + h - 1 - u))) ≡ u
    go true f g = refl
    go false f g = let l = g tt in omega arith

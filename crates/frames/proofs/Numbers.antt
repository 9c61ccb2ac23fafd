-- Two's complement: the bits of a number of two or of four bytes, as the code and as the definitions have them.
--     signed_2, signed_4        the number of given bits
--     unsigned_2, unsigned_4    and the bits of a number
--     bytes_2, bytes_4          the bytes of bits, the high byte first
use mathlib.Core.Path.{◌≡◌, refl, ap, ◌∙◌}
use mathlib.Core.Bool.{cond}
use mathlib.Core.List.{[], ◌∷◌}
use Prim.Native.Nat.{ℕ, ◌/◌, ◌%◌, ◌<◌}
use native.Mathlib.Omega.{arith}
use lib.Dec.{ltb}
use lib.IntN.{ℤ, pos, negsuc}
use lib.Signed.{mag}
use mir.Syntax.{w64}
use mir.Val.{to_z, of_z}
use mir.Facts.{to_z-of_z}
use Rattle.std.specs.Int.{w16, w32, cast_signed, cast_unsigned, to_be_bytes}
use Rattle.scope.specs.Text.{high, low, high_word, low_word, word_bytes, signed, unsigned}

pub signed_2 : (u : ℕ) → cast_signed w16 u ≡ signed 32768 u
unfolding signed
signed_2 u = ap (λ n. cond (ltb u 32768) (pos u) (negsuc n)) (omega arith)

pub signed_4 : (u : ℕ) → cast_signed w32 u ≡ signed 2147483648 u
unfolding signed
signed_4 u = ap (λ n. cond (ltb u 2147483648) (pos u) (negsuc n)) (omega arith)

pub unsigned_2 : (z : ℤ) → cast_unsigned w16 z ≡ unsigned 32768 z
unfolding unsigned
unsigned_2 (pos n) = refl
unsigned_2 (negsuc n) = omega arith

pub unsigned_4 : (z : ℤ) → cast_unsigned w32 z ≡ unsigned 2147483648 z
unfolding unsigned
unsigned_4 (pos n) = refl
unsigned_4 (negsuc n) = omega arith

pub bytes_2 : (n : ℕ) → n < 65536 → to_be_bytes w16 n ≡ word_bytes n []
unfolding high low
bytes_2 n h = ap (λ k. k ∷ n % 256 ∷ []) (omega arith)

pub bytes_4 : (n : ℕ) → n < 4294967296 → to_be_bytes w32 n ≡ word_bytes (high_word n) (word_bytes (low_word n) [])
unfolding high low high_word low_word
bytes_4 n h =
    let p : n / 16777216 % 256 ≡ n / 65536 / 256 = omega arith in
    let q : n / 65536 % 256 ≡ n / 65536 % 256 = refl in
    let r : n / 256 % 256 ≡ n % 65536 / 256 = omega arith in
    let s : n % 256 ≡ n % 65536 % 256 = omega arith in
    λ i. p i ∷ n / 65536 % 256 ∷ r i ∷ s i ∷ []

-- ---- a number that was read from its bytes and handed on

pub read_2 : {x y : ℤ} (u : ℕ) → mag x < 32768 → mag y < 9223372036854775808 → x ≡ cast_signed w16 u → y ≡ to_z w16 (of_z w16 x) → to_z w64 (of_z w64 y) ≡ signed 32768 u
read_2 {x = x} {y = y} u f g p q = to_z-of_z {w = w64} {z = y} (record { sfits = g }) ∙ q ∙ to_z-of_z {w = w16} {z = x} (record { sfits = f }) ∙ p ∙ signed_2 u

pub read_4 : {x y : ℤ} {v : ℕ} (u : ℕ) → mag x < 2147483648 → mag y < 9223372036854775808 → x ≡ cast_signed w32 u → u ≡ v → y ≡ to_z w32 (of_z w32 x) → to_z w64 (of_z w64 y) ≡ signed 2147483648 v
read_4 {x = x} {y = y} u f g p e q = to_z-of_z {w = w64} {z = y} (record { sfits = g }) ∙ q ∙ to_z-of_z {w = w32} {z = x} (record { sfits = f }) ∙ p ∙ signed_4 u ∙ ap (signed 2147483648) e

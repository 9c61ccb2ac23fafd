-- Capital hexadecimal: bytes written are the bytes read, and characters read are the characters written.
--     Bytes, pairs_hexes, hexes_pairs              two characters a byte, one way only
--     Hexadecimal, Unread, pairs_unread, unread_pairs   what cannot be read: an odd number of characters, or one other than 0-9, A-F
--     hex_lf                                       no character written is LF
use Rattle.std.specs.Prelude.{◌≡◌, refl, Bool, true, false, cond, not, List, [], ◌∷◌, ◌≢◌, ℕ, ◌+◌, ◌-◌, ◌*◌, ◌/◌, ◌%◌, ◌≤◌, ◌<◌, T, ltb}
use Rattle.std.proofs.Common.{ap, ◌∙◌, arith, ltb→lt, nltb→le}
use Rattle.std.proofs.Math.Option.{Option, none, some}
use Rattle.whole.specs.Tests.{lt_true, lt_false}
use Rattle.scope.specs.Text.{digit, hex, pair, pairs, hexes}

-- ---- digits

-- 0-9 or A-F
pub data Hexadecimal (c : ℕ) : Type 0 where
  decimal : 48 ≤ c → c ≤ 57 → Hexadecimal c
  letter : 65 ≤ c → c ≤ 70 → Hexadecimal c

-- the character c stands for a digit, or is none
data Read (c : ℕ) : Option ℕ → Type 0 where
  is_digit : {n : ℕ} → Hexadecimal c → hex n ≡ c → n < 16 → Read c (some n)
  no_digit : ¬ Hexadecimal c → Read c none

read : (c : ℕ) → Read c (digit c)
unfolding digit hex
read c = go (ltb c 48) (ltb c 58) (ltb c 65) (ltb c 71) (ltb→lt c 48) (nltb→le c 48) (ltb→lt c 58) (nltb→le c 58) (ltb→lt c 65) (nltb→le c 65) (ltb→lt c 71) (nltb→le c 71)
  where
    none_of : (48 ≤ c → c ≤ 57 → ⊥) → (65 ≤ c → c ≤ 70 → ⊥) → ¬ Hexadecimal c
    none_of f g (decimal h k) = f h k
    none_of f g (letter h k) = g h k

    go : (b₁ b₂ b₃ b₄ : Bool) → (T b₁ → c < 48) → (T (not b₁) → 48 ≤ c) → (T b₂ → c < 58) → (T (not b₂) → 58 ≤ c) → (T b₃ → c < 65) → (T (not b₃) → 65 ≤ c) → (T b₄ → c < 71) → (T (not b₄) → 71 ≤ c)
        → Read c (cond b₁ none (cond b₂ (some (c - 48)) (cond b₃ none (cond b₄ (some (c - 55)) none))))
    go true b₂ b₃ b₄ f₁ g₁ f₂ g₂ f₃ g₃ f₄ g₄ = let k = f₁ tt in no_digit (none_of (λ h j. omega arith) (λ h j. omega arith))
    go false true b₃ b₄ f₁ g₁ f₂ g₂ f₃ g₃ f₄ g₄ = let k = g₁ tt in let l = f₂ tt in is_digit {n = c - 48} (decimal k (omega arith)) (rw (lt_true (c - 48) 10 (omega arith)) (omega arith)) (omega arith)
    go false false true b₄ f₁ g₁ f₂ g₂ f₃ g₃ f₄ g₄ = let k = g₂ tt in let l = f₃ tt in no_digit (none_of (λ h j. omega arith) (λ h j. omega arith))
    go false false false true f₁ g₁ f₂ g₂ f₃ g₃ f₄ g₄ = let k = g₃ tt in let l = f₄ tt in is_digit {n = c - 55} (letter k (omega arith)) (rw (lt_false (c - 55) 10 (omega arith)) (omega arith)) (omega arith)
    go false false false false f₁ g₁ f₂ g₂ f₃ g₃ f₄ g₄ = let k = g₄ tt in no_digit (none_of (λ h j. omega arith) (λ h j. omega arith))

digit_hex : (n : ℕ) → n < 16 → digit (hex n) ≡ some n
unfolding digit hex
digit_hex n h = go (ltb n 10) (ltb→lt n 10) (nltb→le n 10)
  where
    go : (b : Bool) → (T b → n < 10) → (T (not b) → 10 ≤ n) → digit (cond b (48 + n) (55 + n)) ≡ some n
    go true f g = let k = f tt in rw (lt_false (48 + n) 48 (omega arith), lt_true (48 + n) 58 (omega arith)) (ap some (omega arith))
    go false f g = let k = g tt in rw (lt_false (55 + n) 48 (omega arith), lt_false (55 + n) 58 (omega arith), lt_false (55 + n) 65 (omega arith), lt_true (55 + n) 71 (omega arith)) (ap some (omega arith))

-- no character written is LF
pub hex_lf : (n : ℕ) → hex n ≢ 10
unfolding hex
hex_lf n = go (ltb n 10)
  where
    go : (b : Bool) → cond b (48 + n) (55 + n) ≢ 10
    go true e = omega arith
    go false e = omega arith

-- ---- pairs

-- each below 256
pub data Bytes : List ℕ → Type 0 where
  nil : Bytes []
  cons : {b : ℕ} {bs : List ℕ} → b < 256 → Bytes bs → Bytes (b ∷ bs)

-- written, then read
pub pairs_hexes : {bs : List ℕ} → Bytes bs → pairs (hexes bs) ≡ some bs
unfolding pairs hexes
pairs_hexes nil = refl
pairs_hexes (cons {b = b} {bs = bs} h r) = rw (digit_hex (b / 16) (omega arith), digit_hex (b % 16) (omega arith), pairs_hexes r) (ap (λ n. some (n ∷ bs)) (omega arith))

-- an odd number of characters, or a character other than 0-9, A-F
pub data Unread : List ℕ → Type 0 where
  odd : {c : ℕ} → Unread (c ∷ [])
  bad_first : {c d : ℕ} {l : List ℕ} → ¬ Hexadecimal c → Unread (c ∷ d ∷ l)
  bad_second : {c d : ℕ} {l : List ℕ} → ¬ Hexadecimal d → Unread (c ∷ d ∷ l)
  later : {c d : ℕ} {l : List ℕ} → Unread l → Unread (c ∷ d ∷ l)

-- characters are the bytes bs, written, or cannot be read
data Paired (l : List ℕ) : Option (List ℕ) → Type 0 where
  paired : {bs : List ℕ} → hexes bs ≡ l → Bytes bs → Paired l (some bs)
  unpaired : Unread l → Paired l none

paired_all : (l : List ℕ) → Paired l (pairs l)
unfolding pairs hexes
paired_all [] = paired refl nil
paired_all (c ∷ []) = unpaired odd
paired_all (c ∷ d ∷ l) = go (read c) (read d) (paired_all l)
  where
    go : {x y : Option ℕ} {z : Option (List ℕ)} → Read c x → Read d y → Paired l z → Paired (c ∷ d ∷ l) (pair x y z)
    go (no_digit h) y z = unpaired (bad_first h)
    go (is_digit h i j) (no_digit k) z = unpaired (bad_second k)
    go (is_digit h i j) (is_digit k m n) (unpaired u) = unpaired (later u)
    go (is_digit {n = a} h i j) (is_digit {n = b} k m n) (paired {bs = bs} e r) =
        let u : hex ((a * 16 + b) / 16) ≡ c = ap hex (omega arith) ∙ i in
        let v : hex ((a * 16 + b) % 16) ≡ d = ap hex (omega arith) ∙ m in
        paired {bs = (a * 16 + b) ∷ bs} (cc) (cons {b = a * 16 + b} (omega arith) r)

-- read, then written
pub hexes_pairs : (l bs : List ℕ) → pairs l ≡ some bs → (hexes bs ≡ l) × Bytes bs
hexes_pairs l bs e = go (rw e at (paired_all l))
  where
    go : Paired l (some bs) → (hexes bs ≡ l) × Bytes bs
    go (paired h r) = (h, r)

-- what is not read is an odd number of characters, or has one that is no digit
pub pairs_unread : (l : List ℕ) → pairs l ≡ none → Unread l
pairs_unread l e = go (rw e at (paired_all l))
  where
    go : Paired l none → Unread l
    go (unpaired u) = u

digit_none : (c : ℕ) → ¬ Hexadecimal c → digit c ≡ none
digit_none c h = go (read c)
  where
    go : {o : Option ℕ} → Read c o → o ≡ none
    go (is_digit k i j) = absurd (h k)
    go (no_digit k) = refl

-- and back
pub unread_pairs : {l : List ℕ} → Unread l → pairs l ≡ none
unfolding pairs
unread_pairs odd = refl
unread_pairs (bad_first {c = c} {d = d} {l = l} h) = ap (λ o. pair o (digit d) (pairs l)) (digit_none c h)
unread_pairs (bad_second {c = c} {d = d} {l = l} h) = ap (λ o. pair (digit c) o (pairs l)) (digit_none d h) ∙ by (digit c)
  where
    by : (x : Option ℕ) → pair x none (pairs l) ≡ none
    by none = refl
    by (some n) = refl
unread_pairs (later {c = c} {d = d} {l = l} u) = ap (λ o. pair (digit c) (digit d) o) (unread_pairs u) ∙ by (digit c) (digit d)
  where
    by : (x y : Option ℕ) → pair x y none ≡ none
    by none y = refl
    by (some n) none = refl
    by (some n) (some m) = refl

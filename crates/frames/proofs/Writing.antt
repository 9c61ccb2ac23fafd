-- Bytes written one after the other are written together.
--     put_none, put_more, put_lf   no byte, one byte more, and LF after all of them
--     stored                       the numbers of a row
--     head_fits .. plane_fits      numbers that fit their bytes
use mathlib.Core.Path.{◌≡◌, refl, sym, ap, subst, ◌∙◌}
use mathlib.Core.List.{List, [], ◌∷◌, ◌++◌}
use Prim.Native.Nat.{ℕ, suc, ◌+◌, ◌*◌, ◌/◌, ◌%◌, ◌^◌, ◌≤◌, ◌<◌}
use native.Mathlib.Nat.{add-zero}
use native.Mathlib.Omega.{arith}
use lib.IntN.{ℤ, pos, negsuc}
use lib.Signed.{mag}
use mir.Syntax.{Width, w16, w32, w64}
use mir.Val.{SFits, hbits, to_z, of_z}
use mir.Facts.{to_z-of_z}
use lib.ListN.{length, get_or, take, drop, set, length-append}
use lib.Seq.{sets, sets-eq}
use borrow.Rule.Slice.PartMut.{put_mid}
use Rattle.std.proofs.Common.{append_assoc}
use Rattle.std.proofs.lemmas.List.{drop-drop, take_more, take_all, length-take-le}
use Rattle.scope.specs.Planes.{Plane}
use Rattle.scope.specs.Solids.{entry}
use Rattle.scope.specs.Text.{hex, hexes, line, word_bytes, high_word, low_word, unsigned, bytes, head, plane, node_row}
use Rattle.theory.specs.Text.Frames.{Fits, fits_head, fits_plane, fits_node}
use Rattle.theory.specs.Text.Numbers.{Half, unsigned_small}
use Rattle.std.specs.Int.{to_be_bytes}
use Rattle.frames.specs.Promises.{Wrote}
use Rattle.frames.proofs.Numbers.{unsigned_2, unsigned_4, bytes_2, bytes_4}

sets_append : (xs : List ℕ) (l : List ℕ) (i : ℕ) (ys : List ℕ) → sets (sets l i xs) (i + length xs) ys ≡ sets l i (xs ++ ys)
sets_append [] l i ys = rw add-zero
sets_append (x ∷ xs) l i ys = ap (λ n. sets (sets (set l i x) (suc i) xs) n ys) (omega arith) ∙ sets_append xs (set l i x) (suc i) ys

hexes_append : (ds bs : List ℕ) → hexes (ds ++ bs) ≡ hexes ds ++ hexes bs
unfolding hexes
hexes_append [] bs = refl
hexes_append (a ∷ ds) bs = ap (λ l. hex (a / 16) ∷ hex (a % 16) ∷ l) (hexes_append ds bs)

hexes_length : (ds : List ℕ) → length (hexes ds) ≡ 2 * length ds
unfolding hexes
hexes_length [] = refl
hexes_length (a ∷ ds) = omega (arith, hexes_length ds)

module _ (t : List ℕ) (at : ℕ) (bs : List ℕ) where
  pub put_none : t ≡ sets t at (hexes (take 0 bs))
  unfolding hexes
  put_none = refl

  -- one more byte
  pub put_more : (k : ℕ) {t₁ t₂ : List ℕ} → k < length bs → t₁ ≡ sets t at (hexes (take k bs)) → t₂ ≡ sets t₁ (at + 2 * k) (hexes (get_or bs k 0 ∷ [])) → t₂ ≡ sets t at (hexes (take (k + 1) bs))
  put_more k h e f =
      let ds = take k bs in
      let b = get_or bs k 0 ∷ [] in
      let n : 2 * k ≡ length (hexes ds) = omega (arith, hexes_length ds, length-take-le k bs (omega arith)) in
      f ∙ (λ i. sets (e i) (at + n i) (hexes b)) ∙ sets_append (hexes ds) t at (hexes b) ∙ ap (sets t at) (sym (hexes_append ds b) ∙ ap hexes (sym (take_more bs k 0 h)))

  -- and LF after them
  pub put_lf : {k : ℕ} {t₁ : List ℕ} → length bs ≤ k → t₁ ≡ sets t at (hexes (take k bs)) → Wrote t (set t₁ (at + 2 * length bs) 10) at (line bs) (2 * length bs + 1) (at + 2 * length bs + 1)
  unfolding line
  put_lf {k} h e =
      let n : 2 * length bs ≡ length (hexes bs) = omega (arith, hexes_length bs) in
      let e' = e ∙ ap (λ ds. sets t at (hexes ds)) (take_all k bs h) in
      record {
        text = (λ i. sets (e' i) (at + n i) (10 ∷ [])) ∙ sets_append (hexes bs) t at (10 ∷ []);
        long = length-append (hexes bs) (10 ∷ []) ∙ ap (λ n. n + 1) (hexes_length bs);
        place = omega arith;
      }

-- ---- numbers stored one after the other, as a part of a table

pub stored : (l : List ℕ) (i k : ℕ) {ys vs : List ℕ} → ys ≡ vs → i + length vs ≤ length l → k ≡ length vs → put_mid i k l ys ≡ sets l i vs
stored l i k {vs = vs} e h m = rw (e, m) (ap (λ r. take i l ++ (vs ++ r)) (drop-drop (length vs) i l) ∙ sym (append_assoc (take i l) vs (drop (i + length vs) l)) ∙ sym (sets-eq vs l i h))

-- ---- numbers that fit

pub head_fits : {n m r : ℕ} → Fits (head n m r) → (n < 256) × (m < 65536) × (r < 65536)
head_fits (fits_head h k l) = (h, k, l)

pub node_fits : {n f b : ℕ} → Fits (node_row (entry n f b)) → (n < 256) × (f < 65536) × (b < 65536)
node_fits (fits_node h k l) = (h, k, l)

pub plane_fits : {p : Plane} → Fits (plane p) → Half 32768 p.x × Half 32768 p.y × Half 32768 p.z × Half 2147483648 p.w
plane_fits (fits_plane h k l m) = (h, k, l, m)

-- ---- a line whose numbers were taken apart into bytes

pub put_words : {t t' : List ℕ} {at next : ℕ} (k n : ℕ) {m r : ℕ} {ms rs : List ℕ} → ms ≡ to_be_bytes w16 m → rs ≡ to_be_bytes w16 r → m < 65536 → r < 65536
    → Wrote t t' at (line (k ∷ n ∷ get_or ms 0 0 ∷ get_or ms 1 0 ∷ get_or rs 0 0 ∷ get_or rs 1 0 ∷ [])) 13 next → Wrote t t' at (line (k ∷ n ∷ word_bytes m (word_bytes r []))) 13 next
put_words {t = t} {t' = t'} {at = at} {next = next} k n {m = m} {r = r} e f h l w =
    let p = e ∙ bytes_2 m h in
    let q = f ∙ bytes_2 r l in
    subst (λ bs. Wrote t t' at (line (k ∷ n ∷ bs)) 13 next) (λ i. get_or (p i) 0 0 ∷ get_or (p i) 1 0 ∷ get_or (q i) 0 0 ∷ get_or (q i) 1 0 ∷ []) w

-- the bytes of a coefficient, of two and of four
half_fits : (w : Width) (h : ℕ) (z : ℤ) → Half h z → h ≡ 2 ^ hbits w → SFits w z
half_fits w h (pos n) l e = record { sfits = omega arith }
half_fits w h (negsuc n) l e = record { sfits = omega arith }

pub put_axis : {bs : List ℕ} (z : ℤ) → bs ≡ to_be_bytes w16 (of_z w16 (to_z w16 (of_z w16 (to_z w64 (of_z w64 z))))) → mag z < 9223372036854775808 → Half 32768 z → bs ≡ word_bytes (unsigned 32768 z) []
put_axis z e m h =
    let k = ap (λ x. to_z w16 (of_z w16 x)) (to_z-of_z {w = w64} {z = z} (record { sfits = m })) ∙ to_z-of_z {w = w16} {z = z} (half_fits w16 32768 z h refl) in
    e ∙ ap (λ x. to_be_bytes w16 (of_z w16 x)) k ∙ ap (to_be_bytes w16) (unsigned_2 z) ∙ bytes_2 (unsigned 32768 z) (unsigned_small 32768 z h)

pub put_far : {bs : List ℕ} (z : ℤ) → bs ≡ to_be_bytes w32 (of_z w32 (to_z w32 (of_z w32 (to_z w64 (of_z w64 z))))) → mag z < 9223372036854775808 → Half 2147483648 z
    → bs ≡ word_bytes (high_word (unsigned 2147483648 z)) (word_bytes (low_word (unsigned 2147483648 z)) [])
put_far z e m h =
    let k = ap (λ x. to_z w32 (of_z w32 x)) (to_z-of_z {w = w64} {z = z} (record { sfits = m })) ∙ to_z-of_z {w = w32} {z = z} (half_fits w32 2147483648 z h refl) in
    e ∙ ap (λ x. to_be_bytes w32 (of_z w32 x)) k ∙ ap (to_be_bytes w32) (unsigned_4 z) ∙ bytes_4 (unsigned 2147483648 z) (unsigned_small 2147483648 z h)

pub put_numbers : {t t' : List ℕ} {at next : ℕ} (p : Plane) {xs ys zs ws : List ℕ} → xs ≡ word_bytes (unsigned 32768 p.x) [] → ys ≡ word_bytes (unsigned 32768 p.y) [] → zs ≡ word_bytes (unsigned 32768 p.z) []
    → ws ≡ word_bytes (high_word (unsigned 2147483648 p.w)) (word_bytes (low_word (unsigned 2147483648 p.w)) [])
    → Wrote t t' at (line (2 ∷ get_or xs 0 0 ∷ get_or xs 1 0 ∷ get_or ys 0 0 ∷ get_or ys 1 0 ∷ get_or zs 0 0 ∷ get_or zs 1 0 ∷ get_or ws 0 0 ∷ get_or ws 1 0 ∷ get_or ws 2 0 ∷ get_or ws 3 0 ∷ [])) 23 next
    → Wrote t t' at (line (bytes (plane p))) 23 next
unfolding bytes
put_numbers {t = t} {t' = t'} {at = at} {next = next} p e f g h w =
    subst (λ bs. Wrote t t' at (line bs) 23 next)
    (λ i. 2 ∷ get_or (e i) 0 0 ∷ get_or (e i) 1 0 ∷ get_or (f i) 0 0 ∷ get_or (f i) 1 0 ∷ get_or (g i) 0 0 ∷ get_or (g i) 1 0 ∷ get_or (h i) 0 0 ∷ get_or (h i) 1 0 ∷ get_or (h i) 2 0 ∷ get_or (h i) 3 0 ∷ [])
    w

-- Frames: each frame that fits its bytes is read as it was written, and lines that are frames are written as they were read.
--     Fits, frame_bytes               a frame whose numbers fit is the frame of its bytes
--     Good, bytes_frame, good_fits    a line that is a frame of some kind has that frame's bytes
--     frames_written, written_frames  the same of a whole text
--     bad_malformed, malformed_bad    a line is `bad`, refused with 1, exactly if it is malformed
--     other_none                      bytes that are `other`, refused with 2, are no frame's
use Rattle.std.specs.Prelude.{◌≡◌, refl, Bool, true, false, cond, List, [], ◌∷◌, ◌++◌, ◌≢◌, ℕ, ◌<◌, T, eqb, ℤ}
use Rattle.std.proofs.Common.{sym, ap, ap₂, subst, ◌∙◌, append_assoc, arith, eqb→eq}
use Rattle.std.proofs.Math.Option.{Option, none, some}
use Rattle.whole.specs.Tests.{is_true, differ}
use Rattle.whole.specs.Lists.{Each, Each.none, Each.◌and◌}
use Rattle.scope.specs.Planes.{Plane}
use Rattle.scope.specs.Solids.{entry}
use Rattle.scope.specs.Text.{hexes, pairs, Line, whole, torn, lines, content, line, word, high, low, long, high_word, low_word, signed, unsigned, Frame, bad, other, operation, head, plane, node_row, end, plane_of, frame, frame_or, each, frames, word_bytes, bytes, written}
use Rattle.theory.specs.Text.Hex.{Bytes, nil, cons, pairs_hexes, hexes_pairs}
use Rattle.theory.specs.Text.Lines.{unline, unline_lines, lines_line, Malformed, content_malformed, malformed_content}
use Rattle.theory.specs.Text.Numbers.{word_of, word_parts, long_of, long_parts, Half, signed_unsigned, unsigned_small, unsigned_signed}

-- ---- a frame whose numbers fit is the frame of its bytes

pub data Fits : Frame → Type 0 where
  fits_operation : {o : ℕ} → o < 256 → Fits (operation o)
  fits_head : {n m r : ℕ} → n < 256 → m < 65536 → r < 65536 → Fits (head n m r)
  fits_plane : {p : Plane} → Half 32768 p.x → Half 32768 p.y → Half 32768 p.z → Half 2147483648 p.w → Fits (plane p)
  fits_node : {n f b : ℕ} → n < 256 → f < 65536 → b < 65536 → Fits (node_row (entry n f b))
  fits_end : Fits end

word_read : (n : ℕ) → n < 65536 → word (high n) (low n) ≡ n
word_read n h = (word_parts n h).0

axis_read : (z : ℤ) → Half 32768 z → signed 32768 (word (high (unsigned 32768 z)) (low (unsigned 32768 z))) ≡ z
axis_read z h = ap (signed 32768) (word_read (unsigned 32768 z) (unsigned_small 32768 z h)) ∙ signed_unsigned 32768 z h

far_read : (z : ℤ) → Half 2147483648 z → signed 2147483648 (long (word (high (high_word (unsigned 2147483648 z))) (low (high_word (unsigned 2147483648 z)))) (word (high (low_word (unsigned 2147483648 z))) (low (low_word (unsigned 2147483648 z))))) ≡ z
far_read z h =
    let u = long_parts (unsigned 2147483648 z) (unsigned_small 2147483648 z h) in
    ap (signed 2147483648) (ap₂ long (word_read (high_word (unsigned 2147483648 z)) u.1) (word_read (low_word (unsigned 2147483648 z)) u.2) ∙ u.0) ∙ signed_unsigned 2147483648 z h

-- written, then read
pub frame_bytes : {f : Frame} → Fits f → frame (bytes f) ≡ f
unfolding frame bytes plane_of
frame_bytes (fits_operation h) = refl
frame_bytes (fits_head {n = n} {m = m} {r = r} h k l) = λ i. head n (word_read m k i) (word_read r l i)
frame_bytes (fits_plane {p = p} h k l m) = λ i. plane (record { x = axis_read p.x h i; y = axis_read p.y k i; z = axis_read p.z l i; w = far_read p.w m i })
frame_bytes (fits_node {n = n} {f = f} {b = b} h k l) = λ i. node_row (entry n (word_read f k i) (word_read b l i))
frame_bytes fits_end = refl

word_ok : {n : ℕ} {l : List ℕ} → n < 65536 → Bytes l → Bytes (word_bytes n l)
word_ok {n} h r = let u = word_parts n h in cons u.1 (cons u.2 r)

bytes_ok : {f : Frame} → Fits f → Bytes (bytes f)
unfolding bytes
bytes_ok (fits_operation h) = cons {b = 5} (omega arith) (cons h nil)
bytes_ok (fits_head h k l) = cons {b = 1} (omega arith) (cons h (word_ok k (word_ok l nil)))
bytes_ok (fits_plane {p = p} h k l m) =
    let u = long_parts (unsigned 2147483648 p.w) (unsigned_small 2147483648 p.w m) in
    cons {b = 2} (omega arith) (word_ok (unsigned_small 32768 p.x h) (word_ok (unsigned_small 32768 p.y k) (word_ok (unsigned_small 32768 p.z l) (word_ok u.1 (word_ok u.2 nil)))))
bytes_ok (fits_node h k l) = cons {b = 3} (omega arith) (cons h (word_ok k (word_ok l nil)))
bytes_ok fits_end = cons {b = 4} (omega arith) nil

-- ---- a line that is a frame of some kind has that frame's bytes

-- a frame of some kind
abbrev pub Good : Frame → Type 0
Good bad = ⊥
Good other = ⊥
Good (operation o) = Unit
Good (head n m r) = Unit
Good (plane p) = Unit
Good (node_row e) = Unit
Good end = Unit

-- what can be written is a frame of some kind
pub good_fits : {f : Frame} → Fits f → Good f
good_fits (fits_operation h) = tt
good_fits (fits_head h k l) = tt
good_fits (fits_plane h k l m) = tt
good_fits (fits_node h k l) = tt
good_fits fits_end = tt

word_written : {a b : ℕ} {l : List ℕ} → a < 256 → b < 256 → word_bytes (word a b) l ≡ a ∷ b ∷ l
word_written {a} {b} h k = let u = word_of a b h k in cc (u.0, u.1)

axis_written : {a b : ℕ} {l : List ℕ} → a < 256 → b < 256 → word_bytes (unsigned 32768 (signed 32768 (word a b))) l ≡ a ∷ b ∷ l
axis_written {a} {b} {l} h k = ap (λ n. word_bytes n l) (unsigned_signed 32768 (word a b) (word_of a b h k).2) ∙ word_written h k

far_written : {a b c d : ℕ} {l : List ℕ} → a < 256 → b < 256 → c < 256 → d < 256
    → word_bytes (high_word (unsigned 2147483648 (signed 2147483648 (long (word a b) (word c d))))) (word_bytes (low_word (unsigned 2147483648 (signed 2147483648 (long (word a b) (word c d))))) l) ≡ a ∷ b ∷ c ∷ d ∷ l
far_written {a} {b} {c} {d} {l} h k i j =
    let u = long_of (word a b) (word c d) (word_of a b h k).2 (word_of c d i j).2 in
    ap (λ n. word_bytes (high_word n) (word_bytes (low_word n) l)) (unsigned_signed 2147483648 (long (word a b) (word c d)) u.2)
    ∙ (λ t. word_bytes (u.0 t) (word_bytes (u.1 t) l)) ∙ word_written h k ∙ ap (λ m. a ∷ b ∷ m) (word_written i j)

bytes_plane : {a₁ a₀ b₁ b₀ c₁ c₀ d₃ d₂ d₁ d₀ : ℕ} → Bytes (a₁ ∷ a₀ ∷ b₁ ∷ b₀ ∷ c₁ ∷ c₀ ∷ d₃ ∷ d₂ ∷ d₁ ∷ d₀ ∷ []) → bytes (plane (plane_of a₁ a₀ b₁ b₀ c₁ c₀ d₃ d₂ d₁ d₀)) ≡ 2 ∷ a₁ ∷ a₀ ∷ b₁ ∷ b₀ ∷ c₁ ∷ c₀ ∷ d₃ ∷ d₂ ∷ d₁ ∷ d₀ ∷ []
unfolding bytes plane_of
bytes_plane {a₁} {a₀} {b₁} {b₀} {c₁} {c₀} (cons h₁ (cons h₂ (cons h₃ (cons h₄ (cons h₅ (cons h₆ (cons h₇ (cons h₈ (cons h₉ (cons h₀ nil)))))))))) =
    ap (λ l. 2 ∷ l) (axis_written h₁ h₂ ∙ ap (λ l. a₁ ∷ a₀ ∷ l) (axis_written h₃ h₄ ∙ ap (λ l. b₁ ∷ b₀ ∷ l) (axis_written h₅ h₆ ∙ ap (λ l. c₁ ∷ c₀ ∷ l) (far_written h₇ h₈ h₉ h₀))))

good_if : (b : Bool) (f : Frame) → Good (cond b f other) → T b
good_if true f g = tt
good_if false f g = absurd g

-- read, then written
pub bytes_frame : (bs : List ℕ) → Bytes bs → Good (frame bs) → bytes (frame bs) ≡ bs
unfolding frame bytes
bytes_frame [] h g = absurd g
bytes_frame (k ∷ []) h g = let t = good_if (eqb k 4) end g in let e = eqb→eq k 4 t in rw (is_true (eqb k 4) t) (cc)
bytes_frame (k ∷ o ∷ []) h g = let t = good_if (eqb k 5) (operation o) g in let e = eqb→eq k 5 t in rw (is_true (eqb k 5) t) (cc)
bytes_frame (k ∷ a ∷ b ∷ []) h g = absurd g
bytes_frame (k ∷ a ∷ b ∷ c ∷ []) h g = absurd g
bytes_frame (k ∷ a ∷ b ∷ c ∷ d ∷ []) h g = absurd g
bytes_frame (k ∷ n ∷ a₁ ∷ a₀ ∷ b₁ ∷ b₀ ∷ []) (cons h₁ (cons h₂ (cons h₃ (cons h₄ (cons h₅ (cons h₆ nil)))))) g = go (eqb k 1) (eqb→eq k 1) g
  where
    tail : word_bytes (word a₁ a₀) (word_bytes (word b₁ b₀) []) ≡ a₁ ∷ a₀ ∷ b₁ ∷ b₀ ∷ []
    tail = word_written h₃ h₄ ∙ ap (λ l. a₁ ∷ a₀ ∷ l) (word_written h₅ h₆)

    go : (b : Bool) → (T b → k ≡ 1) → Good (cond b (head n (word a₁ a₀) (word b₁ b₀)) (cond (eqb k 3) (node_row (entry n (word a₁ a₀) (word b₁ b₀))) other))
        → bytes (cond b (head n (word a₁ a₀) (word b₁ b₀)) (cond (eqb k 3) (node_row (entry n (word a₁ a₀) (word b₁ b₀))) other)) ≡ k ∷ n ∷ a₁ ∷ a₀ ∷ b₁ ∷ b₀ ∷ []
    go true f g = cc (f tt, tail)
    go false f g = let t = good_if (eqb k 3) (node_row (entry n (word a₁ a₀) (word b₁ b₀))) g in let e = eqb→eq k 3 t in rw (is_true (eqb k 3) t) (cc tail)
bytes_frame (k ∷ a ∷ b ∷ c ∷ d ∷ e ∷ f ∷ []) h g = absurd g
bytes_frame (k ∷ a ∷ b ∷ c ∷ d ∷ e ∷ f ∷ i ∷ []) h g = absurd g
bytes_frame (k ∷ a ∷ b ∷ c ∷ d ∷ e ∷ f ∷ i ∷ j ∷ []) h g = absurd g
bytes_frame (k ∷ a ∷ b ∷ c ∷ d ∷ e ∷ f ∷ i ∷ j ∷ l ∷ []) h g = absurd g
bytes_frame (k ∷ a₁ ∷ a₀ ∷ b₁ ∷ b₀ ∷ c₁ ∷ c₀ ∷ d₃ ∷ d₂ ∷ d₁ ∷ d₀ ∷ []) (cons _ hs) g =
    let p : Frame = plane (plane_of a₁ a₀ b₁ b₀ c₁ c₀ d₃ d₂ d₁ d₀) in
    let t = good_if (eqb k 2) p g in
    let e = eqb→eq k 2 t in
    rw (is_true (eqb k 2) t) (bytes_plane hs ∙ (cc))
bytes_frame (k ∷ a ∷ b ∷ c ∷ d ∷ e ∷ f ∷ i ∷ j ∷ l ∷ m ∷ n ∷ o) h g = absurd g

-- ---- texts

-- written, then read
content_hexes : {b : ℕ} {bs : List ℕ} → Bytes (b ∷ bs) → content (whole (hexes (b ∷ bs))) ≡ some (b ∷ bs)
unfolding content hexes
content_hexes {b} {bs} h = pairs_hexes h

content_bytes : {f : Frame} → Fits f → Bytes (bytes f) → content (whole (hexes (bytes f))) ≡ some (bytes f)
unfolding bytes
content_bytes (fits_operation h) k = content_hexes k
content_bytes (fits_head h i l) k = content_hexes k
content_bytes (fits_plane h i l m) k = content_hexes k
content_bytes (fits_node h i l) k = content_hexes k
content_bytes fits_end k = content_hexes k

-- a text of frames that fit is read as those frames
pub frames_written : {fs : List Frame} → Each Fits fs → frames (written fs) ≡ fs
unfolding frames written lines
frames_written none = refl
frames_written (◌and◌ {x = f} {xs = fs} h r) = ap each (lines_line (bytes f) (written fs)) ∙ (λ i. frame_or (content_bytes h (bytes_ok h) i) ∷ frames_written r i) ∙ ap (λ g. g ∷ fs) (frame_bytes h)

-- read, then written
line_content : (l : Line) (ls : List Line) (t : List ℕ) → Good (frame_or (content l)) → unline ls ≡ t → line (bytes (frame_or (content l))) ++ t ≡ unline (l ∷ ls)
unfolding content unline line
line_content (whole []) ls t g e = absurd g
line_content (whole (c ∷ l)) ls t g e = go (pairs (c ∷ l)) (hexes_pairs (c ∷ l)) g
  where
    go : (o : Option (List ℕ)) → ((bs : List ℕ) → o ≡ some bs → (hexes bs ≡ c ∷ l) × Bytes bs) → Good (frame_or o) → line (bytes (frame_or o)) ++ t ≡ (c ∷ l) ++ 10 ∷ unline ls
    go none h g = absurd g
    go (some bs) h g = let u = h bs refl in rw (bytes_frame bs u.1 g, u.0, ← e) (append_assoc (c ∷ l) (10 ∷ []) (unline ls))
line_content (torn l) ls t g e = absurd g

written_each : (ls : List Line) → Each Good (each ls) → written (each ls) ≡ unline ls
unfolding written unline
written_each [] h = refl
written_each (l ∷ ls) (g and r) = line_content l ls (written (each ls)) g (sym (written_each ls r))

-- a text of frames of some kind is the text that those frames are written as
pub written_frames : (t : List ℕ) → Each Good (frames t) → written (frames t) ≡ t
unfolding frames
written_frames t h = written_each (lines t) h ∙ unline_lines t

-- ---- refusals 1 and 2

-- bytes that are `other` are no frame's
pub other_none : (bs : List ℕ) → frame bs ≡ other → (f : Frame) → Fits f → bytes f ≢ bs
other_none bs e f h d = subst Good (sym (frame_bytes h) ∙ ap frame d ∙ e) (good_fits h)

-- bytes are never `bad`
or_other : (b : Bool) (f : Frame) → f ≢ bad → cond b f other ≢ bad
or_other true f h e = h e
or_other false f h e = differ (cc)

not_bad : (bs : List ℕ) → frame bs ≢ bad
unfolding frame
not_bad [] e = differ (cc)
not_bad (k ∷ []) e = or_other (eqb k 4) end (λ i. differ (cc)) e
not_bad (k ∷ o ∷ []) e = or_other (eqb k 5) (operation o) (λ i. differ (cc)) e
not_bad (k ∷ a ∷ b ∷ []) e = differ (cc)
not_bad (k ∷ a ∷ b ∷ c ∷ []) e = differ (cc)
not_bad (k ∷ a ∷ b ∷ c ∷ d ∷ []) e = differ (cc)
not_bad (k ∷ n ∷ a₁ ∷ a₀ ∷ b₁ ∷ b₀ ∷ []) e = go (eqb k 1) e
  where
    go : (b : Bool) → cond b (head n (word a₁ a₀) (word b₁ b₀)) (cond (eqb k 3) (node_row (entry n (word a₁ a₀) (word b₁ b₀))) other) ≢ bad
    go true e = differ (cc)
    go false e = or_other (eqb k 3) (node_row (entry n (word a₁ a₀) (word b₁ b₀))) (λ i. differ (cc)) e
not_bad (k ∷ a ∷ b ∷ c ∷ d ∷ f ∷ g ∷ []) e = differ (cc)
not_bad (k ∷ a ∷ b ∷ c ∷ d ∷ f ∷ g ∷ h ∷ []) e = differ (cc)
not_bad (k ∷ a ∷ b ∷ c ∷ d ∷ f ∷ g ∷ h ∷ i ∷ []) e = differ (cc)
not_bad (k ∷ a ∷ b ∷ c ∷ d ∷ f ∷ g ∷ h ∷ i ∷ j ∷ []) e = differ (cc)
not_bad (k ∷ a₁ ∷ a₀ ∷ b₁ ∷ b₀ ∷ c₁ ∷ c₀ ∷ d₃ ∷ d₂ ∷ d₁ ∷ d₀ ∷ []) e = or_other (eqb k 2) (plane (plane_of a₁ a₀ b₁ b₀ c₁ c₀ d₃ d₂ d₁ d₀)) (λ i. differ (cc)) e
not_bad (k ∷ a ∷ b ∷ c ∷ d ∷ f ∷ g ∷ h ∷ i ∷ j ∷ l ∷ m ∷ n) e = differ (cc)

-- a line is `bad` exactly if it is malformed
pub bad_malformed : (l : Line) → frame_or (content l) ≡ bad → Malformed l
bad_malformed l = go (content l) (content_malformed l)
  where
    go : (o : Option (List ℕ)) → (o ≡ none → Malformed l) → frame_or o ≡ bad → Malformed l
    go none f e = f refl
    go (some bs) f e = absurd (not_bad bs e)

-- and back
pub malformed_bad : {l : Line} → Malformed l → frame_or (content l) ≡ bad
malformed_bad m = ap frame_or (malformed_content m)

-- Document 01, "Solids as frames": characters, lines, numbers of several bytes, frames, and the text of a solid.
use Rattle.std.specs.Prelude.{Bool, true, false, cond, List, [], ◌∷◌, ◌++◌, ℕ, ◌+◌, ◌-◌, ◌*◌, ◌/◌, ◌%◌, ltb, eqb, length, ℤ, pos, negsuc}
use Rattle.std.proofs.Math.Option.{Option, none, some}
use Rattle.scope.specs.Planes.{Plane}
use Rattle.scope.specs.Solids.{Tree, Entry, entry, Tables, tables, tables_of}
use Rattle.scope.specs.Cells.{Operation, union, intersection, difference}

-- ---- lines of capital hexadecimal (F.1)

-- 0-9 are 48 to 57, A-F are 65 to 70
unfoldable pub digit : ℕ → Option ℕ
digit c = cond (ltb c 48) none (cond (ltb c 58) (some (c - 48)) (cond (ltb c 65) none (cond (ltb c 71) (some (c - 55)) none)))

unfoldable pub hex : ℕ → ℕ
hex n = cond (ltb n 10) (48 + n) (55 + n)

abbrev pub pair : Option ℕ → Option ℕ → Option (List ℕ) → Option (List ℕ)
pair none d l = none
pair (some h) none l = none
pair (some h) (some d) none = none
pair (some h) (some d) (some l) = some ((h * 16 + d) ∷ l)

-- the bytes that characters stand for, two characters a byte
unfoldable pub pairs : List ℕ → Option (List ℕ)
pairs [] = some []
pairs (c ∷ []) = none
pairs (c ∷ d ∷ l) = pair (digit c) (digit d) (pairs l)

unfoldable pub hexes : List ℕ → List ℕ
hexes [] = []
hexes (b ∷ bs) = hex (b / 16) ∷ hex (b % 16) ∷ hexes bs

-- the characters of a line that LF ends, or of a last line without LF
pub data Line : Type 0 where
  whole : List ℕ → Line
  torn : List ℕ → Line

abbrev pub put : ℕ → List Line → List Line
put c [] = torn (c ∷ []) ∷ []
put c (whole l ∷ ls) = whole (c ∷ l) ∷ ls
put c (torn l ∷ ls) = torn (c ∷ l) ∷ ls

abbrev pub add : Bool → ℕ → List Line → List Line
add true c ls = whole [] ∷ ls
add false c ls = put c ls

-- LF is 10
unfoldable pub lines : List ℕ → List Line
lines [] = []
lines (c ∷ t) = add (eqb c 10) c (lines t)

-- R.1: none for a character other than 0-9, A-F; an odd or empty line; a last line without LF
unfoldable pub content : Line → Option (List ℕ)
content (whole []) = none
content (whole (c ∷ l)) = pairs (c ∷ l)
content (torn l) = none

unfoldable pub line : List ℕ → List ℕ
line bs = hexes bs ++ (10 ∷ [])

-- ---- numbers, big-endian; signed ones two's complement, h being 2^15 or 2^31 (F.2)

unfoldable pub word : ℕ → ℕ → ℕ
word a b = a * 256 + b

unfoldable pub high : ℕ → ℕ
high n = n / 256

unfoldable pub low : ℕ → ℕ
low n = n % 256

unfoldable pub long : ℕ → ℕ → ℕ
long a b = a * 65536 + b

unfoldable pub high_word : ℕ → ℕ
high_word n = n / 65536

unfoldable pub low_word : ℕ → ℕ
low_word n = n % 65536

unfoldable pub signed : ℕ → ℕ → ℤ
signed h u = cond (ltb u h) (pos u) (negsuc (h + h - 1 - u))

unfoldable pub unsigned : ℕ → ℤ → ℕ
unsigned h (pos n) = n
unsigned h (negsuc n) = h + h - 1 - n

-- ---- frames (F.3 to F.8)

-- `bad` is a line to be refused with 1; `other` a line of bytes that is no frame of a kind and length that could be due
pub data Frame : Type 0 where
  bad : Frame
  other : Frame
  operation : ℕ → Frame
  head : ℕ → ℕ → ℕ → Frame
  plane : Plane → Frame
  node_row : Entry → Frame
  end : Frame

unfoldable pub plane_of : ℕ → ℕ → ℕ → ℕ → ℕ → ℕ → ℕ → ℕ → ℕ → ℕ → Plane
plane_of a₁ a₀ b₁ b₀ c₁ c₀ d₃ d₂ d₁ d₀ = record { x = signed 32768 (word a₁ a₀); y = signed 32768 (word b₁ b₀); z = signed 32768 (word c₁ c₀); w = signed 2147483648 (long (word d₃ d₂) (word d₁ d₀)) }

-- by length, then by kind, the first byte
unfoldable pub frame : List ℕ → Frame
frame [] = other
frame (k ∷ []) = cond (eqb k 4) end other
frame (k ∷ o ∷ []) = cond (eqb k 5) (operation o) other
frame (k ∷ a ∷ b ∷ []) = other
frame (k ∷ a ∷ b ∷ c ∷ []) = other
frame (k ∷ a ∷ b ∷ c ∷ d ∷ []) = other
frame (k ∷ n ∷ a₁ ∷ a₀ ∷ b₁ ∷ b₀ ∷ []) = cond (eqb k 1) (head n (word a₁ a₀) (word b₁ b₀)) (cond (eqb k 3) (node_row (entry n (word a₁ a₀) (word b₁ b₀))) other)
frame (k ∷ a ∷ b ∷ c ∷ d ∷ e ∷ f ∷ []) = other
frame (k ∷ a ∷ b ∷ c ∷ d ∷ e ∷ f ∷ g ∷ []) = other
frame (k ∷ a ∷ b ∷ c ∷ d ∷ e ∷ f ∷ g ∷ h ∷ []) = other
frame (k ∷ a ∷ b ∷ c ∷ d ∷ e ∷ f ∷ g ∷ h ∷ i ∷ []) = other
frame (k ∷ a₁ ∷ a₀ ∷ b₁ ∷ b₀ ∷ c₁ ∷ c₀ ∷ d₃ ∷ d₂ ∷ d₁ ∷ d₀ ∷ []) = cond (eqb k 2) (plane (plane_of a₁ a₀ b₁ b₀ c₁ c₀ d₃ d₂ d₁ d₀)) other
frame (k ∷ a ∷ b ∷ c ∷ d ∷ e ∷ f ∷ g ∷ h ∷ i ∷ j ∷ l ∷ m) = other

abbrev pub frame_or : Option (List ℕ) → Frame
frame_or none = bad
frame_or (some bs) = frame bs

abbrev pub each : List Line → List Frame
each [] = []
each (l ∷ ls) = frame_or (content l) ∷ each ls

unfoldable pub frames : List ℕ → List Frame
frames t = each (lines t)

-- ---- and back

abbrev pub word_bytes : ℕ → List ℕ → List ℕ
word_bytes n l = high n ∷ low n ∷ l

unfoldable pub bytes : Frame → List ℕ
bytes bad = []
bytes other = []
bytes (operation o) = 5 ∷ o ∷ []
bytes (head n m r) = 1 ∷ n ∷ word_bytes m (word_bytes r [])
bytes (plane p) = 2 ∷ word_bytes (unsigned 32768 p.x) (word_bytes (unsigned 32768 p.y) (word_bytes (unsigned 32768 p.z)
    (word_bytes (high_word (unsigned 2147483648 p.w)) (word_bytes (low_word (unsigned 2147483648 p.w)) []))))
bytes (node_row (entry n f b)) = 3 ∷ n ∷ word_bytes f (word_bytes b [])
bytes end = 4 ∷ []

unfoldable pub written : List Frame → List ℕ
written [] = []
written (f ∷ fs) = line (bytes f) ++ written fs

-- F.8: written only
unfoldable pub refusal_line : ℕ → List ℕ
refusal_line n = line (15 ∷ n ∷ [])

-- ---- the text of a solid: head, planes, nodes, end (F.10), and what follows

abbrev pub plane_frames : List Plane → List Frame → List Frame
plane_frames [] fs = fs
plane_frames (p ∷ ps) fs = plane p ∷ plane_frames ps fs

abbrev pub node_frames : List Entry → List Frame → List Frame
node_frames [] fs = fs
node_frames (e ∷ es) fs = node_row e ∷ node_frames es fs

unfoldable pub solid_frames : Tables → List Frame → List Frame
solid_frames (tables ps es r) fs = head (length ps) (length es) r ∷ plane_frames ps (node_frames es (end ∷ fs))

unfoldable pub text : Tables → List ℕ
text s = written (solid_frames s [])

unfoldable pub text_of : Tree → List ℕ
text_of t = text (tables_of t)

-- F.3: 01 union, 02 intersection, 03 A minus B
abbrev pub operation_code : Operation → ℕ
operation_code union = 1
operation_code intersection = 2
operation_code difference = 3

-- The numbers that stand on a line of a text, by their places: what the code reads of a line that is known to be whole.
--     digit_answer          a digit as the code tells it
--     byte_of, bytes_of     the k-th byte of the line that begins at `at`, and n bytes from the k-th on
--     word_of               a word, from the k-th byte on
--     Shape, kind           the first byte of each frame that can be read, and how many bytes it has
--     first_byte            that byte, as the code names the frame
use Rattle.std.specs.Prelude.{List, [], ◌∷◌, ℕ, zero, suc, ◌+◌, ◌*◌, get_or, Option, Some, None}
use Rattle.std.proofs.Math.Option as Math
use Rattle.scope.specs.Text.{digit, word, Frame, bad, other, operation, head, plane, node_row, end}
use Rattle.frames.specs.declared.Kind.{Kind}
use Rattle.frames.specs.declared.Kind.TheVariants.{Head, Plane, Node, End, Operation}

-- ---- characters

abbrev pub digit_answer : Math.Option ℕ → Option ℕ
digit_answer Math.none = None
digit_answer (Math.some n) = Some n

abbrev pub value_or : Math.Option ℕ → ℕ
value_or Math.none = 0
value_or (Math.some n) = n

-- the value of a character, 0 for one that is no digit
unfoldable pub nibble_of : ℕ → ℕ
nibble_of c = value_or (digit c)

-- ---- numbers on a line

unfoldable pub byte_of : List ℕ → ℕ → ℕ → ℕ
byte_of t at k = nibble_of (get_or t (at + 2 * k) 0) * 16 + nibble_of (get_or t (at + 2 * k + 1) 0)

abbrev pub bytes_of : List ℕ → ℕ → ℕ → ℕ → List ℕ
bytes_of t at k zero = []
bytes_of t at k (suc n) = byte_of t at k ∷ bytes_of t at (suc k) n

abbrev pub word_of : List ℕ → ℕ → ℕ → ℕ
word_of t at k = word (byte_of t at k) (byte_of t at (k + 1))

-- ---- kinds

-- the kind of a frame and the number of its bytes
pub data Shape : ℕ → ℕ → Type 0 where
  head_shape : Shape 1 6
  plane_shape : Shape 2 11
  node_shape : Shape 3 6
  end_shape : Shape 4 1
  operation_shape : Shape 5 2

-- 0 for a line that is no frame
abbrev pub kind : Frame → ℕ
kind bad = 0
kind other = 0
kind (operation o) = 5
kind (head n m r) = 1
kind (plane p) = 2
kind (node_row e) = 3
kind end = 4

-- the first byte of the frame that the code names
abbrev pub first_byte : Kind → ℕ
first_byte Head = 1
first_byte Plane = 2
first_byte Node = 3
first_byte End = 4
first_byte Operation = 5

-- Document 01, "Solids as frames" and the point call: trees of planes, their rows in post-order, their tables; and the walk of a point.
use Rattle.std.specs.Prelude.{Bool, true, false, cond, List, [], ◌∷◌, ◌++◌, ℕ, zero, suc, ◌+◌, ◌≤◌, length, ℤ, pos, negsuc}
use Rattle.whole.specs.Sign.{Sign, minus, nought, plus}
use Rattle.whole.specs.Members.{◌∈◌}
use Rattle.scope.specs.Limits.{most_planes, most_nodes}
use Rattle.scope.specs.Planes.{Plane, Point, at, side, Lawful, before, equal}

pub data Mark : Type 0 where
  IN : Mark
  OUT : Mark

-- a mark, or a plane with the tree in front of it and the tree behind it
pub data Tree : Type 0 where
  leaf : Mark → Tree
  node : Plane → Tree → Tree → Tree

unfoldable pub rows : Tree → ℕ
rows (leaf m) = 0
rows (node p f b) = suc (rows f + rows b)

abbrev pub planes : Tree → List Plane
planes (leaf m) = []
planes (node p f b) = p ∷ (planes f ++ planes b)

-- ---- codes and rows

pub data Code : Type 0 where
  mark : Mark → Code
  row : ℕ → Code

-- F.9: FFFF is IN, FFFE is OUT, any other is a row number
abbrev pub number : Code → ℕ
number (mark IN) = 65535
number (mark OUT) = 65534
number (row n) = n

-- the code of a tree whose rows begin at n: its last row (F.11, F.12)
unfoldable pub code : ℕ → Tree → Code
code n (leaf m) = mark m
code n (node p f b) = row (n + rows f + rows b)

-- F.11: rows in post-order, front first, from row n on; a row is a plane, the front code and the back code
pub data Row : Type 0 where
  a_row : Plane → Code → Code → Row

unfoldable pub post : ℕ → Tree → List Row
post n (leaf m) = []
post n (node p f b) = (post n f ++ post (n + rows f) b) ++ (a_row p (code n f) (code (n + rows f) b) ∷ [])

-- ---- the plane list, ascending, each plane once (F.10, F.13)

abbrev pub insert_by : Bool → Bool → Plane → Plane → List Plane → List Plane → List Plane
insert_by true l p q qs r = p ∷ q ∷ qs
insert_by false true p q qs r = q ∷ r
insert_by false false p q qs r = q ∷ qs

unfoldable pub insert : Plane → List Plane → List Plane
insert p [] = p ∷ []
insert p (q ∷ qs) = insert_by (before p q) (before q p) p q qs (insert p qs)

unfoldable pub ascending : List Plane → List Plane
ascending [] = []
ascending (p ∷ ps) = insert p (ascending ps)

-- the number of a plane in a list
unfoldable pub place : List Plane → Plane → ℕ
place [] p = 0
place (q ∷ qs) p = cond (equal q p) 0 (suc (place qs p))

-- ---- tables: planes, nodes, root code

-- F.6: plane number, front code, back code
pub data Entry : Type 0 where
  entry : ℕ → ℕ → ℕ → Entry

pub data Tables : Type 0 where
  tables : List Plane → List Entry → ℕ → Tables

abbrev pub entry_of : List Plane → Row → Entry
entry_of ps (a_row p f b) = entry (place ps p) (number f) (number b)

abbrev pub entries : List Plane → List Row → List Entry
entries ps [] = []
entries ps (r ∷ rs) = entry_of ps r ∷ entries ps rs

unfoldable pub tables_of : Tree → Tables
tables_of t = tables (ascending (planes t)) (entries (ascending (planes t)) (post 0 t)) (number (code 0 t))

-- a solid: a tree of lawful planes within the limits N.5
pub record LawfulTree (t : Tree) : Type 0 where
  pub each : (p : Plane) → p ∈ planes t → Lawful p
  pub few_planes : length (ascending (planes t)) ≤ most_planes
  pub few_rows : rows t ≤ most_nodes

-- ---- walks

abbrev pub pick : Bool → Mark → Mark → Mark
pick true m n = m
pick false m n = n

-- the walk that takes the front of p where σ p is true
unfoldable pub walk : Tree → (Plane → Bool) → Mark
walk (leaf m) σ = m
walk (node p f b) σ = pick (σ p) (walk f σ) (walk b σ)

abbrev pub positive : ℤ → Bool
positive (pos zero) = false
positive (pos (suc n)) = true
positive (negsuc n) = false

unfoldable pub front : Point → Plane → Bool
front X p = positive (at p X)

-- the solid's answer for a point off its planes
abbrev pub answer : Tree → Point → Mark
answer t X = walk t (front X)

-- C.9: the point call: ON as soon as the walk meets a plane that the point lies on
pub data Reply : Type 0 where
  marked : Mark → Reply
  ON : Reply

abbrev pub choice : Sign → Reply → Reply → Reply
choice plus f b = f
choice nought f b = ON
choice minus f b = b

unfoldable pub reply : Tree → Point → Reply
reply (leaf m) X = marked m
reply (node p f b) X = choice (side p X) (reply f X) (reply b X)

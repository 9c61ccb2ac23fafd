-- Document 01, "Cells and the merge".
use Rattle.std.specs.Prelude.{◌≡◌, List, [], ◌∷◌, ◌≢◌, pos, negsuc}
use Rattle.whole.specs.Order.{◌⋖◌}
use Rattle.whole.specs.Members.{◌∈◌}
use Rattle.scope.specs.Limits.{reach}
use Rattle.scope.specs.Planes.{Plane, Point, at, flip}
use Rattle.scope.specs.Solids.{Mark, IN, OUT, Tree, leaf, node}

-- ---- cells

-- C.1: strictly on the positive side of each half-space of the list
pub record Inside (c : List Plane) (X : Point) : Type 0 where
  pub each : (h : Plane) → h ∈ c → pos 0 ⋖ at h X

-- S.6: the sides of the box
abbrev pub x- : Plane
x- = record { x = pos 1; y = pos 0; z = pos 0; w = pos reach }

abbrev pub x+ : Plane
x+ = record { x = negsuc 0; y = pos 0; z = pos 0; w = pos reach }

abbrev pub y- : Plane
y- = record { x = pos 0; y = pos 1; z = pos 0; w = pos reach }

abbrev pub y+ : Plane
y+ = record { x = pos 0; y = negsuc 0; z = pos 0; w = pos reach }

abbrev pub z- : Plane
z- = record { x = pos 0; y = pos 0; z = pos 1; w = pos reach }

abbrev pub z+ : Plane
z+ = record { x = pos 0; y = pos 0; z = negsuc 0; w = pos reach }

-- N.11: w is at least 1
abbrev pub weight : Plane
weight = record { x = pos 0; y = pos 0; z = pos 0; w = pos 1 }

-- N.4, N.11: the points strictly inside the box. A cell is this list under one half-space for each chosen side, last chosen first (C.1)
unfoldable pub box : List Plane
box = weight ∷ x- ∷ x+ ∷ y- ∷ y+ ∷ z- ∷ z+ ∷ []

-- C.2: some point lies on the plane and in the cell
pub record Cuts (p : Plane) (c : List Plane) : Type 0 where
  pub point : Point
  pub on : at p point ≡ pos 0
  pub inside : Inside c point

-- the cell lies in front of the plane, or behind it
abbrev pub AllFront : Plane → List Plane → Type 0
AllFront p c = (X : Point) → Inside c X → pos 0 ⋖ at p X

abbrev pub AllBack : Plane → List Plane → Type 0
AllBack p c = (X : Point) → Inside c X → at p X ⋖ pos 0

-- on none of the planes
pub record Off (ps : List Plane) (X : Point) : Type 0 where
  pub none : (p : Plane) → p ∈ ps → at p X ≢ pos 0

-- ---- trimming

-- C.3: a tree walked in a cell. J says what comes of a node that is kept, with its children's results in the two halves; L what comes of a leaf in its cell
module _ (J : Plane → Tree → Tree → Tree) (L : List Plane → Mark → Tree → Type 0) where
  pub data Walked : List Plane → Tree → Tree → Type 0 where
    end : {c : List Plane} {m : Mark} {r : Tree} → L c m r → Walked c (leaf m) r
    cut : {c : List Plane} {p : Plane} {f b f' b' : Tree} → Cuts p c → Walked (p ∷ c) f f' → Walked (flip p ∷ c) b b' → Walked c (node p f b) (J p f' b')
    fore : {c : List Plane} {p : Plane} {f b r : Tree} → AllFront p c → Walked c f r → Walked c (node p f b) r
    aft : {c : List Plane} {p : Plane} {f b r : Tree} → AllBack p c → Walked c b r → Walked c (node p f b) r

-- for a cell that has points: an empty one lies on both sides of every plane
abbrev pub Trimmed : List Plane → Tree → Tree → Type 0
Trimmed = Walked node (λ c m r. r ≡ leaf m)

-- ---- merging

-- F.3
pub data Operation : Type 0 where
  union : Operation
  intersection : Operation
  difference : Operation

unfoldable pub operate : Operation → Mark → Mark → Mark
operate union IN b = IN
operate union OUT b = b
operate intersection IN b = b
operate intersection OUT b = OUT
operate difference IN IN = OUT
operate difference IN OUT = IN
operate difference OUT b = OUT

-- C.6: a node whose two results are the same mark becomes that mark
unfoldable pub join : Plane → Tree → Tree → Tree
join p (leaf IN) (leaf IN) = leaf IN
join p (leaf IN) (leaf OUT) = node p (leaf IN) (leaf OUT)
join p (leaf OUT) (leaf IN) = node p (leaf OUT) (leaf IN)
join p (leaf OUT) (leaf OUT) = leaf OUT
join p (leaf m) (node q f b) = node p (leaf m) (node q f b)
join p (node q f b) r = node p (node q f b) r

-- C.4: at a leaf of A marked a, B is walked in that cell, and each leaf marked by the operation
abbrev pub Second : (Mark → Mark → Mark) → Tree → List Plane → Mark → Tree → Type 0
Second o B c a r = Walked join (λ c' b r'. r' ≡ leaf (o a b)) c B r

abbrev pub MergedIn : (Mark → Mark → Mark) → List Plane → Tree → Tree → Tree → Type 0
MergedIn o c A B r = Walked join (Second o B) c A r

abbrev pub Merged : Operation → Tree → Tree → Tree → Type 0
Merged o A B r = MergedIn (operate o) box A B r

-- Blocks: cells whose half-spaces all stand along the axes with the coefficient 1 or -1, as six numbers, the d of their sides.
--     faced               the half-space that faces as a side of the box does, at a d of its own
--     Faces               a half-space faces as a side of the box does
--     block_side, block_cell   a side of a block, and the cell that the block is
--     Sides               six numbers that are small enough
--     SideHeld, BlockOf   a half-space holds a side of a block; a block within the box and within the half-spaces of a path
--     Doubled, Between    a place on an axis, doubled, and whether it is strictly between the two sides
use Rattle.std.specs.Prelude.{◌≡◌, List, [], ◌∷◌, ℕ, ◌+◌, ◌*◌, ◌<◌, ℤ, pos, neg_ℤ, ◌+ℤ◌, ◌-ℤ◌, ◌*ℤ◌, get_or}
use Rattle.whole.specs.Order.{◌⋖◌, ◌⩽◌}
use Rattle.whole.specs.Bounds.{Within}
use Rattle.scope.specs.Limits.{most_d}
use Rattle.scope.specs.Planes.{Plane}
use Rattle.scope.specs.Cells.{weight}
use Rattle.planes.specs.Values.{quad}
use Rattle.polygons.specs.Tables.{row, box_side}
use Rattle.cuts.specs.Paths.{Holds}

-- ---- blocks

abbrev pub faced : ℕ → ℤ → Plane
faced k d = quad (box_side k).x (box_side k).y (box_side k).z d

-- side k of the box, at the half-space's own d
pub record Faces (k : ℕ) (h : Plane) : Type 0 where
  pub below : k < 6
  pub is : h ≡ faced k h.w

abbrev pub block_side : List ℤ → ℕ → Plane
block_side t k = faced k (get_or t k (pos 0))

abbrev pub block_cell : List ℤ → List Plane
block_cell t = weight ∷ block_side t 0 ∷ block_side t 1 ∷ block_side t 2 ∷ block_side t 3 ∷ block_side t 4 ∷ block_side t 5 ∷ []

-- each number is at most the size of a d in range
abbrev pub Sized : List ℤ → Type 0
Sized t = (k : ℕ) → k < 6 → Within (get_or t k (pos 0)) most_d

-- ---- the block of a path

pub record SideHeld (t : List ℤ) (h : Plane) : Type 0 where
  pub k : ℕ
  pub below : k < 6
  pub holds : Holds h (block_side t k)

-- each side is at most the box's, and each row holds a side
pub record BlockOf (path : List ℤ) (depth : ℕ) (t : List ℤ) : Type 0 where
  pub narrower : (k : ℕ) → k < 6 → get_or t k (pos 0) ⩽ pos 30000
  pub rows : (i : ℕ) → i < depth → SideHeld t (row path 9 i)

-- side k is at most d now, and no other is farther out
pub record Narrowed (t : List ℤ) (k : ℕ) (d : ℤ) (t' : List ℤ) : Type 0 where
  pub here : get_or t' k (pos 0) ⩽ d
  pub less : (j : ℕ) → j < 6 → get_or t' j (pos 0) ⩽ get_or t j (pos 0)

-- ---- the middle of a block

-- twice a d in range
abbrev pub most_place : ℕ
most_place = 200000000

pub record Doubled (axis k : ℕ) (d v : ℤ) : Type 0 where
  pub low : k ≡ 2 * axis → v ≡ neg_ℤ (d *ℤ pos 2)
  pub high : k ≡ 2 * axis + 1 → v ≡ d *ℤ pos 2
  pub small : Within v most_place

pub record Between (t : List ℤ) (axis : ℕ) (v : ℤ) : Type 0 where
  pub above : pos 0 ⋖ v +ℤ get_or t (2 * axis) (pos 0) *ℤ pos 2
  pub under : pos 0 ⋖ get_or t (2 * axis + 1) (pos 0) *ℤ pos 2 -ℤ v

pub record PlacedAt (t : List ℤ) (axis k : ℕ) (d v : ℤ) : Type 0 where
  pub doubled : Doubled axis k d v
  pub between : Between t axis v

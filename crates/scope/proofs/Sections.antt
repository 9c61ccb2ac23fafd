-- Sections: the starts, a vertex touched (+0+), an edge in the clipping plane (00+), cuts, coincident and parallel planes, a tie of the largest coefficient.
use mathlib.Core.List.{List, [], ◌∷◌}
use lib.Dec.{T}
use lib.IntN.{pos}
use Rattle.scope.specs.Planes.{Plane, coincident, equal}
use Rattle.scope.specs.Cells.{x-, x+, y-, y+, z-, z+}
use Rattle.scope.specs.Section.{clip, clips, section}
use Rattle.scope.proofs.Kit.{pl, m, every, same_planes}

abbrev s : Plane
s = pl (pos 1) (pos 0) (pos 0) (pos 0)

abbrev xh : Plane
xh = pl (pos 1) (pos 0) (pos 0) (pos 0)

abbrev yh : Plane
yh = pl (pos 0) (pos 1) (pos 0) (pos 0)

abbrev zh : Plane
zh = pl (pos 0) (pos 0) (pos 1) (pos 0)

-- support, half-spaces, bounds
sections : List (Plane × List Plane × List Plane)
sections = (s, [], z- ∷ y+ ∷ z+ ∷ y- ∷ []) ∷ (s, yh ∷ [], yh ∷ z- ∷ y+ ∷ z+ ∷ []) ∷ (pl (pos 1) (pos 0) (pos 0) (m 30000), [], []) ∷ (pl (pos 1) (pos 0) (pos 0) (m 29999), [], z- ∷ y+ ∷ z+ ∷ y- ∷ [])
    -- touched at a corner, from inside and from outside
    ∷ (s, pl (pos 0) (m 1) (m 1) (pos 60000) ∷ [], z- ∷ y+ ∷ z+ ∷ y- ∷ []) ∷ (s, pl (pos 0) (pos 1) (pos 1) (m 60000) ∷ [], [])
    -- along an edge: the half-space stands in the place of the bound
    ∷ (s, pl (pos 0) (m 2) (pos 0) (pos 60000) ∷ [], z- ∷ pl (pos 0) (m 2) (pos 0) (pos 60000) ∷ z+ ∷ y- ∷ [])
    -- through two corners, and the reverse start
    ∷ (s, pl (pos 0) (pos 1) (pos 1) (pos 0) ∷ [], pl (pos 0) (pos 1) (pos 1) (pos 0) ∷ y+ ∷ z+ ∷ []) ∷ (pl (m 1) (pos 0) (pos 0) (pos 0), pl (pos 0) (pos 1) (pos 1) (pos 0) ∷ [], pl (pos 0) (pos 1) (pos 1) (pos 0) ∷ z+ ∷ y+ ∷ [])
    -- coincident, parallel in front and behind
    ∷ (pl (m 2) (pos 0) (pos 0) (pos 0), pl (pos 3) (pos 0) (pos 0) (pos 0) ∷ [], []) ∷ (s, pl (pos 1) (pos 0) (pos 0) (pos 5) ∷ [], z- ∷ y+ ∷ z+ ∷ y- ∷ []) ∷ (s, pl (pos 1) (pos 0) (pos 0) (m 5) ∷ [], [])
    -- a tie of the largest coefficient, and the other ways
    ∷ (pl (pos 1) (pos 1) (pos 1) (pos 0), [], x+ ∷ z- ∷ y+ ∷ x- ∷ z+ ∷ y- ∷ []) ∷ (pl (pos 0) (m 1) (pos 1) (pos 0), xh ∷ yh ∷ [], xh ∷ yh ∷ x+ ∷ y+ ∷ [])
    ∷ (pl (pos 0) (pos 1) (pos 1) (pos 0), xh ∷ [], y+ ∷ xh ∷ y- ∷ x+ ∷ []) ∷ (pl (pos 0) (pos 0) (m 3) (pos 7), xh ∷ [], xh ∷ y+ ∷ x+ ∷ y- ∷ [])
    -- a triangle
    ∷ (s, yh ∷ zh ∷ pl (pos 0) (m 1) (m 1) (pos 30000) ∷ [], pl (pos 0) (m 1) (m 1) (pos 30000) ∷ yh ∷ zh ∷ []) ∷ (s, pl (pos 0) (pos 1) (pos 2) (m 30000) ∷ [], pl (pos 0) (pos 1) (pos 2) (m 30000) ∷ y+ ∷ z+ ∷ []) ∷ []

the_sections : T (every (λ c. same_planes (section c.0 c.1) c.2) sections)
unfolding every sections same_planes section clips clip coincident equal
the_sections = tt

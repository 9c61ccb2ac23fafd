-- Document 01, "Section of a region by a plane". The empty list of bounds is Nothing (S.12).
use Rattle.std.specs.Prelude.{cond, List, [], ◌∷◌, ◌++◌, leb, ℤ, pos, negsuc, nat_abs}
use Rattle.whole.specs.Tests.{◌and◌}
use Rattle.whole.specs.Sign.{Sign, minus, nought, plus}
use Rattle.whole.specs.Lists.{final}
use Rattle.scope.specs.Planes.{Plane, meet_side, coincident}
use Rattle.scope.specs.Cells.{x-, x+, y-, y+, z-, z+}

-- ---- the start

-- S.4: the axis of the largest coefficient in size, x before y before z on a tie, and whether that coefficient is positive
pub data Way : Type 0 where
  along_x against_x along_y against_y along_z against_z : Way

abbrev pub by_sign : ℤ → Way → Way → Way
by_sign (pos n) p m = p
by_sign (negsuc n) p m = m

abbrev pub way : Plane → Way
way s = cond (leb (nat_abs s.y) (nat_abs s.x) and leb (nat_abs s.z) (nat_abs s.x)) (by_sign s.x along_x against_x)
    (cond (leb (nat_abs s.z) (nat_abs s.y)) (by_sign s.y along_y against_y) (by_sign s.z along_z against_z))

-- S.5: with u and v the next two axes v-, u+, v+, u-, or the reverse list
abbrev pub start : Way → List Plane
start along_x = z- ∷ y+ ∷ z+ ∷ y- ∷ []
start against_x = y- ∷ z+ ∷ y+ ∷ z- ∷ []
start along_y = x- ∷ z+ ∷ x+ ∷ z- ∷ []
start against_y = z- ∷ x+ ∷ z+ ∷ x- ∷ []
start along_z = y- ∷ x+ ∷ y+ ∷ x- ∷ []
start against_z = x- ∷ y+ ∷ x+ ∷ y- ∷ []

-- S.7: the remaining axis's minus plane and plus plane
abbrev pub rest : Way → List Plane
rest along_x = x- ∷ x+ ∷ []
rest against_x = x- ∷ x+ ∷ []
rest along_y = y- ∷ y+ ∷ []
rest against_y = y- ∷ y+ ∷ []
rest along_z = z- ∷ z+ ∷ []
rest against_z = z- ∷ z+ ∷ []

-- ---- the 27 codes

pub data Signal : Type 0 where
  nothing : Signal
  B : Signal
  HB : Signal

-- S.10: by the sides of v(i-1), v(i) and v(i+1)
abbrev pub table : Sign → Sign → Sign → Signal
table a plus c = B
table a nought minus = nothing
table a nought nought = nothing
table plus nought plus = B
table nought nought plus = HB
table minus nought plus = HB
table a minus minus = nothing
table a minus nought = nothing
table a minus plus = HB

-- ---- the clip, of bounds of any kind: `side p b` is the side of the vertex between the bounds p and b

module _ {A : Type 0} where
  -- each bound with the side of the vertex between it and the bound before
  abbrev pub attach : (A → A → Sign) → A → List A → List (Sign × A)
  attach side p [] = []
  attach side p (b ∷ bs) = (side p b, b) ∷ attach side b bs

  -- S.11: B puts out the bound, H puts out h
  abbrev pub put : Signal → A → A → List A
  put nothing h b = []
  put B h b = b ∷ []
  put HB h b = h ∷ b ∷ []

  abbrev pub first : List (Sign × A) → Sign → Sign
  first [] n = n
  first (e ∷ es) n = e.0

  module _ (h : A) where
    -- S.9: each bound in order, q being the side of the vertex before the first and n that of the vertex after the last
    abbrev pub emit : Sign → List (Sign × A) → Sign → List A
    emit q [] n = []
    emit q (e ∷ es) n = put (table q e.0 (first es n)) h e.1 ++ emit e.0 es n

    abbrev pub around : List (Sign × A) → List A
    around [] = []
    around (e ∷ es) = emit (final e es).0 (e ∷ es) e.0

  abbrev pub clip_by : (A → A → Sign) → A → List A → List A
  clip_by side h [] = []
  clip_by side h (b ∷ bs) = around h (attach side (final b bs) (b ∷ bs))

-- ---- the section

-- S.9: v(i) lies on the support, b(i-1) and b(i)
abbrev pub vertex_side : Plane → Plane → Plane → Plane → Sign
vertex_side s h p b = meet_side s p b h

-- S.8: if h is coincident with the support, Nothing, whichever way it faces
unfoldable pub clip : Plane → Plane → List Plane → List Plane
clip s h bs = cond (coincident s h) [] (clip_by (vertex_side s h) h bs)

unfoldable pub clips : Plane → List Plane → List Plane → List Plane
clips s [] bs = bs
clips s (h ∷ hs) bs = clips s hs (clip s h bs)

-- S.7: the start, clipped by the remaining axis's two planes, then by the half-spaces in the order given
unfoldable pub section : Plane → List Plane → List Plane
section s hs = clips s (rest (way s) ++ hs) (start (way s))

-- The start of a section is a convex polygon: turned by its way it is the square z-, y+, z+, y- of the frame, whatever the support.
--     start_polygon   the lines of the start are those of a convex polygon
use Rattle.std.specs.Prelude.{◌≡◌, refl, [], ◌∷◌, map, ◌+◌, T, pos}
use Rattle.std.proofs.Common.{arith}
use Rattle.whole.specs.Difference.{parts_lt}
use Rattle.whole.specs.Expr.{Expr, #, con, ◌⊗◌}
use Rattle.whole.specs.Vec.{V4, xyz, det3ᴱ, det4ᴱ}
use Rattle.whole.specs.Solve.{same, applied, solve, ◌≐◌, vec4s}
use Rattle.whole.specs.Order.{◌⋖◌, mul_pos}
use Rattle.whole.specs.Lists.{Each.none, Each.◌and◌, Pairs, Triples, end, step}
use Rattle.scope.specs.Limits.{reach}
use Rattle.scope.specs.Planes.{Plane}
use Rattle.scope.specs.Cells.{y-, y+, z-, z+}
use Rattle.scope.specs.Section.{Way, along_x, against_x, along_y, against_y, along_z, against_z, start}
use Rattle.theory.specs.Section.Flat.{dt, cr, ez, on_second, Corner, Step, Left, left_turn, edge_left}
use Rattle.theory.specs.Section.Convex.{long, Convex}
use Rattle.theory.specs.Section.Polygon.{Polygon}
use Rattle.theory.specs.Section.Frames.{turn, line, line_meet_up, line_meet_at}

abbrev literal : Plane → V4 Expr
literal p = record { x = con p.x; y = con p.y; z = con p.z; w = con p.w }

module _ (s : Plane) (k : pos 0 ⋖ s.x) where
  -- the corner where the lines of p and q meet, with the line of q
  abbrev corner : Plane → Plane → Corner
  corner p q = record { v = cr (line s p) (line s q); l = line s q }

  -- it has a positive weight, and lies inside the line of h: each a test of numbers
  level : (p q : Plane) → T (same (applied (vec4s 1) (λ s. det3ᴱ (xyz s) (xyz (literal p)) (xyz (literal q)) ≐ s.x))) → pos 0 ⋖ dt ez (corner p q).v
  level p q t = rw (line_meet_up s p q, solve (vec4s 1) (λ s. det3ᴱ (xyz s) (xyz (literal p)) (xyz (literal q)) ≐ s.x) t s) (mul_pos k k)

  ahead : (p q h : Plane) → T (same (applied (vec4s 1) (λ s. det4ᴱ s (literal p) (literal q) (literal h) ≐ # (reach + reach) ⊗ s.x))) → pos 0 ⋖ dt (line s h) (corner p q).v
  ahead p q h t = rw (line_meet_at s p q h, solve (vec4s 1) (λ s. det4ᴱ s (literal p) (literal q) (literal h) ≐ # (reach + reach) ⊗ s.x) t s)
      (mul_pos (mul_pos k k) (mul_pos (parts_lt (pos 0) (pos (reach + reach)) (omega arith)) k))

  goes : (p q r : Plane) → pos 0 ⋖ dt (line s r) (corner p q).v → Step (corner p q) (corner q r)
  goes p q r h = record { meet = refl; on = on_second (line s p) (line s q); turn = h }

  one : Step (corner y- z-) (corner z- y+)
  one = goes y- z- y+ (ahead y- z- y+ tt)

  two : Step (corner z- y+) (corner y+ z+)
  two = goes z- y+ z+ (ahead z- y+ z+ tt)

  three : Step (corner y+ z+) (corner z+ y-)
  three = goes y+ z+ y- (ahead y+ z+ y- tt)

  four : Step (corner z+ y-) (corner y- z-)
  four = goes z+ y- z- (ahead z+ y- z- tt)

  lefts_1 : Pairs (Left (corner y- z-)) (corner z- y+ ∷ corner y+ z+ ∷ corner z+ y- ∷ [])
  lefts_1 = Pairs.◌and◌ (edge_left one (ahead y+ z+ z- tt) and edge_left one (ahead z+ y- z- tt) and none)
      (Pairs.◌and◌ (left_turn (left_turn (edge_left three (ahead y- z- z+ tt))) and none) (Pairs.◌and◌ none Pairs.none))

  lefts_2 : Pairs (Left (corner z- y+)) (corner y+ z+ ∷ corner z+ y- ∷ [])
  lefts_2 = Pairs.◌and◌ (edge_left two (ahead z+ y- y+ tt) and none) (Pairs.◌and◌ none Pairs.none)

  square : Convex (corner y- z- ∷ corner z- y+ ∷ corner y+ z+ ∷ corner z+ y- ∷ [])
  square = record {
    size = long;
    lefts = Triples.◌and◌ lefts_1 (Triples.◌and◌ lefts_2 (Triples.◌and◌ (Pairs.◌and◌ none Pairs.none) (Triples.◌and◌ Pairs.none Triples.none)));
    ups = level y- z- tt and level z- y+ tt and level y+ z+ tt and level z+ y- tt and none;
    closed = step one (step two (step three (end four)));
  }

start_lines : (w : Way) (s : Plane) → map (λ h. line s (turn w h)) (start w) ≡ map (line s) (start along_x)
start_lines along_x s = refl
start_lines against_x s = refl
start_lines along_y s = refl
start_lines against_y s = refl
start_lines along_z s = refl
start_lines against_z s = refl

pub start_polygon : (w : Way) (s : Plane) → pos 0 ⋖ s.x → Polygon (map (λ h. line s (turn w h)) (start w))
start_polygon w s k = record { corners = corner s k y- z- ∷ corner s k z- y+ ∷ corner s k y+ z+ ∷ corner s k z+ y- ∷ []; same_lines = start_lines w s; convex = square s k }

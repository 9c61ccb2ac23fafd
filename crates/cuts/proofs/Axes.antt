-- Blocks: cells whose half-spaces all stand along the axes, with the coefficient 1 or -1.
--     axes, in_cell, cell_side   what holds of each side of a block
--     faced_holds                a side farther out holds one farther in
--     whole_box, box_d           the box as a block
--     Narrowing, narrowing_..    the loop that narrows a block to the half-spaces of a path; row_d: a row's d
--     middle_witness, middle_kept   the middle of a block
--     block_witness, seen_block  a point in the block of a path is in the cell of the path
use mathlib.Core.Path.{◌≡◌, refl, sym, ap, subst, ◌∙◌}
use mathlib.Core.Bool.{true}
use mathlib.Core.Logic.{◌⊎◌, inl, inr}
use mathlib.Core.List.{List, [], ◌∷◌, ◌++◌}
use Prim.Native.Nat.{ℕ, zero, suc, ◌+◌, ◌*◌, ◌<◌}
use native.Mathlib.Omega.{arith}
use lib.IntN.{ℤ, pos, ◌+ℤ◌, ◌-ℤ◌, ◌*ℤ◌}
use lib.ListN.{get_or}
use Rattle.whole.specs.Expr.{◌⊕◌, ◌⊖◌, neg, #}
use Rattle.whole.specs.Solve.{solve, ◌≐◌, nums}
use Rattle.whole.specs.Order.{◌⋖◌, ◌⩽◌, eq_le}
use Rattle.whole.specs.Lin.{lin, ◌⊢◌, ◌≦◌, ◌≺◌}
use Rattle.whole.specs.Bounds.{Within, w_up}
use Rattle.whole.specs.Code.{in64}
use Rattle.whole.specs.Members.{◌∈◌, here, there, in_either}
use Rattle.scope.specs.Limits.{most_d}
use Rattle.scope.specs.Planes.{Plane, Point, at, in_range}
use Rattle.scope.specs.Cells.{weight, box}
use Rattle.theory.specs.Section.Sides.{at_weight}
use Rattle.planes.specs.Values.{quad, plane}
use Rattle.planes.specs.declared.Plane as struct
use Rattle.planes.specs.Bounds.{in_range_in}
use Rattle.polygons.specs.Tables.{four_at, row, rows_down}
use Rattle.polygons.proofs.Kept.{k}
use Rattle.cuts.specs.Paths.{Holds, RowsIn, AsksRow, along_axis, Witness}
use Rattle.cuts.specs.Blocks.{faced, Faces, block_side, block_cell, SideHeld, BlockOf, Narrowed, PlacedAt}
use Rattle.cuts.proofs.Asking.{at_low, at_high, holds_front, holds_on, in_row, four_is, Passed, passed_first, passed_all, row_below, passed_more}

-- ---- the sides of a block

axes : (P : ℕ → Type 0) → ((a : ℕ) → a < 3 → P (2 * a)) → ((a : ℕ) → a < 3 → P (2 * a + 1)) → (j : ℕ) → j < 6 → P j
axes P f g zero l = f 0 (omega arith)
axes P f g (suc zero) l = g 0 (omega arith)
axes P f g (suc (suc zero)) l = f 1 (omega arith)
axes P f g (suc (suc (suc zero))) l = g 1 (omega arith)
axes P f g (suc (suc (suc (suc zero)))) l = f 2 (omega arith)
axes P f g (suc (suc (suc (suc (suc zero))))) l = g 2 (omega arith)
axes P f g (suc (suc (suc (suc (suc (suc j)))))) l = absurd (omega arith)

cell_side : (t : List ℤ) (j : ℕ) → j < 6 → block_side t j ∈ block_cell t
cell_side t zero l = there (here refl)
cell_side t (suc zero) l = there (there (here refl))
cell_side t (suc (suc zero)) l = there (there (there (here refl)))
cell_side t (suc (suc (suc zero))) l = there (there (there (there (here refl))))
cell_side t (suc (suc (suc (suc zero)))) l = there (there (there (there (there (here refl)))))
cell_side t (suc (suc (suc (suc (suc zero))))) l = there (there (there (there (there (there (here refl))))))
cell_side t (suc (suc (suc (suc (suc (suc j)))))) l = absurd (omega arith)

in_cell : (t : List ℤ) (Q : Plane → Type 0) → Q weight → ((j : ℕ) → j < 6 → Q (block_side t j)) → (h : Plane) → h ∈ block_cell t → Q h
in_cell t Q w f h (here e) = subst Q (sym e) w
in_cell t Q w f h (there (here e)) = subst Q (sym e) (f 0 (omega arith))
in_cell t Q w f h (there (there (here e))) = subst Q (sym e) (f 1 (omega arith))
in_cell t Q w f h (there (there (there (here e)))) = subst Q (sym e) (f 2 (omega arith))
in_cell t Q w f h (there (there (there (there (here e))))) = subst Q (sym e) (f 3 (omega arith))
in_cell t Q w f h (there (there (there (there (there (here e)))))) = subst Q (sym e) (f 4 (omega arith))
in_cell t Q w f h (there (there (there (there (there (there (here e))))))) = subst Q (sym e) (f 5 (omega arith))
in_cell t Q w f h (there (there (there (there (there (there (there m))))))) = elim m [ ]

-- a side farther out holds one farther in
faced_holds : (j : ℕ) {d e : ℤ} → e ⩽ d → Holds (faced j d) (faced j e)
faced_holds j l = record { same_x = refl; same_y = refl; same_z = refl; wider = l }

-- ---- the block of a path

abbrev pub whole_box : List ℤ
whole_box = pos 30000 ∷ pos 30000 ∷ pos 30000 ∷ pos 30000 ∷ pos 30000 ∷ pos 30000 ∷ []

box_d : (j : ℕ) → j < 6 → get_or whole_box j (pos 0) ≡ pos 30000
box_d = axes (λ j. get_or whole_box j (pos 0) ≡ pos 30000) low high
  where
    low : (a : ℕ) → a < 3 → get_or whole_box (2 * a) (pos 0) ≡ pos 30000
    low zero l = refl
    low (suc zero) l = refl
    low (suc (suc zero)) l = refl
    low (suc (suc (suc a))) l = absurd (omega arith)

    high : (a : ℕ) → a < 3 → get_or whole_box (2 * a + 1) (pos 0) ≡ pos 30000
    high zero l = refl
    high (suc zero) l = refl
    high (suc (suc zero)) l = refl
    high (suc (suc (suc a))) l = absurd (omega arith)

-- the rows that were asked or passed over hold a side of the block
pub record Narrowing (path : List ℤ) (depth end : ℕ) (t : List ℤ) : Type 0 where
  pub narrower : (j : ℕ) → j < 6 → get_or t j (pos 0) ⩽ pos 30000
  pub passed : Passed path depth end (SideHeld t)

module _ {path : List ℤ} {depth end : ℕ} where
  pub narrowing_first : end ≡ depth * 9 → Narrowing path depth end whole_box
  narrowing_first e = record { narrower = λ j l. eq_le (box_d j l); passed = passed_first e }

  module _ {t : List ℤ} (g : Narrowing path depth end t) where
    pub narrowing_all : end ≡ 0 → BlockOf path depth t
    narrowing_all e = record { narrower = g.narrower; rows = passed_all g.passed e }

    module _ {from end' : ℕ} (r : AsksRow path end from end') {h : struct.Plane} (e : plane h ≡ four_at path from) where
      pub row_d : RowsIn path depth → Within h.d most_d
      row_d a = (in_range_in (ap in_range (e ∙ four_is path r.i r.begins) ∙ a.ranged r.i (row_below g.passed r))).d_in

      pub narrowing_more : RowsIn path depth → {n : ℕ} {t' : List ℤ} → Faces n (plane h) → Narrowed t n (k h.d) t' → Narrowing path depth end' t'
      narrowing_more a {n} {t'} f m = record {
        narrower = λ j l. le_on (m.less j l) (g.narrower j l);
        passed = passed_more (record { left = g.passed.left; at_end = g.passed.at_end; most = g.passed.most; each = λ i u v. still (row path 9 i) (g.passed.each i u v) }) r on (subst (SideHeld t') (e ∙ four_is path r.i r.begins) here_held);
      }
        where
          le_on : {a b c : ℤ} → a ⩽ b → b ⩽ c → a ⩽ c
          le_on {a} {b} {c} p q = lin (nums 3) (λ a b c. (a ≦ b) ∷ (b ≦ c) ∷ [] ⊢ a ≦ c) (omega arith) a b c p q

          still : (p : Plane) → SideHeld t p → SideHeld t' p
          still p q = record { k = q.k; below = q.below; holds = holds_on q.holds (faced_holds q.k (m.less q.k q.below)) }

          on : (q p : Plane) → Holds q p → SideHeld t' p → SideHeld t' q
          on q p f s = record { k = s.k; below = s.below; holds = holds_on f s.holds }

          here_held : SideHeld t' (plane h)
          here_held = record { k = n; below = f.below; holds = subst (λ p. Holds p (block_side t' n)) (sym f.is) (faced_holds n (subst (λ d. get_or t' n (pos 0) ⩽ d) (in64 (row_d a) tt) m.here)) }

-- ---- the middle of a block

module _ (t : List ℤ) (n : ℕ) (d x y z : ℤ) where
  abbrev X : Point
  X = quad x y z (pos 2)

  -- three axes
  three : (P : ℕ → ℤ → Type 0) → P 0 x → P 1 y → P 2 z → (a : ℕ) → a < 3 → P a (along_axis a X)
  three P p q r zero l = p
  three P p q r (suc zero) l = q
  three P p q r (suc (suc zero)) l = r
  three P p q r (suc (suc (suc a))) l = absurd (omega arith)

  module _ (f : (a : ℕ) → a < 3 → PlacedAt t a n d (along_axis a X)) where
    middle_on : n < 6 → at (faced n d) X ≡ pos 0
    middle_on l = axes (λ j. j ≡ n → at (faced j d) X ≡ pos 0)
        (λ a m e. at_low X d a m ∙ ap (λ u. u +ℤ d *ℤ pos 2) ((f a m).doubled.low (sym e)) ∙ solve (nums 1) (λ e. neg e ⊕ e ≐ # 0) tt (d *ℤ pos 2))
        (λ a m e. at_high X d a m ∙ ap (λ u. d *ℤ pos 2 -ℤ u) ((f a m).doubled.high (sym e)) ∙ solve (nums 1) (λ e. e ⊖ e ≐ # 0) tt (d *ℤ pos 2))
        n l refl

    middle_front : (j : ℕ) → j < 6 → pos 0 ⋖ at (block_side t j) X
    middle_front = axes (λ j. pos 0 ⋖ at (block_side t j) X)
        (λ a m. rw (at_low X (get_or t (2 * a) (pos 0)) a m) (f a m).between.above)
        (λ a m. rw (at_high X (get_or t (2 * a + 1) (pos 0)) a m) (f a m).between.under)

  up : pos 0 ⋖ at weight X
  up = subst (λ u. pos 0 ⋖ u) (sym (at_weight X)) (lin (nums 0) ([] ⊢ # 0 ≺ # 2) (omega arith))

  pub middle_witness : n < 6 → PlacedAt t 0 n d x → PlacedAt t 1 n d y → PlacedAt t 2 n d z → Witness (faced n d) (block_cell t) X
  middle_witness l p q r =
      let f = three (λ a v. PlacedAt t a n d v) p q r in
      record {
        on = middle_on f l;
        inside = record { each = in_cell t (λ h. pos 0 ⋖ at h X) up (middle_front f) };
        sized = record { x_size = w_up p.doubled.small tt; y_size = w_up q.doubled.small tt; z_size = w_up r.doubled.small tt; w_size = record { within = omega arith } };
      }

-- numbers that were handed on
pub middle_kept : {t : List ℤ} {n : ℕ} {d x y z : ℤ} → n < 6 → Within d most_d → PlacedAt t 0 n (k d) x → PlacedAt t 1 n (k d) y → PlacedAt t 2 n (k d) z → Witness (faced n d) (block_cell t) (quad (k x) (k y) (k z) (pos 2))
middle_kept {t} {n} {d} {x} {y} {z} l h p q r =
    rw (in64 p.doubled.small tt, in64 q.doubled.small tt, in64 r.doubled.small tt) (subst (λ u. Witness (faced n u) (block_cell t) (quad x y z (pos 2))) (in64 h tt) (middle_witness t n (k d) x y z l p q r))

-- ---- the block and the cell

pub block_witness : {path : List ℤ} {depth : ℕ} {t : List ℤ} {s : Plane} {X : Point} → BlockOf path depth t → Witness s (block_cell t) X → Witness s (rows_down path 9 depth ++ box) X
unfolding box
block_witness {path} {depth} {t} {s} {X} n m = record { on = m.on; inside = record { each = λ h u. go h (in_either (rows_down path 9 depth) (block_cell whole_box) u) }; sized = m.sized }
  where
    at_up : pos 0 ⋖ at weight X
    at_up = m.inside.each weight (here refl)

    up : pos 0 ⋖ X.w
    up = subst (λ u. pos 0 ⋖ u) (at_weight X) at_up

    side_front : (j : ℕ) → j < 6 → pos 0 ⋖ at (block_side t j) X
    side_front j l = m.inside.each (block_side t j) (cell_side t j l)

    row_front : (i : ℕ) → i < depth → pos 0 ⋖ at (row path 9 i) X
    row_front i l = let q = n.rows i l in holds_front q.holds X up (side_front q.k q.below)

    box_front : (j : ℕ) → j < 6 → pos 0 ⋖ at (block_side whole_box j) X
    box_front j l = holds_front (faced_holds j (rw (box_d j l) (n.narrower j l))) X up (side_front j l)

    go : (h : Plane) → (h ∈ rows_down path 9 depth) ⊎ (h ∈ block_cell whole_box) → pos 0 ⋖ at h X
    go h (inl u) = in_row path (λ p. pos 0 ⋖ at p X) depth row_front h u
    go h (inr u) = in_cell whole_box (λ p. pos 0 ⋖ at p X) at_up box_front h u

-- s faces as side n does, so that it is that side at its own d
pub seen_block : {path : List ℤ} {depth n : ℕ} {t : List ℤ} {s : Plane} {X : Point} → in_range s ≡ true → Faces n s → BlockOf path depth t → Witness (faced n (k s.w)) (block_cell t) X → Witness s (rows_down path 9 depth ++ box) X
seen_block {n = n} {t = t} {s = s} {X = X} r f b w = let e : faced n (k s.w) ≡ s = ap (faced n) (in64 (in_range_in r).d_in tt) ∙ sym f.is in block_witness b (subst (λ p. Witness p (block_cell t) X) e w)

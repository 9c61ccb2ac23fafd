-- Points and bounds, as the code asks them.
--     at_low, at_high            the half-spaces that face along an axis, at a point
--     along_within, low_is, high_is, box_none   the two sides of the box along an axis
--     holds_front, holds_on      a point in front of a half-space is in front of one that holds it; what holds a holder
--     asks_row, asked_rest, asked_row   the row that ends at a place, and those that are asked after it
--     row_in, in_row             rows, and the list of their half-spaces
--     four_is                    the half-space that is read where a row begins
--     Passed, passed_..          what is so of the rows that were asked, and of those that links passed over
--     Front, front_all           a point in front of all rows
--     row_asked, row_stops, row_front   the row that is asked: its sum, and what the test says
--     both_box, both_rows        sides of the box, and rows
use mathlib.Core.Path.{◌≡◌, refl, sym, ap, subst, ◌∙◌}
use mathlib.Core.Logic.{◌⊎◌, inl, inr}
use mathlib.Core.List.{List, [], ◌∷◌, ◌++◌}
use Prim.Native.Nat.{ℕ, zero, suc, ◌+◌, ◌-◌, ◌*◌, ◌/◌, ◌≤◌, ◌<◌}
use native.Mathlib.Omega.{arith}
use Rattle.std.specs.Prelude.{Option, Some, None}
use lib.IntN.{ℤ, pos, negsuc, nat_abs, ◌+ℤ◌, ◌-ℤ◌, ◌*ℤ◌}
use lib.ListN.{get_or}
use mir.Syntax.{w64}
use mir.Facts.{to_z-of_z}
use Rattle.whole.specs.Expr.{con, ◌⊕◌, ◌⊖◌, ◌⊗◌, #}
use Rattle.whole.specs.Solve.{solve, ◌≐◌, nums}
use Rattle.whole.specs.Order.{◌⋖◌, ◌⩽◌, add_pos, mul_nonneg, lt_le}
use Rattle.whole.specs.Lin.{lin, ◌⊢◌, ◌≦◌}
use Rattle.whole.specs.Bounds.{Within}
use Rattle.whole.specs.Members.{◌∈◌, here, there, in_left, in_right, in_either}
use Rattle.whole.specs.Vec.{dot4}
use Rattle.scope.specs.Planes.{Plane, Point, at, in_range}
use Rattle.planes.specs.Values.{plane, meeting}
use Rattle.planes.specs.Bounds.{SumIn, in_range_in}
use Rattle.planes.specs.declared.Plane as struct
use Rattle.planes.specs.declared.Meeting.{Meeting}
use Rattle.polygons.specs.Tables.{four_at, row, look, box_side, rows_down}
use Rattle.cuts.specs.Paths.{Holds, Linked, RowsIn, AskedIn, AsksRow, Asks, along_axis, axis_sides, StoppedBy, StopTold, Small, Placed}
use Rattle.cuts.specs.Blocks.{faced}
use Rattle.polygons.proofs.Cells.{look_box}
use Rattle.polygons.proofs.Kept.{k}
use Rattle.polygons.proofs.Starts.{look_6}

-- ---- the box along an axis

-- the sides of the box stand at 30000
low_box : (a : ℕ) → a < 3 → faced (2 * a) (pos 30000) ≡ box_side (2 * a)
low_box zero l = refl
low_box (suc zero) l = refl
low_box (suc (suc zero)) l = refl
low_box (suc (suc (suc a))) l = absurd (omega arith)

high_box : (a : ℕ) → a < 3 → faced (2 * a + 1) (pos 30000) ≡ box_side (2 * a + 1)
high_box zero l = refl
high_box (suc zero) l = refl
high_box (suc (suc zero)) l = refl
high_box (suc (suc (suc a))) l = absurd (omega arith)

module _ (X : Point) (d : ℤ) where
  pub at_low : (a : ℕ) → a < 3 → at (faced (2 * a) d) X ≡ along_axis a X +ℤ d *ℤ X.w
  unfolding at
  at_low zero l = solve (nums 5) (λ d x y z w. # 1 ⊗ x ⊕ # 0 ⊗ y ⊕ # 0 ⊗ z ⊕ d ⊗ w ≐ x ⊕ d ⊗ w) tt d X.x X.y X.z X.w
  at_low (suc zero) l = solve (nums 5) (λ d x y z w. # 0 ⊗ x ⊕ # 1 ⊗ y ⊕ # 0 ⊗ z ⊕ d ⊗ w ≐ y ⊕ d ⊗ w) tt d X.x X.y X.z X.w
  at_low (suc (suc zero)) l = solve (nums 5) (λ d x y z w. # 0 ⊗ x ⊕ # 0 ⊗ y ⊕ # 1 ⊗ z ⊕ d ⊗ w ≐ z ⊕ d ⊗ w) tt d X.x X.y X.z X.w
  at_low (suc (suc (suc a))) l = absurd (omega arith)

  pub at_high : (a : ℕ) → a < 3 → at (faced (2 * a + 1) d) X ≡ d *ℤ X.w -ℤ along_axis a X
  unfolding at
  at_high zero l = solve (nums 5) (λ d x y z w. con (negsuc 0) ⊗ x ⊕ # 0 ⊗ y ⊕ # 0 ⊗ z ⊕ d ⊗ w ≐ d ⊗ w ⊖ x) tt d X.x X.y X.z X.w
  at_high (suc zero) l = solve (nums 5) (λ d x y z w. # 0 ⊗ x ⊕ con (negsuc 0) ⊗ y ⊕ # 0 ⊗ z ⊕ d ⊗ w ≐ d ⊗ w ⊖ y) tt d X.x X.y X.z X.w
  at_high (suc (suc zero)) l = solve (nums 5) (λ d x y z w. # 0 ⊗ x ⊕ # 0 ⊗ y ⊕ con (negsuc 0) ⊗ z ⊕ d ⊗ w ≐ d ⊗ w ⊖ z) tt d X.x X.y X.z X.w
  at_high (suc (suc (suc a))) l = absurd (omega arith)

pub along_within : {X : Point} → Small X → (a : ℕ) → Within (along_axis a X) 1800000000000000
along_within s zero = s.x_size
along_within s (suc zero) = s.y_size
along_within s (suc (suc a)) = s.z_size

module _ (X : Point) (a : ℕ) (l : a < 3) where
  pub low_is : at (box_side (2 * a)) X ≡ along_axis a X +ℤ pos 30000 *ℤ X.w
  low_is = ap (λ p. at p X) (sym (low_box a l)) ∙ at_low X (pos 30000) a l

  pub high_is : at (box_side (2 * a + 1)) X ≡ pos 30000 *ℤ X.w -ℤ along_axis a X
  high_is = ap (λ p. at p X) (sym (high_box a l)) ∙ at_high X (pos 30000) a l

  pub box_none : pos 0 ⋖ along_axis a X +ℤ pos 30000 *ℤ X.w → pos 0 ⋖ pos 30000 *ℤ X.w -ℤ along_axis a X → (h : Plane) → h ∈ axis_sides a → pos 0 ⋖ at h X
  box_none f g h (here q) = rw (q, low_is) f
  box_none f g h (there (here q)) = rw (q, high_is) g
  box_none f g h (there (there m)) = elim m [ ]

-- ---- half-spaces that hold others

pub holds_front : {q p : Plane} → Holds q p → (X : Point) → pos 0 ⋖ X.w → pos 0 ⋖ at p X → pos 0 ⋖ at q X
unfolding at
holds_front {q} {p} h X u f =
    let n = mul_nonneg (lin (nums 2) (λ a b. (a ≦ b) ∷ [] ⊢ # 0 ≦ b ⊖ a) (omega arith) p.w q.w h.wider) (lt_le u) in
    let e : dot4 q X ≡ dot4 p X +ℤ (q.w -ℤ p.w) *ℤ X.w = rw (h.same_x, h.same_y, h.same_z)
    (solve (nums 9) (λ a b c d e x y z w. a ⊗ x ⊕ b ⊗ y ⊕ c ⊗ z ⊕ e ⊗ w ≐ (a ⊗ x ⊕ b ⊗ y ⊕ c ⊗ z ⊕ d ⊗ w) ⊕ (e ⊖ d) ⊗ w) tt p.x p.y p.z p.w q.w X.x X.y X.z X.w) in
    rw e (add_pos f n)

pub holds_on : {q p r : Plane} → Holds q p → Holds p r → Holds q r
holds_on {q} {p} {r} f g = record { same_x = f.same_x ∙ g.same_x; same_y = f.same_y ∙ g.same_y; same_z = f.same_z ∙ g.same_z; wider = lin (nums 3) (λ a b c. (a ≦ b) ∷ (b ≦ c) ∷ [] ⊢ a ≦ c) (omega arith) r.w p.w q.w g.wider f.wider }

-- ---- rows asked

module _ {path : List ℤ} {end : ℕ} (a : AskedIn path end) (o : end ≡ 0 → ⊥) where
  pub linked : Linked path (a.left - 1)
  linked = a.path_in.links (a.left - 1) (omega (arith, a.at_end))

  next_is : nat_abs (k (get_or path (end - 9 + 8) (pos 0))) ≡ linked.to * 9
  next_is =
      let p : end - 9 + 8 ≡ (a.left - 1) * 9 + 8 = omega (arith, a.at_end) in
      ap (λ i. nat_abs (k (get_or path i (pos 0)))) p ∙ ap (λ z. nat_abs (k z)) linked.link ∙ ap nat_abs (to_z-of_z {w = w64} {z = pos (linked.to * 9)} (record { sfits = omega (arith, linked.back, a.at_end, a.path_in.few) }))

  pub asks_row : AsksRow path end (end - 9) (nat_abs (k (get_or path (end - 9 + 8) (pos 0))))
  asks_row = record { i = a.left - 1; begins = omega (arith, a.at_end); ends = omega (arith, a.at_end); linked = linked; next = next_is }

  pub asked_rest : AskedIn path (nat_abs (k (get_or path (end - 9 + 8) (pos 0))))
  asked_rest = record {
    left = linked.to;
    at_end = next_is;
    path_in = record { few = omega (arith, linked.back, a.path_in.few); room = omega (arith, linked.back, a.at_end, a.path_in.room); links = λ i l. a.path_in.links i (omega (arith, l, linked.back, a.at_end)) };
  }

  pub rest_less : nat_abs (k (get_or path (end - 9 + 8) (pos 0))) < end
  rest_less = omega (arith, next_is, linked.back, a.at_end)

-- what a call of `next` says of the path whose rows it reads
pub asked_row : {rows path rows' : List ℤ} {end from end' : ℕ} → rows ≡ path → Asks rows end (Some from) rows' end' → AsksRow path end from end'
asked_row {end = end} {from = from} {end' = end'} e a = subst (λ p. AsksRow p end from end') e a.row

-- ---- rows

pub row_in : (path : List ℤ) (d i : ℕ) → i < d → row path 9 i ∈ rows_down path 9 d
unfolding rows_down
row_in path zero i l = absurd (omega arith)
row_in path (suc d) i l = go (d - i) refl (λ m. there (row_in path d i m))
  where
    go : (j : ℕ) → d - i ≡ j → (i < d → row path 9 i ∈ (row path 9 d ∷ rows_down path 9 d)) → row path 9 i ∈ (row path 9 d ∷ rows_down path 9 d)
    go zero e f = let u : i ≡ d = omega arith in rw u (here refl)
    go (suc j) e f = f (omega arith)

pub in_row : (path : List ℤ) (Q : Plane → Type 0) (d : ℕ) → ((i : ℕ) → i < d → Q (row path 9 i)) → (h : Plane) → h ∈ rows_down path 9 d → Q h
unfolding rows_down
in_row path Q zero f h m = elim m [ ]
in_row path Q (suc d) f h (here e) = subst Q (sym e) (f d (omega arith))
in_row path Q (suc d) f h (there m) = in_row path Q d (λ i l. f i (omega arith)) h m

-- the half-space that is read at the place where row i begins
pub four_is : (path : List ℤ) (i : ℕ) {from : ℕ} → from ≡ i * 9 → four_at path from ≡ row path 9 i
unfolding row
four_is path i e = ap (four_at path) e

-- ---- the rows of which the last ends at `end` are left, and P is so of the others

pub record Passed (path : List ℤ) (depth end : ℕ) (P : Plane → Type 0) : Type 0 where
  pub left : ℕ
  pub at_end : end ≡ left * 9
  pub most : left ≤ depth
  pub each : (i : ℕ) → left ≤ i → i < depth → P (row path 9 i)

module _ {path : List ℤ} {depth : ℕ} {P : Plane → Type 0} where
  pub passed_first : {end : ℕ} → end ≡ depth * 9 → Passed path depth end P
  passed_first e = record { left = depth; at_end = e; most = omega arith; each = λ i l m. absurd (omega arith) }

  pub passed_all : {end : ℕ} → Passed path depth end P → end ≡ 0 → (i : ℕ) → i < depth → P (row path 9 i)
  passed_all g e i l = g.each i (omega (arith, g.at_end)) l

  module _ {end from end' : ℕ} (g : Passed path depth end P) (r : AsksRow path end from end') where
    pub row_below : r.i < depth
    row_below = omega (arith, r.begins, r.ends, g.at_end, g.most)

    -- P of a row is so of those that its link passes over
    pub passed_more : ((q p : Plane) → Holds q p → P p → P q) → P (row path 9 r.i) → Passed path depth end' P
    passed_more f p = record { left = r.linked.to; at_end = r.next; most = omega (arith, r.linked.back, row_below); each = λ i l m. go i l m (r.i - i) (i - r.i) refl refl }
      where
        go : (i : ℕ) → r.linked.to ≤ i → i < depth → (n m : ℕ) → r.i - i ≡ n → i - r.i ≡ m → P (row path 9 i)
        go i l d (suc n) m e h = f (row path 9 i) (row path 9 r.i) (r.linked.holds i l (omega (arith, e))) p
        go i l d zero zero e h = let u : i ≡ r.i = omega (arith, e, h) in rw u p
        go i l d zero (suc m) e h = g.each i (omega (arith, h, g.at_end, r.begins, r.ends)) d

-- ---- a point, and the row that is asked

abbrev pub Front : Point → Plane → Type 0
Front X h = pos 0 ⋖ at h X

module _ {path : List ℤ} {depth : ℕ} (m : Meeting) where
  pub front_all : {end : ℕ} → Passed path depth end (Front (meeting m)) → end ≡ 0 → (h : Plane) → h ∈ rows_down path 9 depth → Front (meeting m) h
  front_all g e = in_row path (Front (meeting m)) depth (passed_all g e)

  module _ {end from end' : ℕ} (g : Passed path depth end (Front (meeting m))) (r : AsksRow path end from end') {h : struct.Plane} (e : plane h ≡ four_at path from) where
    row_is : plane h ≡ row path 9 r.i
    row_is = e ∙ four_is path r.i r.begins

    pub row_asked : RowsIn path depth → Placed (meeting m) → SumIn h.a h.b h.c h.d m.x m.y m.z m.w
    row_asked a p =
        let q = in_range_in (ap in_range row_is ∙ a.ranged r.i (row_below g r)) in
        let s = p.small in
        record { a_in = q.a_in; b_in = q.b_in; c_in = q.c_in; d_in = q.d_in; x_in = s.x_size; y_in = s.y_size; z_in = s.z_size; w_in = s.w_size }

    pub row_stops : at (plane h) (meeting m) ⩽ pos 0 → StoppedBy (look path 9) (rows_down path 9 depth) (6 + depth) (meeting m) (6 + from / 9)
    row_stops t =
        let n : 6 + from / 9 ≡ 6 + r.i = omega (arith, r.begins) in
        let q : look path 9 (6 + from / 9) ≡ row path 9 r.i = ap (look path 9) n ∙ look_6 path 9 r.i in
        record { below = omega (arith, n, row_below g r); member = rw q (row_in path depth r.i (row_below g r)); behind = rw (q, sym row_is) t }

    pub row_front : Placed (meeting m) → pos 0 ⋖ at (plane h) (meeting m) → Passed path depth end' (Front (meeting m))
    row_front p t = passed_more g r (λ q p'. λ f. holds_front f (meeting m) p.up) (subst (Front (meeting m)) row_is t)

-- ---- both

module _ (path : List ℤ) (depth axis : ℕ) (X : Point) where
  pub both_box : (j : ℕ) → StoppedBy box_side (axis_sides axis) 6 X j → StoppedBy (look path 9) (axis_sides axis ++ rows_down path 9 depth) (6 + depth) X j
  both_box j s =
      let q = look_box path 9 j s.below in
      record { below = omega (arith, s.below); member = in_left (rows_down path 9 depth) (subst (λ p. p ∈ axis_sides axis) q s.member); behind = subst (λ p. at p X ⩽ pos 0) q s.behind }

  pub both_rows : (r : Option ℕ) → ((h : Plane) → h ∈ axis_sides axis → pos 0 ⋖ at h X) → StopTold (look path 9) (rows_down path 9 depth) (6 + depth) X r → StopTold (look path 9) (axis_sides axis ++ rows_down path 9 depth) (6 + depth) X r
  both_rows None f g = λ h m. go h (in_either (axis_sides axis) (rows_down path 9 depth) m)
    where
      go : (h : Plane) → (h ∈ axis_sides axis) ⊎ (h ∈ rows_down path 9 depth) → pos 0 ⋖ at h X
      go h (inl m) = f h m
      go h (inr m) = g h m
  both_rows (Some j) f s = record { below = s.below; member = in_right (axis_sides axis) s.member; behind = s.behind }

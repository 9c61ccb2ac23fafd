-- The marks of new leaves: beside a point of a cell, in front of all planes through it or behind them all, and beside a facet.
--     slope, slope_front        a way that leads to the front of every lawful plane
--     leaning                   the sides of a point, with planes through it passed to their front, or to their back
--     Leaned, lean              a step along that way
--     beside_cell, beside_half  a uniform cell, or a uniform half of a cell at a point of its plane, has that mark
--     beside_origin             the mark of the root, before the first facet
--     facet_mark, beside_facet  a uniform half beside a facet has the facet's mark
use Rattle.std.specs.Prelude.{◌≡◌, refl, Bool, true, false, List, [], ◌∷◌, ◌++◌, ◌≢◌, ℕ, ℤ, pos, negsuc, neg_ℤ}
use Rattle.std.proofs.Common.{sym, ◌∙◌, arith}
use Rattle.std.proofs.Math.Path.{ap}
use Rattle.whole.specs.Difference.{parts_le}
use Rattle.whole.specs.Expr.{#, ◌⊕◌, ◌⊗◌, neg}
use Rattle.whole.specs.Solve.{nums}
use Rattle.whole.specs.Lin.{lin, ◌⊢◌, ◌≦◌, ◌≺◌, ◌≋◌}
use Rattle.whole.specs.Bounds.{Within}
use Rattle.whole.specs.Order.{◌⋖◌, ◌⩽◌, Lies, below, on, above, lies, pos_neg, pos_not_zero, neg_not_zero}
use Rattle.whole.specs.Sign.{Sign, minus, nought, plus, sgn, sgn_above, sgn_below}
use Rattle.whole.specs.Members.{◌∈◌, in_left, in_right}
use Rattle.scope.proofs.Points.{flip_back, front_false, front_true}
use Rattle.scope.specs.Planes.{Plane, Point, at, flip, Lawful}
use Rattle.scope.specs.Cells.{Inside, box, Off}
use Rattle.scope.specs.Solids.{Mark, front}
use Rattle.scope.specs.Normal.{Space, taking}
use Rattle.theory.specs.Planes.Faults.{ranged}
use Rattle.theory.specs.Planes.Lawful.{Leading, lead_a, lead_b, lead_c, leading}
use Rattle.theory.specs.Planes.General.{General}
use Rattle.theory.specs.Cells.Move.{at_back, flip_front, Keeps, Moved, move}
use Rattle.theory.specs.Cells.Box.{cons, origin, box_origin}
use Rattle.theory.specs.Cells.Sides.{half}
use Rattle.theory.specs.Cells.Clear.{keeps_inside, Stepped, step, taking_same}
use Rattle.growing.specs.Facets.{Facet, Enters, Sound, Bordered, facet_border}
use Rattle.growing.specs.Begun.{Right}

-- ---- the way to the front

abbrev pub slope : Point
slope = record { x = pos 4004001; y = pos 2001; z = pos 1; w = pos 0 }

low : (z : ℤ) → Within z 1000 → neg_ℤ (pos 1000) ⩽ z
low (pos n) h = parts_le (negsuc 999) (pos n) (omega arith)
low (negsuc n) h = let k = h.within in parts_le (negsuc 999) (negsuc n) (omega arith)

pub slope_front : {p : Plane} → Lawful p → pos 0 ⋖ at p slope
unfolding at
slope_front {p} l = go (leading l) (low p.y (ranged p l.range).b) (low p.z (ranged p l.range).c)
  where
    go : Leading p → neg_ℤ (pos 1000) ⩽ p.y → neg_ℤ (pos 1000) ⩽ p.z → pos 0 ⋖ at p slope
    go (lead_a h) b c = lin (nums 4) (λ x y z w. (# 0 ≺ x) ∷ (neg (# 1000) ≦ y) ∷ (neg (# 1000) ≦ z) ∷ [] ⊢ # 0 ≺ x ⊗ # 4004001 ⊕ y ⊗ # 2001 ⊕ z ⊗ # 1 ⊕ w ⊗ # 0) (omega arith) p.x p.y p.z p.w h b c
    go (lead_b e h) b c = lin (nums 4) (λ x y z w. (x ≋ # 0) ∷ (# 0 ≺ y) ∷ (neg (# 1000) ≦ z) ∷ [] ⊢ # 0 ≺ x ⊗ # 4004001 ⊕ y ⊗ # 2001 ⊕ z ⊗ # 1 ⊕ w ⊗ # 0) (omega arith) p.x p.y p.z p.w e h c
    go (lead_c e d h) b c = lin (nums 4) (λ x y z w. (x ≋ # 0) ∷ (y ≋ # 0) ∷ (# 0 ≺ z) ∷ [] ⊢ # 0 ≺ x ⊗ # 4004001 ⊕ y ⊗ # 2001 ⊕ z ⊗ # 1 ⊕ w ⊗ # 0) (omega arith) p.x p.y p.z p.w e d h

-- ---- the sides beside a point

abbrev pub tilt : Bool → Sign → Bool
tilt s plus = true
tilt s nought = s
tilt s minus = false

-- where a plane goes through X it is passed to its front, or to its back
unfoldable pub leaning : Bool → Point → Plane → Bool
leaning s X q = tilt s (sgn (at q X))

module _ (s : Bool) (X : Point) (q : Plane) where
  pub leaning_above : pos 0 ⋖ at q X → leaning s X q ≡ true
  unfolding leaning
  leaning_above h = ap (tilt s) (sgn_above h)

  pub leaning_below : at q X ⋖ pos 0 → leaning s X q ≡ false
  unfolding leaning
  leaning_below h = ap (tilt s) (sgn_below h)

  pub leaning_on : at q X ≡ pos 0 → leaning s X q ≡ s
  unfolding leaning
  leaning_on h = ap (λ a. tilt s (sgn a)) h

-- a step from X that keeps the sides of G, and is off the planes qs, on the sides that X leans to
pub record Leaned (s : Bool) (G qs : List Plane) (X : Point) : Type 0 where
  pub to : Point
  pub keeps : (g : Plane) → g ∈ G → Keeps g X to
  pub off : Off qs to
  pub sides : (q : Plane) → q ∈ qs → front to q ≡ leaning s X q
  pub over : (q : Plane) → q ∈ qs → at q X ≡ pos 0 → pos 0 ⋖ at (half s q) to

pub lean : (s : Bool) (G qs : List Plane) (X : Point) → ((q : Plane) → q ∈ qs → Lawful q) → Leaned s G qs X
lean s G qs X l = go s
  where
    -- t is the way to the side s
    made : (s : Bool) (t : Point) → ((q : Plane) (Y : Point) → q ∈ qs → at q Y ≡ at q t → pos 0 ⋖ at (half s q) Y)
        → ((q : Plane) (Y : Point) → pos 0 ⋖ at (half s q) Y → (front Y q ≡ s) × (at q Y ≢ pos 0)) → Leaned s G qs X
    made s t h k = record {
      to = y.to;
      keeps = λ g m. y.keeps g (in_left qs m);
      off = record { none = λ q m. off q m (lies (at q X)) };
      sides = λ q m. sides q m (lies (at q X));
      over = λ q m z. h q y.to m (y.goes q z);
    }
      where
        y : Moved (G ++ qs) X t
        y = move (G ++ qs) X t

        off : (q : Plane) → q ∈ qs → Lies (at q X) → at q y.to ≢ pos 0
        off q m (below a) = neg_not_zero ((y.keeps q (in_right G m)).neg' a)
        off q m (on z) = (k q y.to (h q y.to m (y.goes q z))).1
        off q m (above a) = pos_not_zero ((y.keeps q (in_right G m)).pos' a)

        sides : (q : Plane) → q ∈ qs → Lies (at q X) → front y.to q ≡ leaning s X q
        sides q m (below a) = front_false q y.to ((y.keeps q (in_right G m)).neg' a) ∙ sym (leaning_below s X q a)
        sides q m (on z) = (k q y.to (h q y.to m (y.goes q z))).0 ∙ sym (leaning_on s X q z)
        sides q m (above a) = front_true q y.to ((y.keeps q (in_right G m)).pos' a) ∙ sym (leaning_above s X q a)

    go : (s : Bool) → Leaned s G qs X
    go true = made true slope (λ q Y m e. rw e (slope_front (l q m))) (λ q Y h. (front_true q Y h, pos_not_zero h))
    go false = made false (flip slope) (λ q Y m e. flip_front q Y (rw (e, at_back q slope) (pos_neg (slope_front (l q m))))) (λ q Y h. (front_false q Y (flip_back q Y h), neg_not_zero (flip_back q Y h)))

module _ (S : Space) (l : (q : Plane) → q ∈ S.list → Lawful q) {c : List Plane} {X : Point} (i : Inside c X) (s : Bool) where
  y : Leaned s c S.list X
  y = lean s c S.list X l

  lean_mark : S.mark (front y.to) ≡ S.mark (leaning s X)
  lean_mark = S.local _ _ y.sides

  -- the mark beside a point of the cell
  pub beside_cell : Right S c (S.mark (leaning s X))
  beside_cell = record { is = λ n u. sym (u.all y.to (keeps_inside y.keeps i) y.off) ∙ lean_mark }

  -- the mark beside the witness of a cut
  pub beside_half : (q : Plane) → q ∈ S.list → at q X ≡ pos 0 → Right S (half s q ∷ c) (S.mark (leaning s X))
  beside_half q m z = record { is = λ n u. sym (u.all y.to (cons (y.over q m z) (keeps_inside y.keeps i)) y.off) ∙ lean_mark }

-- the mark of the root, before the first facet
pub beside_origin : (S : Space) → ((q : Plane) → q ∈ S.list → Lawful q) → (s : Bool) → Right S box (S.mark (leaning s origin))
beside_origin S l s = beside_cell S l box_origin s

-- ---- beside a facet

true_false : true ≡ false → ⊥
true_false e = let z : ◌≡◌ {A = ℕ} 0 1 = cc in omega arith

abbrev pub facet_mark : Bool → Facet → Mark
facet_mark true F = F.fore
facet_mark false F = F.aft

pub beside_facet : (S : Space) → General S.list → {F : Facet} {c : List Plane} → Sound S F → Enters F c → (s : Bool) → Right S (half s F.plane ∷ c) (facet_mark s F)
beside_facet S g {F} {c} k e s = record {
  is = λ n u. sym (u.all (t s).to (cons (over s (t s).to (t s).off ((t s).sides F.plane k.member)) (keeps_inside (t s).keeps b.inside)) (t s).off)
      ∙ S.local _ _ (t s).sides ∙ said s;
}
  where
    b : Bordered S F c
    b = facet_border S g k e

    t : (s : Bool) → Stepped F.plane s c S.list b.point
    t s = step F.plane s c S.list b.point (g.nonzero F.plane k.member) b.border.on b.border.others

    said : (s : Bool) → S.mark (taking F.plane s b.point) ≡ facet_mark s F
    said true = k.in_front b.point b.on
    said false = k.behind b.point b.on

    over : (s : Bool) (Y : Point) → Off S.list Y → front Y F.plane ≡ taking F.plane s b.point F.plane → pos 0 ⋖ at (half s F.plane) Y
    over s Y o f = by s (f ∙ taking_same F.plane s b.point F.plane refl) (lies (at F.plane Y))
      where
        by : (s : Bool) → front Y F.plane ≡ s → Lies (at F.plane Y) → pos 0 ⋖ at (half s F.plane) Y
        by true f (below h) = absurd (true_false (sym f ∙ front_false F.plane Y h))
        by false f (below h) = flip_front F.plane Y h
        by s f (on h) = absurd (o.none F.plane k.member h)
        by true f (above h) = h
        by false f (above h) = absurd (true_false (sym (front_true F.plane Y h) ∙ f))

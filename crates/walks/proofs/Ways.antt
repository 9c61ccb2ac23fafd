-- The way of a walk: what stands at a code, what comes of a plane that cuts the cell or misses it, and the cell on a path.
--     as_mark, as_leaf, as_row      the tree at a mark, and at a row
--     walk_cut, walk_fore, walk_aft the walk of a node whose plane cuts the cell, or misses it
--     second_alone                  B where A's mark decides alone
--     on_inside                     a cell on a path has a point
--     plane_of_in                   the plane of a row
--     step_cut, step_fore, step_aft what comes of the class of a row's plane
use mathlib.Core.Path.{◌≡◌, refl, sym, ap, subst, ◌∙◌}
use mathlib.Core.Bool.{Bool, true, false}
use mathlib.Core.List.{List, ◌∷◌}
use Prim.Native.Nat.{ℕ, ◌+◌, ◌*◌, ◌≤◌, ◌<◌}
use native.Mathlib.Omega.{arith}
use lib.IntN.{ℤ}
use lib.ListN.{length, get_or}
use Rattle.whole.specs.Tests.{differ}
use Rattle.whole.specs.Order.{pos_not_zero, neg_not_zero, lt_not_lt}
use Rattle.scope.specs.Planes.{Plane, Point, flip, Lawful}
use Rattle.scope.specs.Solids.{Mark, IN, OUT, Tree, leaf, node, mark, number}
use Rattle.scope.specs.Cells.{Inside, Cuts, AllFront, AllBack, Walked, end, cut, fore, aft, join}
use Rattle.theory.specs.Planes.Lawful.{lawful_nonzero}
use Rattle.theory.specs.Cells.Box.{origin, box_origin}
use Rattle.theory.specs.Cells.Sides.{half, half_front, half_back}
use Rattle.theory.specs.Cells.Path.{kept_few}
use Rattle.planes.specs.Values.{plane, meeting}
use Rattle.planes.specs.declared.Plane as struct
use Rattle.planes.specs.declared.Meeting.{Meeting}
use Rattle.tables.specs.Rows.{plane_at}
use Rattle.cells.specs.declared.Classified.{Classified}
use Rattle.cells.specs.Paths.{OnPath, at_box, below, witness_at, Witness, Classes, is_cut, is_front, is_behind, ClassifiedIn, ClassifyIn}
use Rattle.cells.proofs.Paths.{on_map, on_kept}
use Rattle.std.specs.Prelude.{Option as Maybe}
use Rattle.walks.specs.declared.operations.Mark as marks
use Rattle.walks.specs.declared.rows.Operands.{Operands}
use Rattle.walks.specs.declared.Reached as Reached
use Rattle.walks.specs.Standing.{offset, list, walked, number_at, PlaneOfIn, RowIs, Stands, at_mark, at_row}
use Rattle.walks.specs.Walks.{In, WalkedIn, StandsIn, StepIn, ToCode, StepTold}
use Rattle.walks.specs.Marks.{mark_of, mark_code}
use Rattle.walks.proofs.Marks.{mark_in, mark_same}

-- ---- what stands at a code

pub record MarkAt (c : ℕ) (t : Tree) : Type 0 where
  pub met : Mark
  pub code_is : c ≡ number (mark met)
  pub is : t ≡ leaf met

pub record RowAt (xs : List ℤ) (numbers ns : List ℕ) (o r : ℕ) (t : Tree) : Type 0 where
  pub plane : Plane
  pub front : Tree
  pub back : Tree
  pub is : t ≡ node plane front back
  pub row : RowIs xs numbers ns o r plane
  pub front_stands : Stands xs numbers ns o (get_or ns (3 * r + 1) 0) front
  pub back_stands : Stands xs numbers ns o (get_or ns (3 * r + 2) 0) back

pub as_mark : {xs : List ℤ} {numbers ns : List ℕ} {o c : ℕ} {t : Tree} → 65534 ≤ c → Stands xs numbers ns o c t → MarkAt c t
as_mark h (at_mark m) = record { met = m; code_is = refl; is = refl }
as_mark h (at_row r x y) = absurd (omega (arith, h, r.few))

pub as_row : {xs : List ℤ} {numbers ns : List ℕ} {o r : ℕ} {t : Tree} → r < 65534 → Stands xs numbers ns o r t → RowAt xs numbers ns o r t
as_row h (at_mark m) = absurd (omega (arith, h, (mark_in m refl).0))
as_row h (at_row {p = p} {f = f} {b = b} r x y) = record { plane = p; front = f; back = b; is = refl; row = r; front_stands = x; back_stands = y }

-- the tree at the code of a mark is its leaf
pub as_leaf : {xs : List ℤ} {numbers ns : List ℕ} {o c : ℕ} {t : Tree} (m : marks.Mark) → c ≡ mark_code m → Stands xs numbers ns o c t → t ≡ leaf (mark_of m)
as_leaf m e s = let a = as_mark (omega (arith, (mark_in (mark_of m) e).0)) s in a.is ∙ ap leaf (mark_same a.met (mark_of m) (sym a.code_is ∙ e))

-- a code is a mark or one of the first thousand rows
pub code_small : {xs : List ℤ} {numbers ns : List ℕ} {o c : ℕ} {t : Tree} → Stands xs numbers ns o c t → c < 65534 → c < 1000
code_small (at_mark m) h = absurd (omega (arith, h, (mark_in m refl).0))
code_small (at_row r x y) h = r.few

-- ---- the walk of a node

pub record BothSides (J : Plane → Tree → Tree → Tree) (L : List Plane → Mark → Tree → Type 0) (c : List Plane) (p : Plane) (f b s : Tree) : Type 0 where
  pub front : Tree
  pub back : Tree
  pub is : s ≡ J p front back
  pub front_walk : Walked J L (p ∷ c) f front
  pub back_walk : Walked J L (flip p ∷ c) b back

module _ {J : Plane → Tree → Tree → Tree} {L : List Plane → Mark → Tree → Type 0} where
  pub walk_cut : {c : List Plane} {p : Plane} {f b s : Tree} → Cuts p c → Walked J L c (node p f b) s → BothSides J L c p f b s
  walk_cut k (cut {f' = f'} {b' = b'} j u v) = record { front = f'; back = b'; is = refl; front_walk = u; back_walk = v }
  walk_cut k (fore a w) = absurd (pos_not_zero (a k.point k.inside) k.on)
  walk_cut k (aft a w) = absurd (neg_not_zero (a k.point k.inside) k.on)

  pub walk_fore : {c : List Plane} {p : Plane} {f b s : Tree} (X : Point) → Inside c X → AllFront p c → Walked J L c (node p f b) s → Walked J L c f s
  walk_fore X i a (cut k u v) = absurd (pos_not_zero (a k.point k.inside) k.on)
  walk_fore X i a (fore d w) = w
  walk_fore X i a (aft d w) = absurd (lt_not_lt (a X i) (d X i))

  pub walk_aft : {c : List Plane} {p : Plane} {f b s : Tree} (X : Point) → Inside c X → AllBack p c → Walked J L c (node p f b) s → Walked J L c b s
  walk_aft X i a (cut k u v) = absurd (neg_not_zero (a k.point k.inside) k.on)
  walk_aft X i a (fore d w) = absurd (lt_not_lt (d X i) (a X i))
  walk_aft X i a (aft d w) = w

-- every leaf of B gets one mark, and joins
pub second_alone : {o : Mark → Mark} {y : Mark} {c : List Plane} {B s : Tree} → ((b : Mark) → o b ≡ y) → Walked join (λ c' b r. r ≡ leaf (o b)) c B s → s ≡ leaf y
unfolding join
second_alone h (end e) = e ∙ ap leaf (h _)
second_alone {y = y} h (cut {p = p} k u v) = (λ i. join p (second_alone h u i) (second_alone h v i)) ∙ same y
  where
    same : (y : Mark) → join p (leaf y) (leaf y) ≡ leaf y
    same IN = refl
    same OUT = refl
second_alone h (fore a w) = second_alone h w
second_alone h (aft a w) = second_alone h w

-- ---- the cell on a path

pub on_inside : {xs path : List ℤ} {d : ℕ} {c : List Plane} → OnPath (In xs) path d c → (X : Point) × Inside c X
on_inside at_box = (origin, box_origin)
on_inside {path = path} (below {d = d} {c = c} h s g q e w l) = by s
  where
    by : (s : Bool) → (X : Point) × Inside (half s g ∷ c) X
    by true = half_front (lawful_nonzero q.lawful) (record { point = witness_at path d; on = w.on; inside = w.inside })
    by false = half_back (lawful_nonzero q.lawful) (record { point = witness_at path d; on = w.on; inside = w.inside })

pub on_few : {xs path : List ℤ} {d : ℕ} {c : List Plane} → OnPath (In xs) path d c → d ≤ length (list xs)
on_few h = kept_few (on_kept (λ p q. q.member) h)

-- ---- one step

pub plane_of_in : {xs : List ℤ} {numbers ns : List ℕ} {o r : ℕ} {p : Plane} → RowIs xs numbers ns o r p → PlaneOfIn xs numbers ns o r
plane_of_in h = record { number_in = record { inside = h.inside; numbered = h.numbered }; there = h.there }

module _ {o : Operands} {m : Maybe marks.Mark} {path : List ℤ} {depth : ℕ} {r : ℕ} (h : StepIn o m path depth r) where
  pub here_row : RowAt o.planes.now o.numbers.now (walked o m) (offset m) r h.tree
  here_row = as_row h.row h.stands

  -- the plane that was read is the row's
  module _ {p : struct.Plane} (e : plane p ≡ plane_at o.planes.now (number_at o m r)) where
    pub classify_in : ClassifyIn (plane p) path depth
    classify_in = record {
      lawful = subst Lawful (sym (e ∙ here_row.row.plane)) (h.grounds.lawful here_row.plane here_row.row.member);
      few = omega (arith, on_few h.on, h.grounds.few);
      room = omega (arith, on_few h.on, h.grounds.few, h.grounds.path_room);
      cell = h.cell;
      on = on_map (λ p q. q.lawful) h.on;
    }

    -- what the class says of the row's plane
    class : {k l : Classified} → k ≡ l → ClassifiedIn (plane p) path depth k → (cell : List Plane) → OnPath (In o.planes.now) path depth cell → Classes (plane_at o.planes.now (number_at o m r)) cell l
    class {k} d f cell on = subst (Classes (plane_at o.planes.now (number_at o m r)) cell) d (subst (λ q. Classes q cell k) e (f cell (on_map (λ p q. q.lawful) on)))

    pub step_cut : {k : Classified} (x : Meeting) → k ≡ Classified.Cut x → ClassifiedIn (plane p) path depth k → StepTold o m path depth r (Reached.TheVariants.Cut x)
    step_cut x d f = record { falls = λ e i. differ (cc); leads = λ cell t on s. by (class d f cell on) }
      where
        by : {q : Plane} {cell : List Plane} → Classes q cell (Classified.Cut x) → Witness q cell (meeting x)
        by (is_cut w) = w

    -- the cell lies on one side of the plane, and the walk goes on at the code of that side
    step_on : {g : ℕ} → (g < 65534 → g < r) → ((cell : List Plane) (t : Tree) → OnPath (In o.planes.now) path depth cell → StandsIn o m r t → ToCode o m cell t g) → StepTold o m path depth r (Reached.TheVariants.Code g)
    step_on {g} l f = record { falls = λ e i h. let j : e ≡ g = cc in omega (arith, j, l (subst (λ n. n < 65534) j h)); leads = f }

    pub step_fore : {k : Classified} {g : ℕ} → k ≡ Classified.Front → ClassifiedIn (plane p) path depth k → g ≡ get_or (walked o m) (3 * r + 1) 0 → StepTold o m path depth r (Reached.TheVariants.Code g)
    step_fore {k} {g} d f i = step_on (subst (λ g. g < 65534 → g < r) (sym i) here_row.row.front_less) λ cell t on s.
        let at = as_row h.row s in
        record { tree = at.front; stands = subst (λ g. StandsIn o m g at.front) (sym i) at.front_stands; walk = λ q B k S w. walk_fore (on_inside on).0 (on_inside on).1 (by (subst (λ u. Classes u cell Classified.Front) at.row.plane (class d f cell on))) (subst (λ t. WalkedIn q B k cell t S) at.is w) }
      where
        by : {q : Plane} {cell : List Plane} → Classes q cell Classified.Front → AllFront q cell
        by (is_front z) = z

    pub step_aft : {k : Classified} {g : ℕ} → k ≡ Classified.Behind → ClassifiedIn (plane p) path depth k → g ≡ get_or (walked o m) (3 * r + 2) 0 → StepTold o m path depth r (Reached.TheVariants.Code g)
    step_aft {k} {g} d f i = step_on (subst (λ g. g < 65534 → g < r) (sym i) here_row.row.back_less) λ cell t on s.
        let at = as_row h.row s in
        record { tree = at.back; stands = subst (λ g. StandsIn o m g at.back) (sym i) at.back_stands; walk = λ q B k S w. walk_aft (on_inside on).0 (on_inside on).1 (by (subst (λ u. Classes u cell Classified.Behind) at.row.plane (class d f cell on))) (subst (λ t. WalkedIn q B k cell t S) at.is w) }
      where
        by : {q : Plane} {cell : List Plane} → Classes q cell Classified.Behind → AllBack q cell
        by (is_behind z) = z

-- The normal form, begun: a tree whose rows are the normal form's, and which is it when the point call answers ON for every boundary point.
--     Right, Begun                             the mark of a leaf; the form begun
--     child, reply_on, reply_side              a half of a row, and what the point call answers there
--     Under, under_..                          rows only ever become more, and a point that is ON stays so
--     not_uniform, first_one                   a mixed cell is not uniform; a cell has one first plane
--     begun_under                              the normal form has the rows that stand
--     begun_normal, begun_form                 all boundary points are ON: the normal form
use Rattle.std.specs.Prelude.{◌≡◌, refl, Bool, List, ◌∷◌, ◌≤◌, pos}
use Rattle.std.proofs.Common.{sym, ap, subst, ◌∙◌, arith}
use Rattle.std.proofs.Math.Bool.{true, false}
use Rattle.whole.specs.Order.{◌⋖◌, Lies, below, on, above, lies}
use Rattle.whole.specs.Sign.{sgn_above, sgn_below}
use Rattle.whole.specs.Tests.{differ}
use Rattle.scope.proofs.Points.{flip_back}
use Rattle.scope.specs.Planes.{Plane, Point, at, flip}
use Rattle.scope.specs.Cells.{Inside, box}
use Rattle.scope.specs.Solids.{Mark, Tree, leaf, node, rows, ON, reply}
use Rattle.scope.specs.Normal.{Space, Uniform, First, Normal, uniform, split}
use Rattle.theory.specs.Planes.Order.{ordered, first, level, last}
use Rattle.theory.specs.Planes.General.{General}
use Rattle.theory.specs.Cells.Box.{box_origin, tail, head}
use Rattle.theory.specs.Cells.Move.{flip_front}
use Rattle.theory.specs.Cells.Sides.{half, half_front, half_back}
use Rattle.theory.specs.Cells.Uniform.{Mixed}
use Rattle.theory.specs.Forms.Normal.{Within, Border}
use Rattle.growing.specs.Facets.{bare_uniform}

-- if the cell is uniform, m is its mark; nothing is said of a leaf that will be split
pub record Right (S : Space) (c : List Plane) (m : Mark) : Type 0 where
  pub is : (n : Mark) → Uniform S c n → n ≡ m

-- the normal form, begun: its rows are those of the form, and a leaf that the form has too has the form's mark
pub data Begun (S : Space) : List Plane → Tree → Type 0 where
  a_leaf : {c : List Plane} {m : Mark} → Right S c m → Begun S c (leaf m)
  a_row : {c : List Plane} {p : Plane} {f b : Tree} → Mixed S c → First S c p → Begun S (p ∷ c) f → Begun S (flip p ∷ c) b → Begun S c (node p f b)

-- ---- the halves of a row

-- the tree in front, or behind
abbrev pub child : Bool → Tree → Tree → Tree
child true f b = f
child false f b = b

module _ (p : Plane) (f b : Tree) (X : Point) where
  pub reply_on : at p X ≡ pos 0 → reply (node p f b) X ≡ ON
  unfolding reply
  reply_on z = rw z

  pub reply_side : (s : Bool) → pos 0 ⋖ at (half s p) X → reply (node p f b) X ≡ reply (child s f b) X
  unfolding reply
  reply_side true h = rw (sgn_above h)
  reply_side false h = rw (sgn_below (flip_back p X h))

never_on : (m : Mark) (X : Point) → reply (leaf m) X ≡ ON → ⊥
unfolding reply
never_on m X e = differ (cc)

-- ---- rows only ever become more

-- the second tree has the rows of the first, and perhaps more in place of its leaves
pub data Under : Tree → Tree → Type 0 where
  stays : {m : Mark} {t : Tree} → Under (leaf m) t
  grows : {p q : Plane} {f b f' b' : Tree} → p ≡ q → Under f f' → Under b b' → Under (node p f b) (node q f' b')

pub under_none : (t : Tree) → Under t t
under_none (leaf m) = stays
under_none (node p f b) = grows refl (under_none f) (under_none b)

pub under_then : {t t' t'' : Tree} → Under t t' → Under t' t'' → Under t t''
under_then stays v = stays
under_then (grows e f b) (grows e' f' b') = grows (e ∙ e') (under_then f f') (under_then b b')

pub under_rows : {t t' : Tree} → Under t t' → rows t ≤ rows t'
unfolding rows
under_rows stays = omega arith
under_rows (grows e f b) = omega (arith, under_rows f, under_rows b)

-- a row that the point lies on stays on its way
pub under_on : {t t' : Tree} (X : Point) → Under t t' → reply t X ≡ ON → reply t' X ≡ ON
under_on X (stays {m = m}) e = absurd (never_on m X e)
under_on X (grows {p = p} {q = q} {f = f} {b = b} {f' = f'} {b' = b'} i u v) e = go (lies (at p X)) (under_on X u) (under_on X v)
  where
    side : (s : Bool) → pos 0 ⋖ at (half s p) X → (reply (child s f b) X ≡ ON → reply (child s f' b') X ≡ ON) → reply (node q f' b') X ≡ ON
    side s h k = reply_side q f' b' X s (subst (λ r. pos 0 ⋖ at (half s r) X) i h) ∙ k (sym (reply_side p f b X s h) ∙ e)

    go : Lies (at p X) → (reply f X ≡ ON → reply f' X ≡ ON) → (reply b X ≡ ON → reply b' X ≡ ON) → reply (node q f' b') X ≡ ON
    go (below h) u v = side false (flip_front p X h) v
    go (on h) u v = reply_on q f' b' X (sym (ap (λ r. at r X) i) ∙ h)
    go (above h) u v = side true h u

-- ---- up to those of the normal form

pub not_uniform : {S : Space} {c : List Plane} → Mixed S c → (m : Mark) → ¬ Uniform S c m
not_uniform u m v = u.differ (v.all u.y u.y_in u.y_off ∙ sym (v.all u.z u.z_in u.z_off))

pub first_one : {S : Space} {c : List Plane} {p q : Plane} → First S c p → First S c q → p ≡ q
first_one {p = p} {q = q} a b = elim (ordered p q) [ first h ↦ absurd (b.least p a.boundary a.cuts h.is) | level e ↦ e | last h ↦ absurd (a.least q b.boundary b.cuts h.is) ]

-- a row stands only where the cell is mixed, and has the plane that the form has there
pub begun_under : {S : Space} {c : List Plane} {t r : Tree} → Begun S c t → Normal S c r → Under t r
begun_under (a_leaf k) u = stays
begun_under (a_row x y f b) (uniform {m = m} u) = absurd (not_uniform x m u)
begun_under {S} {c} (a_row x y f b) (split {f = f''} {b = b''} n z f' b') =
    let e = first_one y z in
    grows e (begun_under f (subst (λ q. Normal S (q ∷ c) f'') (sym e) f')) (begun_under b (subst (λ q. Normal S (flip q ∷ c) b'') (sym e) b'))

-- ---- the end

module _ (S : Space) (g : General S.list) where
  -- no boundary point lies in a leaf's cell, since none is ON in a leaf: so the cell is uniform
  pub begun_normal : {c : List Plane} {X : Point} {t : Tree} → Within c box → Inside c X → Begun S c t → ((p : Plane) (Y : Point) → Border S p Y → Inside c Y → reply t Y ≡ ON) → Normal S c t
  begun_normal {c} v i (a_leaf {m = m} r) k =
      let u = bare_uniform S g v i (λ p Y b j. never_on m Y (k p Y b j)) in
      uniform (subst (Uniform S c) (r.is u.0 u.1) u.1)
  begun_normal v i (a_row {p = p} {f = f} {b = b} x y u w) k =
      let z = g.nonzero p y.boundary.member in
      split (not_uniform x) y
      (begun_normal (λ Y j. v Y (tail j)) (half_front z y.cuts).1 u (λ q Y d j. sym (reply_side p f b Y true (head j)) ∙ k q Y d (tail j)))
      (begun_normal (λ Y j. v Y (tail j)) (half_back z y.cuts).1 w (λ q Y d j. sym (reply_side p f b Y false (head j)) ∙ k q Y d (tail j)))

  pub begun_form : {t : Tree} → Begun S box t → ((p : Plane) (Y : Point) → Border S p Y → reply t Y ≡ ON) → Normal S box t
  begun_form t k = begun_normal (λ X i. i) box_origin t (λ p Y b i. k p Y b)

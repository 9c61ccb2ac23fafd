-- The shape of a cell's form: a leaf, or a node of the first listed plane that cuts the cell (B.3).
--     not_uniform            a mixed cell is not uniform
--     formed_leaf            the form of a uniform cell
--     Halves, formed_node    the form of any other, and of its halves
--     halves_differ          the forms of the halves of a cell that is not uniform are not one mark
use mathlib.Core.Path.{◌≡◌, sym, ap, subst, ◌∙◌}
use mathlib.Core.List.{List, ◌∷◌}
use Rattle.whole.specs.Tests.{differ}
use Rattle.whole.specs.Order as order
use Rattle.whole.specs.Order.{Lies, lies}
use Rattle.whole.specs.Members.{◌∈◌}
use Rattle.scope.specs.Planes.{Plane, Point, at, flip}
use Rattle.scope.specs.Solids.{Mark, Tree, leaf, node, front}
use Rattle.scope.specs.Cells.{Inside, Off}
use Rattle.scope.specs.Normal as normal
use Rattle.scope.specs.Normal.{Space, Normal, uniform, split}
use Rattle.theory.specs.Planes.Order as ranks
use Rattle.theory.specs.Planes.Order.{Ordered, ordered}
use Rattle.theory.specs.Planes.General.{General}
use Rattle.theory.specs.Cells.Move.{flip_front}
use Rattle.theory.specs.Cells.Box.{cons}
use Rattle.theory.specs.Cells.Uniform as theory
use Rattle.theory.specs.Forms.Normal.{normal_one}

pub not_uniform : {S : Space} {c : List Plane} → theory.Mixed S c → (m : Mark) → ¬ normal.Uniform S c m
not_uniform u m v = u.differ (v.all u.y u.y_in u.y_off ∙ sym (v.all u.z u.z_in u.z_off))

pub formed_leaf : {S : Space} {c : List Plane} {X : Point} {m : Mark} {s : Tree} → General S.list → Inside c X → normal.Uniform S c m → Normal S c s → s ≡ leaf m
formed_leaf {S} g i u n = normal_one S g i n (uniform u)

-- the forms of the two halves
pub record Halves (S : Space) (c : List Plane) (p : Plane) (s : Tree) : Type 0 where
  pub front : Tree
  pub back : Tree
  pub is : s ≡ node p front back
  pub front_form : Normal S (p ∷ c) front
  pub back_form : Normal S (flip p ∷ c) back

pub formed_node : {S : Space} {c : List Plane} {p : Plane} {s : Tree} → ((m : Mark) → ¬ normal.Uniform S c m) → normal.First S c p → Normal S c s → Halves S c p s
formed_node n f (uniform {m = m} u) = absurd (n m u)
formed_node {S} {c} {p} n f (split {p = q} {f = x} {b = y} m g h k) =
    let e = same (ordered p q) in
    record { front = x; back = y; is = ap (λ p. node p x y) (sym e); front_form = subst (λ p. Normal S (p ∷ c) x) (sym e) h; back_form = subst (λ p. Normal S (flip p ∷ c) y) (sym e) k }
  where
    same : Ordered p q → p ≡ q
    same (ranks.first l) = absurd (g.least p f.boundary f.cuts l.is)
    same (ranks.level e) = e
    same (ranks.last l) = absurd (f.least q g.boundary g.cuts l.is)

leaf_form : {S : Space} {c : List Plane} {m : Mark} {s : Tree} → s ≡ leaf m → Normal S c s → normal.Uniform S c m
leaf_form {S} {c} {m} e (uniform {m = n} u) = let d : n ≡ m = cc in subst (normal.Uniform S c) d u
leaf_form e (split n f x y) = differ (cc)

pub halves_differ : {S : Space} {c : List Plane} {p : Plane} {f b : Tree} → p ∈ S.list → ((m : Mark) → ¬ normal.Uniform S c m) → Normal S (p ∷ c) f → Normal S (flip p ∷ c) b → (m : Mark) → f ≡ leaf m → b ≡ leaf m → ⊥
halves_differ {S} {c} {p} i n x y m e d = n m (record { all = λ X j off. by X j off (lies (at p X)) })
  where
    by : (X : Point) → Inside c X → Off S.list X → Lies (at p X) → S.mark (front X) ≡ m
    by X j off (order.below l) = (leaf_form d y).all X (cons (flip_front p X l) j) off
    by X j off (order.on z) = absurd (off.none p i z)
    by X j off (order.above l) = (leaf_form e x).all X (cons l j) off

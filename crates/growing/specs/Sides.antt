-- One plane p of a space that is an operation of two trees: a region is carried down the operands, and the marks in front of p and behind it are told.
--     Side, side_..                          on p, in the region, on a side of p: the walk of an operand goes on in a part of it
--     Level, level_..                        where an operand has one mark on both sides; spared: a tree without p has
--     Operated, operated_both, -turned       the space is an operation of two trees, told in either order
--     marks_told, marks_facet                both operands have told their marks: the space's, and, if the two differ, a facet
--     Same, same_..                          where the space has one mark on both sides there is no boundary point of p
--     border_half                            a boundary point of p in a region that another plane parts is in a half
use Rattle.std.specs.Prelude.{◌≡◌, refl, Bool, true, false, not, List, ◌∷◌, ◌≢◌, pos}
use Rattle.std.proofs.Common.{sym, ap₂, subst, ◌∙◌}
use Rattle.whole.specs.Order.{◌⋖◌, Lies, below, on, above, lies}
use Rattle.whole.specs.Members.{◌∈◌}
use Rattle.scope.proofs.Points.{flip_back, front_false, front_true}
use Rattle.scope.specs.Planes.{Plane, Point, at}
use Rattle.scope.specs.Cells.{Inside, box, Cuts}
use Rattle.scope.specs.Solids.{Mark, IN, OUT, Tree, leaf, node, planes, walk, front}
use Rattle.scope.specs.Normal.{Space, walk_local, both, taking}
use Rattle.theory.specs.Planes.General.{Independent}
use Rattle.theory.specs.Cells.Move.{flip_front}
use Rattle.theory.specs.Cells.Box.{cons, tail, head}
use Rattle.theory.specs.Cells.Sides.{half}
use Rattle.theory.specs.Cells.Clear.{taking_same, taking_other}
use Rattle.theory.specs.Forms.Normal.{Within, Border}
use Rattle.theory.specs.Forms.OnPlane.{strict_front, strict_back, step_front, step_back}
use Rattle.growing.specs.Facets.{Sound}
use Rattle.growing.specs.Begun.{child}

-- ---- one side of p, in one operand

-- on p, in the region c, the walk of A that takes p's side s is the walk of t
pub record Side (p : Plane) (s : Bool) (c : List Plane) (A t : Tree) : Type 0 where
  pub goes : (X : Point) → at p X ≡ pos 0 → Inside c X → walk A (taking p s X) ≡ walk t (taking p s X)

pub side_start : (p : Plane) (s : Bool) (c : List Plane) (A : Tree) → Side p s c A A
side_start p s c A = record { goes = λ X z i. refl }

pub side_leaf : {p : Plane} {s : Bool} {c : List Plane} {A : Tree} {m : Mark} → Side p s c A (leaf m) → (X : Point) → at p X ≡ pos 0 → Inside c X → walk A (taking p s X) ≡ m
unfolding walk
side_leaf k X z i = k.goes X z i

step_side : (h : Bool) (q : Plane) (f b : Tree) (σ : Plane → Bool) → σ q ≡ h → walk (node q f b) σ ≡ walk (child h f b) σ
step_side true = step_front
step_side false = step_back

half_side : (h : Bool) (q : Plane) (X : Point) → pos 0 ⋖ at (half h q) X → front X q ≡ h
half_side true q X i = front_true q X i
half_side false q X i = front_false q X (flip_back q X i)

-- where p has no point in one half of the region, its points are strictly in the other
only_side : (h : Bool) (p q : Plane) {c : List Plane} → Independent p q → ¬ Cuts p (half (not h) q ∷ c) → (X : Point) → at p X ≡ pos 0 → Inside c X → front X q ≡ h
only_side true p q j n X z i = front_true q X (strict_front p q j n X z i)
only_side false p q j n X z i = front_false q X (strict_back p q j n X z i)

module _ {p : Plane} {s : Bool} {c : List Plane} {A : Tree} where
  pub side_within : {d : List Plane} {t : Tree} → Within d c → Side p s c A t → Side p s d A t
  side_within w k = record { goes = λ X z i. k.goes X z (w X i) }

  module _ {q : Plane} {f b : Tree} where
    -- at a row of p itself
    pub side_own : q ≡ p → Side p s c A (node q f b) → Side p s c A (child s f b)
    side_own e k = record { goes = λ X z i. k.goes X z i ∙ step_side s q f b (taking p s X) (taking_same p s X q e) }

    -- at a row of another plane that parts the region
    pub side_half : q ≢ p → (h : Bool) → Side p s c A (node q f b) → Side p s (half h q ∷ c) A (child h f b)
    side_half d h k = record { goes = λ X z i. k.goes X z (tail i) ∙ step_side h q f b (taking p s X) (taking_other p s X q d ∙ half_side h q X (head i)) }

    -- at one that does not
    pub side_only : q ≢ p → Independent p q → (h : Bool) → ¬ Cuts p (half (not h) q ∷ c) → Side p s c A (node q f b) → Side p s c A (child h f b)
    side_only d j h n k = record { goes = λ X z i. k.goes X z i ∙ step_side h q f b (taking p s X) (taking_other p s X q d ∙ only_side h p q j n X z i) }

-- ---- one mark on both sides, in one operand

pub record Level (p : Plane) (c : List Plane) (A : Tree) : Type 0 where
  pub same : (X : Point) → at p X ≡ pos 0 → Inside c X → walk A (taking p true X) ≡ walk A (taking p false X)

-- a tree without p
pub spared : (p : Plane) (t : Tree) → ¬ (p ∈ planes t) → (X : Point) → walk t (taking p true X) ≡ walk t (taking p false X)
spared p t n X = walk_local t _ _ (λ q m. let d : q ≢ p = λ e. n (subst (λ r. r ∈ planes t) e m) in taking_other p true X q d ∙ sym (taking_other p false X q d))

pub level_spared : {p : Plane} {c : List Plane} {A : Tree} (t : Tree) → ¬ (p ∈ planes t) → Side p true c A t → Side p false c A t → Level p c A
level_spared {p} t n k l = record { same = λ X z i. k.goes X z i ∙ spared p t n X ∙ sym (l.goes X z i) }

pub level_without : {p : Plane} (c : List Plane) (A : Tree) → ¬ (p ∈ planes A) → Level p c A
level_without {p} c A n = level_spared A n (side_start p true c A) (side_start p false c A)

pub level_leaf : {p : Plane} {c : List Plane} {A : Tree} {m n : Mark} → m ≡ n → Side p true c A (leaf m) → Side p false c A (leaf n) → Level p c A
level_leaf e k l = record { same = λ X z i. side_leaf k X z i ∙ e ∙ sym (side_leaf l X z i) }

pub level_within : {p : Plane} {c d : List Plane} {A : Tree} → Within d c → Level p c A → Level p d A
level_within w k = record { same = λ X z i. k.same X z (w X i) }

-- ---- an operation of two trees

-- the mark of the space is the operation of the two walks
pub record Operated (S : Space) (o : Mark → Mark → Mark) (A B : Tree) : Type 0 where
  pub mark_is : (σ : Plane → Bool) → S.mark σ ≡ o (walk A σ) (walk B σ)

pub operated_both : (o : Mark → Mark → Mark) (A B : Tree) → Operated (both o A B) o A B
operated_both o A B = record { mark_is = λ σ. refl }

-- so what is told of the first operand holds of the second
pub operated_turned : (o : Mark → Mark → Mark) (A B : Tree) → Operated (both o A B) (λ x y. o y x) B A
operated_turned o A B = record { mark_is = λ σ. refl }

-- the space has one mark on both sides of p
pub record Same (S : Space) (p : Plane) (c : List Plane) : Type 0 where
  pub same : (X : Point) → at p X ≡ pos 0 → Inside c X → S.mark (taking p true X) ≡ S.mark (taking p false X)

pub same_within : {S : Space} {p : Plane} {c d : List Plane} → Within d c → Same S p c → Same S p d
same_within w k = record { same = λ X z i. k.same X z (w X i) }

pub same_none : {S : Space} {p : Plane} {c : List Plane} {X : Point} → Same S p c → Border S p X → Inside c X → ⊥
same_none {X = X} k b i = b.differ (k.same X b.on i)

-- both operands have told their marks on the side s
pub marks_told : {S : Space} {o : Mark → Mark → Mark} {A B : Tree} {p : Plane} {s : Bool} {c : List Plane} {a b : Mark} → Operated S o A B → Side p s c A (leaf a) → Side p s c B (leaf b)
    → (X : Point) → at p X ≡ pos 0 → Inside c X → S.mark (taking p s X) ≡ o a b
marks_told {o = o} {p = p} {s = s} w h k X z i = w.mark_is (taking p s X) ∙ ap₂ o (side_leaf h X z i) (side_leaf k X z i)

module _ {S : Space} {o : Mark → Mark → Mark} {A B : Tree} {p : Plane} {c : List Plane} (w : Operated S o A B) where
  -- and on both sides: they make a facet, or none
  pub marks_facet : {a a' b b' : Mark} → p ∈ S.list → Within c box → o a b ≢ o a' b' → Side p true c A (leaf a) → Side p false c A (leaf a') → Side p true c B (leaf b) → Side p false c B (leaf b')
      → Sound S (record { plane = p; region = c; fore = o a b; aft = o a' b' })
  marks_facet m v d h h' k k' = record { member = m; within = v; in_front = λ X x. marks_told w h k X x.on x.inside; behind = λ X x. marks_told w h' k' X x.on x.inside; differ = d }

  pub same_marks : {a a' b b' : Mark} → o a b ≡ o a' b' → Side p true c A (leaf a) → Side p false c A (leaf a') → Side p true c B (leaf b) → Side p false c B (leaf b') → Same S p c
  same_marks e h h' k k' = record { same = λ X z i. marks_told w h k X z i ∙ e ∙ sym (marks_told w h' k' X z i) }

  -- each operand has one mark on both sides, known or not
  pub same_level : Level p c A → Level p c B → Same S p c
  same_level h k = record { same = λ X z i. w.mark_is _ ∙ ap₂ o (h.same X z i) (k.same X z i) ∙ sym (w.mark_is _) }

  -- A's mark, one on both sides, decides alone
  pub same_alone : {a : Mark} → o a IN ≡ o a OUT → Side p true c A (leaf a) → Side p false c A (leaf a) → Same S p c
  same_alone {a} e h h' = record { same = λ X z i. w.mark_is _ ∙ ap₂ o (side_leaf h X z i) refl ∙ any _ _ ∙ sym (ap₂ o (side_leaf h' X z i) refl) ∙ sym (w.mark_is _) }
    where
      any : (b b' : Mark) → o a b ≡ o a b'
      any IN IN = refl
      any IN OUT = e
      any OUT IN = sym e
      any OUT OUT = refl

-- ---- the region is parted by another plane of the space

pub border_half : {S : Space} {p : Plane} {c : List Plane} {X : Point} (q : Plane) → q ∈ S.list → q ≢ p → Border S p X → Inside c X → (h : Bool) × Inside (half h q ∷ c) X
border_half {p = p} {c = c} {X = X} q m d b i = go (lies (at q X))
  where
    go : Lies (at q X) → (h : Bool) × Inside (half h q ∷ c) X
    go (below h) = (false, cons (flip_front q X h) i)
    go (on h) = absurd (b.others q m d h)
    go (above h) = (true, cons h i)

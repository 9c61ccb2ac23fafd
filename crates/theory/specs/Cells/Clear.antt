-- Points moved off planes, also on a plane off all the others, and a step off a plane to either side.
use Rattle.std.specs.Prelude.{◌≡◌, refl, Bool, true, false, List, [], ◌∷◌, ◌++◌, ◌≢◌, T, pos}
use Rattle.std.proofs.Common.{sym, ap, subst, ◌∙◌}
use Rattle.whole.specs.Expr.{#}
use Rattle.whole.specs.Vec.{dot4ᴱ}
use Rattle.whole.specs.Solve.{solve, ◌≐◌, vec4s}
use Rattle.whole.specs.Order.{◌⋖◌, Lies, below, on, above, lies, pos_neg, pos_not_zero, neg_not_zero}
use Rattle.whole.specs.Tests.{is_true, is_false}
use Rattle.whole.specs.Members.{◌∈◌, here, there, in_left, in_right}
use Rattle.scope.proofs.Points.{front_false, front_true}
use Rattle.scope.specs.Planes.{Plane, Point, at, flip, equal}
use Rattle.scope.specs.Cells.{Inside, Off}
use Rattle.scope.specs.Solids.{front}
use Rattle.scope.specs.Normal.{taking}
use Rattle.theory.specs.Cells.Move.{Keeps, Moved, move, at_flip, at_comm}
use Rattle.theory.specs.Cells.Sides.{slide}
use Rattle.theory.specs.Planes.General.{Independent, Nonzero}
use Rattle.theory.specs.Planes.Order.{same?, equal_of, equal_self}

-- ---- kept sides

pub keeps_refl : (g : Plane) (X : Point) → Keeps g X X
keeps_refl g X = record { pos' = λ h. h; neg' = λ h. h }

pub keeps_trans : {g : Plane} {X Y Z : Point} → Keeps g X Y → Keeps g Y Z → Keeps g X Z
keeps_trans h k = record { pos' = λ a. k.pos' (h.pos' a); neg' = λ a. k.neg' (h.neg' a) }

pub keeps_inside : {c : List Plane} {X Y : Point} → ((g : Plane) → g ∈ c → Keeps g X Y) → Inside c X → Inside c Y
keeps_inside k i = record { each = λ g m. (k g m).pos' (i.each g m) }

pub keeps_off : {g : Plane} {X Y : Point} → Keeps g X Y → at g X ≢ pos 0 → at g Y ≢ pos 0
keeps_off {g} {X} {Y} k n = go (lies (at g X))
  where
    go : Lies (at g X) → at g Y ≢ pos 0
    go (below h) = neg_not_zero (k.neg' h)
    go (on h) = absurd (n h)
    go (above h) = pos_not_zero (k.pos' h)

pub keeps_front : {g : Plane} {X Y : Point} → Keeps g X Y → at g X ≢ pos 0 → front Y g ≡ front X g
keeps_front {g} {X} {Y} k n = go (lies (at g X))
  where
    go : Lies (at g X) → front Y g ≡ front X g
    go (below h) = front_false g Y (k.neg' h) ∙ sym (front_false g X h)
    go (on h) = absurd (n h)
    go (above h) = front_true g Y (k.pos' h) ∙ sym (front_true g X h)

-- ---- on p, and off the others

pub record Cleared (p : Plane) (G qs : List Plane) (X : Point) : Type 0 where
  pub to : Point
  pub on_p : at p to ≡ pos 0
  pub keeps : (g : Plane) → g ∈ G → Keeps g X to
  pub off : (q : Plane) → q ∈ qs → q ≢ p → at q to ≢ pos 0

-- a way that p does not see and q does
abbrev Way : Plane → Plane → Type 0
Way p q = (t : Point) × (at p t ≡ pos 0) × (pos 0 ⋖ at q t)

pub clear : (p : Plane) (G qs : List Plane) (X : Point) → at p X ≡ pos 0 → ((q : Plane) → q ∈ qs → q ≢ p → Way p q) → Cleared p G qs X
clear p G [] X z w = record { to = X; on_p = z; keeps = λ g m. keeps_refl g X; off = λ q m. elim m [ ] }
clear p G (q ∷ qs) X z w = go (same? q p) (lies (at q X)) (λ H Y y. clear p H qs Y y (λ r m. w r (there m)))
  where
    first : (r : Plane) (Y : Point) → r ∈ (q ∷ qs) → (q ≢ p → at q Y ≢ pos 0) → ((r ∈ qs) → r ≢ p → at r Y ≢ pos 0) → r ≢ p → at r Y ≢ pos 0
    first r Y (here e) h t n = rw e (h (λ d. n (e ∙ d)))
    first r Y (there m) h t n = t m n

    -- from Y, where q is off already
    next : (Y : Point) → ((g : Plane) → g ∈ G → Keeps g X Y) → at q Y ≢ pos 0 → Cleared p (q ∷ G) qs Y → Cleared p G (q ∷ qs) X
    next Y k n c = record {
      to = c.to;
      on_p = c.on_p;
      keeps = λ g m. keeps_trans (k g m) (c.keeps g (there m));
      off = λ r m. first r c.to m (λ d. keeps_off (c.keeps q (here refl)) n) (c.off r);
    }

    go : Dec (q ≡ p) → Lies (at q X) → ((H : List Plane) (Y : Point) → at p Y ≡ pos 0 → Cleared p H qs Y) → Cleared p G (q ∷ qs) X
    go (yes e) s rec = let c = rec G X z in record { to = c.to; on_p = c.on_p; keeps = c.keeps; off = λ r m. first r c.to m (λ d. absurd (d e)) (c.off r) }
    go (no d) (below h) rec = next X (λ g m. keeps_refl g X) (neg_not_zero h) (rec (q ∷ G) X z)
    go (no d) (on h) rec =
        let t = w q (here refl) d in
        let y = move G X t.0 in
        next y.to y.keeps (rw (y.goes q h) (pos_not_zero t.2)) (rec (q ∷ G) y.to (y.goes p z ∙ t.1))
    go (no d) (above h) rec = next X (λ g m. keeps_refl g X) (pos_not_zero h) (rec (q ∷ G) X z)

pub clear_on : (p : Plane) (G qs : List Plane) (X : Point) → at p X ≡ pos 0 → ((q : Plane) → q ∈ qs → q ≢ p → Independent p q) → Cleared p G qs X
clear_on p G qs X z w = clear p G qs X z (λ q m d. slide p q (w q m d))

-- the functional 0 sees nothing
nil : Plane
nil = record { x = pos 0; y = pos 0; z = pos 0; w = pos 0 }

at_nil : (X : Point) → at nil X ≡ pos 0
unfolding at nil
at_nil = solve (vec4s 1) (λ X. dot4ᴱ (record { x = # 0; y = # 0; z = # 0; w = # 0 }) X ≐ # 0) tt

pub clear_off : (G qs : List Plane) (X : Point) → ((q : Plane) → q ∈ qs → Nonzero q) → (Y : Point) × ((g : Plane) → g ∈ G → Keeps g X Y) × Off qs Y
clear_off G qs X n =
    let c = clear nil G qs X (at_nil X) (λ q m d. (q, at_nil q, n q m)) in
    (c.to, c.keeps, record { none = λ q m. c.off q m (λ e. pos_not_zero (n q m) (ap (λ t. at t q) e ∙ at_nil q)) })

-- ---- a step off p

pub taking_same : (p : Plane) (s : Bool) (X : Point) (q : Plane) → q ≡ p → taking p s X q ≡ s
unfolding taking
taking_same p s X q e = rw (is_true (equal q p) (subst (λ t. T (equal q t)) e (equal_self q)))

pub taking_other : (p : Plane) (s : Bool) (X : Point) (q : Plane) → q ≢ p → taking p s X q ≡ front X q
unfolding taking
taking_other p s X q n = rw (is_false (equal q p) (λ t. n (equal_of q p t)))

pub record Stepped (p : Plane) (s : Bool) (G qs : List Plane) (X : Point) : Type 0 where
  pub to : Point
  pub keeps : (g : Plane) → g ∈ G → Keeps g X to
  pub off : Off qs to
  pub sides : (q : Plane) → q ∈ qs → front to q ≡ taking p s X q

pub step : (p : Plane) (s : Bool) (G qs : List Plane) (X : Point) → Nonzero p → at p X ≡ pos 0 → ((q : Plane) → q ∈ qs → q ≢ p → at q X ≢ pos 0) → Stepped p s G qs X
step p s G qs X n z o = go (towards s)
  where
    back : (Y : Point) → at p Y ≡ at p (flip p) → at p Y ⋖ pos 0
    back Y e = rw (e, at_comm p (flip p), at_flip p p) (pos_neg n)

    towards : (s : Bool) → (t : Point) × ((Y : Point) → at p Y ≡ at p t → (front Y p ≡ s) × (at p Y ≢ pos 0))
    towards true = (p, λ Y e. (front_true p Y (rw e n), pos_not_zero (rw e n)))
    towards false = (flip p, λ Y e. (front_false p Y (back Y e), neg_not_zero (back Y e)))

    go : (t : Point) × ((Y : Point) → at p Y ≡ at p t → (front Y p ≡ s) × (at p Y ≢ pos 0)) → Stepped p s G qs X
    go t = record { to = y.to; keeps = λ g m. y.keeps g (in_left qs m); off = record { none = λ q m. off q m (same? q p) }; sides = λ q m. sides q m (same? q p) }
      where
        y : Moved (G ++ qs) X t.0
        y = move (G ++ qs) X t.0

        off : (q : Plane) → q ∈ qs → Dec (q ≡ p) → at q y.to ≢ pos 0
        off q m (yes e) = rw e (t.1 y.to (y.goes p z)).1
        off q m (no d) = keeps_off (y.keeps q (in_right G m)) (o q m d)

        sides : (q : Plane) → q ∈ qs → Dec (q ≡ p) → front y.to q ≡ taking p s X q
        sides q m (yes e) = rw e (t.1 y.to (y.goes p z)).0 ∙ sym (taking_same p s X q e)
        sides q m (no d) = keeps_front (y.keeps q (in_right G m)) (o q m d) ∙ sym (taking_other p s X q d)

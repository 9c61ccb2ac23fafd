-- A plane and a cell: a missed cell lies on one side, both halves of a cut cell have points, and the witness of a cut tells the side of a plane that misses the half taken.
--     cuts_between, one_side_front, one_side_back, Decided, decide   one side
--     half_front, half_back                                          both halves
--     half, MissedSide, missed_side                                  the side of a missed plane
--     cuts_new, cuts_new_back                                        a plane that cuts is none of those above
use Rattle.std.specs.Prelude.{◌≡◌, refl, Bool, true, false, List, [], ◌∷◌, ◌≢◌, pos, neg_ℤ}
use Rattle.std.proofs.Common.{ap, ◌∙◌, arith}
use Rattle.whole.specs.Expr.{#, ◌⊕◌, ◌⊖◌, ◌⊗◌, neg}
use Rattle.whole.specs.Solve.{solve, ◌≐◌, nums}
use Rattle.whole.specs.Lin.{lin, ◌⊢◌, ◌≺◌}
use Rattle.whole.specs.Order.{◌⋖◌, Lies, below, on, above, lies, pos_neg, pos_not_zero, neg_not_zero}
use Rattle.whole.specs.Members.{◌∈◌, here, there}
use Rattle.scope.proofs.Points.{flip_back}
use Rattle.scope.specs.Planes.{Plane, Point, at, flip}
use Rattle.scope.specs.Cells.{Inside, Cuts, AllFront, AllBack}
use Rattle.theory.specs.Planes.General.{Independent}
use Rattle.theory.specs.Cells.Move.{comb, at_comb, at_flip, at_comm, at_back, flip_front, Keeps, move, between}
use Rattle.theory.specs.Cells.Box.{cons}

-- ---- one side

-- one side: two points of a cell on both sides of p make a cut
pub cuts_between : {p : Plane} {c : List Plane} {X Y : Point} → Inside c X → Inside c Y → pos 0 ⋖ at p X → at p Y ⋖ pos 0 → Cuts p c
cuts_between {p} {c} {X} {Y} i j h k = let z = between p X Y h k in record { point = z.point; on = z.on_p; inside = record { each = λ q m. z.fore q (i.each q m) (j.each q m) } }

pub one_side_front : {p : Plane} {c : List Plane} {X : Point} → ¬ Cuts p c → Inside c X → pos 0 ⋖ at p X → AllFront p c
one_side_front {p} {c} {X} n i h Y j = go (lies (at p Y))
  where
    go : Lies (at p Y) → pos 0 ⋖ at p Y
    go (below k) = absurd (n (cuts_between i j h k))
    go (on k) = absurd (n (record { point = Y; on = k; inside = j }))
    go (above k) = k

pub one_side_back : {p : Plane} {c : List Plane} {X : Point} → ¬ Cuts p c → Inside c X → at p X ⋖ pos 0 → AllBack p c
one_side_back {p} {c} {X} n i h Y j = go (lies (at p Y))
  where
    go : Lies (at p Y) → at p Y ⋖ pos 0
    go (below k) = k
    go (on k) = absurd (n (record { point = Y; on = k; inside = j }))
    go (above k) = absurd (n (cuts_between j i k h))

-- a point of the cell decides the three
pub data Decided (p : Plane) (c : List Plane) : Type 0 where
  cut : Cuts p c → Decided p c
  fore : AllFront p c → Decided p c
  aft : AllBack p c → Decided p c

pub decide : (p : Plane) (c : List Plane) (X : Point) → Inside c X → Dec (Cuts p c) → Decided p c
decide p c X i (yes k) = cut k
decide p c X i (no n) = go (lies (at p X))
  where
    go : Lies (at p X) → Decided p c
    go (below k) = aft (one_side_back n i k)
    go (on k) = absurd (n (record { point = X; on = k; inside = i }))
    go (above k) = fore (one_side_front n i k)

-- both halves of a cut cell have points: move the witness along p, or against it
pub half_front : {p : Plane} {c : List Plane} → pos 0 ⋖ at p p → Cuts p c → (X : Point) × Inside (p ∷ c) X
half_front {p} {c} n k =
    let y = move c k.point p in
    (y.to, cons (rw (y.goes p k.on) n) (record { each = λ q m. (y.keeps q m).pos' (k.inside.each q m) }))

pub half_back : {p : Plane} {c : List Plane} → pos 0 ⋖ at p p → Cuts p c → (X : Point) × Inside (flip p ∷ c) X
half_back {p} {c} n k =
    let y = move c k.point (flip p) in
    (y.to, cons (flip_front p y.to (rw (y.goes p k.on, at_comm p (flip p), at_flip p p) (pos_neg n))) (record { each = λ q m. (y.keeps q m).pos' (k.inside.each q m) }))

-- ---- the side of a missed plane, by the witness of the last cut

pub slide : (p q : Plane) → Independent p q → (t : Point) × (at p t ≡ pos 0) × (pos 0 ⋖ at q t)
slide p q h = (
  comb (at p p) q (neg_ℤ (at p q)) p,
  at_comb (at p p) q (neg_ℤ (at p q)) p p ∙ solve (nums 2) (λ a b. a ⊗ b ⊕ neg b ⊗ a ≐ # 0) tt (at p p) (at p q),
  rw (at_comb (at p p) q (neg_ℤ (at p q)) p q, at_comm q p) (lin (nums 3) (λ a b d. (# 0 ≺ a ⊗ d ⊖ b ⊗ b) ∷ [] ⊢ # 0 ≺ a ⊗ d ⊕ neg b ⊗ b) (omega arith) (at p p) (at p q) (at q q) h),
)

-- X on g, in c; h misses the half of c in front of g
module _ {g h : Plane} {c : List Plane} {X : Point} (i : Inside c X) (z : at g X ≡ pos 0) (k : Independent h g) (n : ¬ Cuts h (g ∷ c)) where
  -- into the half, along a way that h does not see
  pub into : (Y : Point) × Inside (g ∷ c) Y × Keeps h X Y × (at h X ≡ pos 0 → at h Y ≡ pos 0)
  into =
      let t = slide h g k in
      let y = move (h ∷ c) X t.0 in
      (y.to, cons (rw (y.goes g z) t.2) (record { each = λ q m. (y.keeps q (there m)).pos' (i.each q m) }), y.keeps h (here refl), λ e. y.goes h e ∙ t.1)

  pub witness_off : at h X ≢ pos 0
  witness_off e = n (record { point = into.0; on = into.3 e; inside = into.1 })

  pub witness_front : pos 0 ⋖ at h X → AllFront h (g ∷ c)
  witness_front e = one_side_front n into.1 (into.2.pos' e)

  pub witness_back : at h X ⋖ pos 0 → AllBack h (g ∷ c)
  witness_back e = one_side_back n into.1 (into.2.neg' e)

-- the same where the half-space is g's front or g's back
abbrev pub half : Bool → Plane → Plane
half true g = g
half false g = flip g

half_on : (s : Bool) (g : Plane) (X : Point) → at g X ≡ pos 0 → at (half s g) X ≡ pos 0
half_on true g X z = z
half_on false g X z = at_flip g X ∙ ap neg_ℤ z

half_independent : (s : Bool) (h g : Plane) → Independent h g → Independent h (half s g)
half_independent true h g i = i
half_independent false h g i = rw (at_back h g, at_back (flip g) g, at_flip g g)
    (lin (nums 3) (λ a b d. (# 0 ≺ a ⊗ d ⊖ b ⊗ b) ∷ [] ⊢ # 0 ≺ a ⊗ neg (neg d) ⊖ neg b ⊗ neg b) (omega arith) (at h h) (at h g) (at g g) i)

pub record MissedSide (h : Plane) (c : List Plane) (X : Point) : Type 0 where
  pub off : at h X ≢ pos 0
  pub front : pos 0 ⋖ at h X → AllFront h c
  pub back : at h X ⋖ pos 0 → AllBack h c

-- X is the witness of g's cut of c; h misses the half of c that was taken: the sign of h at X is the side
pub missed_side : (s : Bool) (g : Plane) {h : Plane} {c : List Plane} {X : Point} → Inside c X → at g X ≡ pos 0 → Independent h g → ¬ Cuts h (half s g ∷ c) → MissedSide h (half s g ∷ c) X
missed_side s g {h} {c} {X} i z k n =
    let z' = half_on s g X z in
    let k' = half_independent s h g k in
    record { off = witness_off i z' k' n; front = witness_front i z' k' n; back = witness_back i z' k' n }

-- a plane that cuts is none of those above it
pub cuts_new : {p : Plane} {c : List Plane} → Cuts p c → p ∈ c → ⊥
cuts_new {p} k m = pos_not_zero (k.inside.each p m) k.on

pub cuts_new_back : {p : Plane} {c : List Plane} → Cuts p c → flip p ∈ c → ⊥
cuts_new_back {p} k m = neg_not_zero (flip_back p k.point (k.inside.each (flip p) m)) k.on

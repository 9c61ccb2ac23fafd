-- Each promise, from what the code's tests have found: the answer that the tests lead to is the promised one, with document 01's number.
use mathlib.Core.Path.{◌≡◌, refl, sym, ap, ◌∙◌}
use mathlib.Core.Bool.{Bool, true, false, cond}
use mathlib.Core.Option.{Option, none, some}
use lib.Dec.{eqb}
use lib.IntN.{ℤ}
use Rattle.std.specs.Prelude.{Ok, Err}
use Rattle.whole.specs.Tests.{◌and◌, differ}
use Rattle.whole.specs.Vec.{V4}
use Rattle.whole.specs.Sign.{Sign, minus, nought, plus}
use Rattle.scope.specs.Planes as scope
use Rattle.scope.specs.Cells.{box}
use Rattle.scope.specs.Answers.{given, refused, plane_answer, plane_by_fault, all_front}
use Rattle.planes.specs.Values.{quad, plane, point, side_is}
use Rattle.planes.specs.Promises.{made_by, made_answer, PlaneMade, HalfSpaceMade, point_by, made_point_answer, PointMade, sided_by, sided_answer, SideTold, met_by, met_answer, three_in_range, normals, MeetTold, meet_sided_by, meet_sided_answer, MeetSideTold, between}
use Rattle.planes.specs.declared.Plane.{Plane}
use Rattle.planes.specs.declared.Point.{Point}
use Rattle.planes.specs.declared.Side.{Side}
use Rattle.planes.specs.declared.Side.TheVariants.{On, Back}
use Rattle.planes.specs.declared.Fault.{Fault}
use Rattle.planes.specs.declared.Fault.TheVariants.{OutOfRange, ZeroNormal, NotReduced, WrongSign}
use Rattle.planes.specs.declared.PointFault.TheVariants as P
use Rattle.planes.proofs.Box.{box_is}
use Rattle.planes.proofs.Laws.{sign_back, sign_from}

-- ---- planes

module _ (a b c d : ℤ) where
  made_answer_is : (f : Option scope.Fault) → made_answer (made_by a b c d f) ≡ plane_by_fault (quad a b c d) f
  made_answer_is none = refl
  made_answer_is (some f) = refl

  fault_is : {i : Bool} {s : Sign} {e : Bool} → scope.in_range (quad a b c d) ≡ i → scope.lead (quad a b c d) ≡ s → eqb (scope.common (quad a b c d)) 1 ≡ e → scope.fault (quad a b c d) ≡ scope.faults i s e
  unfolding scope.fault
  fault_is h k l = rw (h, k, l)

  half_fault_is : {i : Bool} {s : Sign} → scope.in_range (quad a b c d) ≡ i → scope.lead (quad a b c d) ≡ s → scope.half_fault (quad a b c d) ≡ scope.half_faults i s
  unfolding scope.half_fault
  half_fault_is h k = rw (h, k)

  plane_made : (i : Bool) (s : Sign) (e : Bool) → scope.in_range (quad a b c d) ≡ i → scope.lead (quad a b c d) ≡ s → eqb (scope.common (quad a b c d)) 1 ≡ e → PlaneMade a b c d (made_by a b c d (scope.faults i s e))
  unfolding plane_answer
  plane_made i s e h k l = record {
    exact = ap (made_by a b c d) (sym (fault_is h k l));
    answer = made_answer_is (scope.faults i s e) ∙ ap (plane_by_fault (quad a b c d)) (sym (fault_is h k l));
  }

  half_made : (i : Bool) (s : Sign) → scope.in_range (quad a b c d) ≡ i → scope.lead (quad a b c d) ≡ s → HalfSpaceMade a b c d (made_by a b c d (scope.half_faults i s))
  half_made i s h k = record {
    exact = ap (made_by a b c d) (sym (half_fault_is h k));
    answer = made_answer_is (scope.half_faults i s) ∙ ap (plane_by_fault (quad a b c d)) (sym (half_fault_is h k));
  }

-- what a half-space that is made is: the numbers given, in range, with a normal that is not zero
record HalfIs (a b c d : ℤ) (p : Plane) : Type 0 where
  is : p ≡ record { a = a; b = b; c = c; d = d }
  range : scope.in_range (quad a b c d) ≡ true
  normal : scope.lead (quad a b c d) ≡ nought → ⊥

module _ {a b c d : ℤ} where
  -- out of range, a normal that is zero, and neither
  pub half_out : {t : Bool} → t ≡ scope.in_range (quad a b c d) → t ≡ false → HalfSpaceMade a b c d (Err OutOfRange)
  half_out e f = half_made a b c d false (scope.lead (quad a b c d)) (sym e ∙ f) refl

  pub half_flat : {t : Bool} {l : Side} → t ≡ scope.in_range (quad a b c d) → t ≡ true → l ≡ side_is (scope.lead (quad a b c d)) → l ≡ On → HalfSpaceMade a b c d (Err ZeroNormal)
  half_flat e f g h = half_made a b c d true nought (sym e ∙ f) (sign_from _ g h)

  pub half_fine : {t : Bool} {l : Side} → t ≡ scope.in_range (quad a b c d) → t ≡ true → l ≡ side_is (scope.lead (quad a b c d)) → (l ≡ On → ⊥) → HalfSpaceMade a b c d (Ok (record { a = a; b = b; c = c; d = d }))
  half_fine e f g n = go (scope.lead (quad a b c d)) refl
    where
      go : (s : Sign) → scope.lead (quad a b c d) ≡ s → HalfSpaceMade a b c d (Ok (record { a = a; b = b; c = c; d = d }))
      go plus k = half_made a b c d true plus (sym e ∙ f) k
      go minus k = half_made a b c d true minus (sym e ∙ f) k
      go nought k = absurd (n (g ∙ ap side_is k))

  -- what makes no half-space makes no plane
  pub refused_too : {f : Fault} → HalfSpaceMade a b c d (Err f) → PlaneMade a b c d (Err f)
  unfolding scope.half_fault
  refused_too {f} h = go (scope.in_range (quad a b c d)) (scope.lead (quad a b c d)) refl refl h.exact
    where
      go : (i : Bool) (s : Sign) → scope.in_range (quad a b c d) ≡ i → scope.lead (quad a b c d) ≡ s → Err f ≡ made_by a b c d (scope.half_faults i s) → PlaneMade a b c d (Err f)
      go false s e k m = rw m (plane_made a b c d false s (eqb (scope.common (quad a b c d)) 1) e k refl)
      go true nought e k m = rw m (plane_made a b c d true nought (eqb (scope.common (quad a b c d)) 1) e k refl)
      go true plus e k m = differ (cc)
      go true minus e k m = differ (cc)

  -- and two tests more make a half-space a plane
  of_half : {p : Plane} → HalfSpaceMade a b c d (Ok p) → HalfIs a b c d p
  unfolding scope.half_fault
  of_half {p} h = go (scope.in_range (quad a b c d)) (scope.lead (quad a b c d)) refl refl h.exact
    where
      go : (i : Bool) (s : Sign) → scope.in_range (quad a b c d) ≡ i → scope.lead (quad a b c d) ≡ s → Ok p ≡ made_by a b c d (scope.half_faults i s) → HalfIs a b c d p
      go false s e k m = differ (cc)
      go true nought e k m = differ (cc)
      go true plus e k m = record { is = cc; range = e; normal = λ n. let o : plus ≡ nought = sym k ∙ n in differ (cc) }
      go true minus e k m = record { is = cc; range = e; normal = λ n. let o : minus ≡ nought = sym k ∙ n in differ (cc) }

  module _ {p : Plane} {t : Bool} (h : HalfSpaceMade a b c d (Ok p)) (e : t ≡ eqb (scope.common (plane p)) 1) where
    kept : t ≡ eqb (scope.common (quad a b c d)) 1
    kept = e ∙ ap (λ q. eqb (scope.common (plane q)) 1) (of_half h).is

    pub not_reduced : t ≡ false → PlaneMade a b c d (Err NotReduced)
    not_reduced f = go (scope.lead (quad a b c d)) refl
      where
        go : (s : Sign) → scope.lead (quad a b c d) ≡ s → PlaneMade a b c d (Err NotReduced)
        go plus k = plane_made a b c d true plus false (of_half h).range k (sym kept ∙ f)
        go minus k = plane_made a b c d true minus false (of_half h).range k (sym kept ∙ f)
        go nought k = absurd ((of_half h).normal k)

    module _ {l : Side} (f : t ≡ true) (g : l ≡ side_is (scope.lead (plane p))) where
      led : l ≡ side_is (scope.lead (quad a b c d))
      led = g ∙ ap (λ q. side_is (scope.lead (plane q))) (of_half h).is

      pub wrong_sign : l ≡ Back → PlaneMade a b c d (Err WrongSign)
      wrong_sign m = plane_made a b c d true minus true (of_half h).range (sign_from _ led m) (sym kept ∙ f)

      pub plane_fine : (l ≡ Back → ⊥) → PlaneMade a b c d (Ok p)
      plane_fine n = go (scope.lead (quad a b c d)) refl
        where
          go : (s : Sign) → scope.lead (quad a b c d) ≡ s → PlaneMade a b c d (Ok p)
          go plus k = rw (of_half h).is (plane_made a b c d true plus true (of_half h).range k (sym kept ∙ f))
          go minus k = absurd (n (led ∙ ap side_is k))
          go nought k = absurd ((of_half h).normal k)

-- ---- points

module _ (x y z w : ℤ) where
  made_point_answer_is : (i b : Bool) → made_point_answer (point_by x y z w i b) ≡ cond (i and b) (given (quad x y z w)) (refused 10)
  made_point_answer_is false b = refl
  made_point_answer_is true false = refl
  made_point_answer_is true true = refl

  point_made : (i b : Bool) → scope.point_in_range (quad x y z w) ≡ i → all_front box (quad x y z w) ≡ b → PointMade x y z w (point_by x y z w i b)
  point_made i b h k = record {
    exact = λ j. point_by x y z w (sym h j) (sym k j);
    answer = made_point_answer_is i b ∙ (λ j. cond (sym h j and sym k j) (given (quad x y z w)) (refused 10));
  }

module _ {x y z w : ℤ} {t : Bool} (e : t ≡ scope.point_in_range (quad x y z w)) where
  module _ (f : t ≡ true) {u : Bool} (g : u ≡ (between x w and between y w and between z w)) where
    -- in range, the box is that of each axis (proofs/Box)
    pub point_beyond : u ≡ false → PointMade x y z w (Err P.OutOfBox)
    point_beyond h = point_made x y z w true false (sym e ∙ f) (box_is x y z w (sym e ∙ f) ∙ sym g ∙ h)

    pub point_fine : u ≡ true → PointMade x y z w (Ok (record { x = x; y = y; z = z; w = w }))
    point_fine h = point_made x y z w true true (sym e ∙ f) (box_is x y z w (sym e ∙ f) ∙ sym g ∙ h)

-- ---- sides

sided_answer_is : (i j : Bool) (s : Sign) → sided_answer (sided_by i j s) ≡ cond i (cond j (given s) (refused 10)) (refused 4)
sided_answer_is false j s = refl
sided_answer_is true false s = refl
sided_answer_is true true s = ap given (sign_back s)

pub sided : (p : Plane) (X : Point) (i j : Bool) → scope.in_range (plane p) ≡ i → scope.point_in_range (point X) ≡ j → SideTold p X (sided_by i j (scope.side (plane p) (point X)))
sided p X i j h k = record {
  exact = λ t. sided_by (sym h t) (sym k t) (scope.side (plane p) (point X));
  answer = sided_answer_is i j (scope.side (plane p) (point X)) ∙ (λ t. cond (sym h t) (cond (sym k t) (given (scope.side (plane p) (point X))) (refused 10)) (refused 4));
}

-- ---- meetings

met_answer_is : (i z : Bool) (X : V4 ℤ) → met_answer (met_by i z X) ≡ cond i (given (cond z none (some X))) (refused 4)
met_answer_is false z X = refl
met_answer_is true true X = refl
met_answer_is true false X = refl

meet_sided_answer_is : (i z : Bool) (s : Sign) → meet_sided_answer (meet_sided_by i z s) ≡ cond i (given (cond z none (some s))) (refused 4)
meet_sided_answer_is false z s = refl
meet_sided_answer_is true true s = refl
meet_sided_answer_is true false s = ap (λ t. given (some t)) (sign_back s)

module _ (p q r : Plane) where
  pub met : (i z : Bool) (X : V4 ℤ) → three_in_range p q r ≡ i → scope.is_zero (normals p q r) ≡ z → scope.meet (plane p) (plane q) (plane r) ≡ X → MeetTold p q r (met_by i z X)
  met i z X h k l = record {
    exact = λ t. met_by (sym h t) (sym k t) (sym l t);
    answer = met_answer_is i z X ∙ (λ t. cond (sym h t) (given (cond (sym k t) none (some (sym l t)))) (refused 4));
  }

  module _ (u : Plane) where
    pub meet_sided : (i z : Bool) → (three_in_range p q r and scope.in_range (plane u)) ≡ i → scope.is_zero (normals p q r) ≡ z → MeetSideTold p q r u (meet_sided_by i z (scope.meet_side (plane p) (plane q) (plane r) (plane u)))
    meet_sided i z h k = record {
      exact = λ t. meet_sided_by (sym h t) (sym k t) (scope.meet_side (plane p) (plane q) (plane r) (plane u));
      answer = meet_sided_answer_is i z (scope.meet_side (plane p) (plane q) (plane r) (plane u)) ∙ (λ t. cond (sym h t) (given (cond (sym k t) none (some (scope.meet_side (plane p) (plane q) (plane r) (plane u))))) (refused 4));
    }

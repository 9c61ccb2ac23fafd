-- What follows from the promises, for the crates above: a refusal is the one that judging gives.
--     refuses_of                          a refusal where less is wanted
--     refuses_why                         the rule of document 01's table that the line breaks
--     refuses_step, refuses_solid         where the frame that is due in a state is not there, judging stops with the same number, at that line
--     head_wanted .. end_wanted           which frame is due in which state
--     head_refuses .. operation_refuses   the same, state by state
--     after_refuses, after_accepts        text after the end, and none
use Rattle.std.specs.Prelude.{◌≡◌, ℕ, zero, suc}
use Rattle.std.proofs.Math.Path.{refl, ap}
use Rattle.std.proofs.Common.{◌∙◌}
use mathlib.Core.List.{List, [], ◌∷◌}
use Rattle.std.proofs.Math.Option.{Option}
use Rattle.whole.specs.Tests.{differ}
use Rattle.scope.specs.Planes.{Plane}
use Rattle.scope.specs.Solids.{Entry, Tables}
use Rattle.scope.specs.Text.{Frame, bad, other, operation, head, plane, node_row, end}
use Rattle.scope.specs.Judging.{Sub, Rooms, State, fresh, busy, stop, step, next, read, refused, read_solid, accepted, refusal, finish, order_refused, opening}
use Rattle.theory.specs.Text.Rules as Rules
use Rattle.frames.specs.Promises.{Refuses, missing, malformed, not_due, Follows, bad_follows, more_follows, IsHead, is_head, IsPlane, is_plane, IsNode, is_node, IsEnd, is_end, IsOperation, is_operation}

-- ---- refusals

pub refuses_of : {wanted wanted' : Frame → Type 0} {fs : List Frame} {n : ℕ} → ((f : Frame) → wanted' f → wanted f) → Refuses wanted fs n → Refuses wanted' fs n
refuses_of g (missing e) = missing e
refuses_of g (malformed e) = malformed e
refuses_of g (not_due {f = f} e h k) = not_due e h (λ w. k (g f w))

-- in a state where only such a frame is due
module _ {wanted : Frame → Type 0} (s : Rooms) (c : State) (due : (f : Frame) → Rules.Due c f → wanted f) where
  -- the line breaks the rule of that number
  pub refuses_why : {f : Frame} {gs : List Frame} {n : ℕ} → Refuses wanted (f ∷ gs) n → Rules.Why s c f n
  refuses_why (missing e) = differ (cc)
  refuses_why {f} (malformed e) = let b : f ≡ bad = cc in rw b Rules.malformed
  refuses_why {f} (not_due {f = g} e h k) = let b : f ≡ g = cc in rw b (Rules.not_due (λ d. k (due g d)) h)

  pub refuses_step : {f : Frame} {gs : List Frame} {n : ℕ} → Refuses wanted (f ∷ gs) n → step s c f ≡ stop n
  refuses_step r = Rules.stops (refuses_why r)

  -- missing text counts as a line after the last
  pub refuses_solid : (l : ℕ) (fs : List Frame) {n : ℕ} → Refuses wanted fs n → read_solid s c l fs ≡ refused n l
  unfolding read_solid
  refuses_solid l [] (missing e) = refl
  refuses_solid l [] (malformed e) = differ (cc)
  refuses_solid l [] (not_due e h k) = differ (cc)
  refuses_solid l (f ∷ fs) r = ap (λ x. next x (λ c'. read_solid s c' (suc l) fs) l fs) (refuses_step r)

-- ---- what is due

pub head_wanted : (f : Frame) → Rules.Due fresh f → IsHead f
head_wanted f Rules.due_head = is_head

module _ {r : ℕ} {l : Option Plane} {ps : List Plane} {es : List Entry} {st : List Sub} where
  pub plane_wanted : {n m : ℕ} (f : Frame) → Rules.Due (busy (suc n) m r l ps es st) f → IsPlane f
  plane_wanted f Rules.due_plane = is_plane

  pub node_wanted : {m : ℕ} (f : Frame) → Rules.Due (busy zero (suc m) r l ps es st) f → IsNode f
  node_wanted f Rules.due_node = is_node

  pub end_wanted : (f : Frame) → Rules.Due (busy zero zero r l ps es st) f → IsEnd f
  end_wanted f Rules.due_end = is_end

-- ---- state by state

module _ (s : Rooms) (line : ℕ) (fs : List Frame) {k : ℕ} where
  pub head_refuses : Refuses IsHead fs k → read_solid s fresh line fs ≡ refused k line
  head_refuses = refuses_solid s fresh head_wanted line fs

  module _ (r : ℕ) (l : Option Plane) (ps : List Plane) (es : List Entry) (st : List Sub) where
    pub plane_refuses : (n m : ℕ) → Refuses IsPlane fs k → read_solid s (busy (suc n) m r l ps es st) line fs ≡ refused k line
    plane_refuses n m = refuses_solid s (busy (suc n) m r l ps es st) plane_wanted line fs

    pub node_refuses : (m : ℕ) → Refuses IsNode fs k → read_solid s (busy zero (suc m) r l ps es st) line fs ≡ refused k line
    node_refuses m = refuses_solid s (busy zero (suc m) r l ps es st) node_wanted line fs

    pub end_refuses : Refuses IsEnd fs k → read_solid s (busy zero zero r l ps es st) line fs ≡ refused k line
    end_refuses = refuses_solid s (busy zero zero r l ps es st) end_wanted line fs

-- the operation is due at line 1
pub operation_refuses : (s : Rooms) (fs : List Frame) {n : ℕ} → Refuses IsOperation fs n → opening s fs ≡ order_refused n 1
unfolding opening
operation_refuses s [] (missing e) = refl
operation_refuses s [] (malformed e) = differ (cc)
operation_refuses s [] (not_due e h k) = differ (cc)
operation_refuses s (f ∷ fs) (missing e) = differ (cc)
operation_refuses s (f ∷ fs) (malformed e) = let b : f ≡ bad = cc in rw b
operation_refuses s (bad ∷ fs) (not_due e h k) = absurd (h (cc))
operation_refuses s (other ∷ fs) (not_due e h k) = refl
operation_refuses s (operation o ∷ fs) (not_due {f = g} e h k) = let b : g ≡ operation o = cc in absurd (k (rw b is_operation))
operation_refuses s (head n m r ∷ fs) (not_due e h k) = refl
operation_refuses s (plane p ∷ fs) (not_due e h k) = refl
operation_refuses s (node_row d ∷ fs) (not_due e h k) = refl
operation_refuses s (end ∷ fs) (not_due e h k) = refl

-- ---- after the end

module _ (a : Tables) (l : ℕ) where
  pub after_accepts : (fs : List Frame) → fs ≡ [] → finish (read a l fs) ≡ accepted a
  after_accepts fs e = rw e

  pub after_refuses : (fs : List Frame) {n : ℕ} → Follows fs n → finish (read a l fs) ≡ refusal n l
  after_refuses fs (bad_follows e) = rw e
  after_refuses fs (more_follows {f = f} {gs = gs} e h) = ap (λ x. finish (read a l x)) e ∙ by f h
    where
      by : (f : Frame) → (f ≡ bad → ⊥) → finish (read a l (f ∷ gs)) ≡ refusal 2 l
      by bad h = absurd (h refl)
      by other h = refl
      by (operation o) h = refl
      by (head n m r) h = refl
      by (plane p) h = refl
      by (node_row e) h = refl
      by end h = refl

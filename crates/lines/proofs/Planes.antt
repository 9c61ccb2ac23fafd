-- The loop over the lines of planes.
--     planes_start      none were taken
--     planes_next       one more is taken
--     planes_refused    a line is refused
use mathlib.Core.Path.{◌≡◌, refl, sym, ap, subst, ◌∙◌}
use mathlib.Core.List.{List, [], ◌∷◌, ◌++◌}
use mathlib.Core.Option.{none, some}
use Rattle.std.specs.Prelude.{⊤, Result, Ok, Err}
use Prim.Native.Nat.{ℕ, suc, ◌+◌, ◌-◌, ◌*◌, ◌≤◌, ◌<◌}
use native.Mathlib.Omega.{arith}
use lib.IntN.{ℤ, pos}
use lib.ListN.{length, drop, replicate, length-append}
use lib.Seq.{sets}
use Rattle.scope.specs.Planes.{fault}
use Rattle.scope.specs.Text.{plane, frames}
use Rattle.scope.specs.Judging.{Rooms, State, fresh, busy, go, follows, plane_by, step, refused, read_solid}
use Rattle.scope.specs.Answers.{flat_planes}
use Rattle.frames.specs.declared.Cursor.{Cursor}
use Rattle.frames.specs.Follows.{plane_refuses}
use Rattle.frames.specs.Promises.{PlaneRead}
use Rattle.tables.specs.Rows.{plane_at, last_before}
use Rattle.tables.specs.Promises.{judged, plane_judged}
use Rattle.lines.specs.Lines.{PlaneLine, plane_taken, no_plane, bad_plane}
use Rattle.lines.specs.Reading.{HoldsPlanes, PlanesSoFar}
use Rattle.lines.proofs.Lines.{line_goes, line_refused, as_step, plane_step}
use Rattle.lines.proofs.Tables.{zeros_held, planes_more, plane_here, last_kept}

pub planes_start : (t : List ℕ) (from l n : ℕ) (xs : List ℤ) → from ≤ length t → xs ≡ replicate (length xs) (pos 0) → PlanesSoFar t from l n xs 0 from
unfolding flat_planes
planes_start t from l n xs h z = record {
  planes = [];
  count = refl;
  table = zeros_held (pos 0) xs z;
  inside = h;
  goes = λ s m r rest e. λ i. read_solid s (busy (whole rest e i) m r none [] [] []) (line i) (frames (drop from t));
}
  where
    whole : (rest : ℕ) → rest + 0 ≡ n → n ≡ rest
    whole rest e = omega (arith, e)

    line : l ≡ l + 0
    line = omega arith

module _ {t : List ℕ} {from l n : ℕ} {xs : List ℤ} {i at : ℕ} (q : PlanesSoFar t from l n xs i at) (more : i < n) (room : 4 * i + 4 ≤ length xs) where
  -- what is left to judge before the line
  before : (s : Rooms) (m r rest : ℕ) → rest + suc i ≡ n → read_solid s (busy n m r none [] [] []) l (frames (drop from t)) ≡ read_solid s (busy (suc rest) m r (last_before xs i) q.planes [] []) (l + i) (frames (drop at t))
  before s m r rest e = q.goes s m r (suc rest) (omega (arith, e))

  module _ {xs' : List ℤ} {next : ℕ} (a : PlaneRead t at i xs xs' next) where
    held : HoldsPlanes xs' (q.planes ++ (a.is ∷ []))
    held = planes_more xs xs' q.planes a.is q.table (omega (arith, q.count, room)) (a.table ∙ ap (λ k. sets xs (4 * k) (a.is.x ∷ a.is.y ∷ a.is.z ∷ a.is.w ∷ [])) (sym q.count))

    here : plane_at xs' i ≡ a.is
    here = ap (plane_at xs') (sym q.count) ∙ plane_here xs xs' q.planes a.is q.table held

    kept : last_before xs' i ≡ last_before xs i
    kept = ap (last_before xs') (sym q.count) ∙ last_kept xs xs' q.planes a.is q.table held ∙ ap (last_before xs) q.count

    -- the line, judged as the code has judged it
    stepped : {j : Result ⊤ ℕ} → plane_judged xs' i ≡ j → (s : Rooms) (m r rest : ℕ) → step s (busy (suc rest) m r (last_before xs i) q.planes [] []) (plane a.is) ≡ as_step j (go (busy rest m r (some a.is) (q.planes ++ (a.is ∷ [])) [] []))
    unfolding step
    stepped {j} e s m r rest =
        plane_step (fault a.is) (follows (last_before xs i) a.is) after
        ∙ ap (λ k. as_step k (go after)) (sym (λ u. judged (plane_by (fault (here u)) (follows (kept u) (here u)) fresh)) ∙ e)
      where
        after : State
        after = busy rest m r (some a.is) (q.planes ++ (a.is ∷ [])) [] []

  pub planes_next : {xs' : List ℤ} {c : Cursor} → PlaneLine t at i xs xs' (Ok c) → PlanesSoFar t from l n xs' (i + 1) c.at
  planes_next {xs'} {c} (plane_taken a e) = subst (λ k. PlanesSoFar t from l n xs' k c.at) {x = suc i} {y = i + 1} (omega arith) (record {
    planes = q.planes ++ (a.is ∷ []);
    count = length-append q.planes (a.is ∷ []) ∙ omega (arith, q.count);
    table = held a;
    inside = a.reads.inside;
    goes = λ s m r rest h. before s m r rest h ∙ line_goes s _ (l + i) a.reads.first (stepped a e s m r rest) ∙ (λ u. read_solid s (busy rest m r (some (sym (here a) u)) (q.planes ++ (a.is ∷ [])) [] []) (line u) (frames (drop c.at t)));
  })
    where
      line : suc (l + i) ≡ l + suc i
      line = omega arith

  pub planes_refused : {xs' : List ℤ} {k : ℕ} → PlaneLine t at i xs xs' (Err k) → (s : Rooms) (m r : ℕ) → read_solid s (busy n m r none [] [] []) l (frames (drop from t)) ≡ refused k (l + i)
  planes_refused (no_plane h) s m r = before s m r (n - suc i) (omega (arith, more)) ∙ plane_refuses s (l + i) (frames (drop at t)) r (last_before xs i) q.planes [] [] (n - suc i) m h
  planes_refused (bad_plane a e) s m r = before s m r (n - suc i) (omega (arith, more)) ∙ line_refused s _ (l + i) a.reads.first (stepped a e s m r (n - suc i))

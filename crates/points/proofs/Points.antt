-- The point call, from what it calls: the answer that the code comes to is document 01's at each way out.
use mathlib.Core.Path.{◌≡◌, refl, sym, ap, subst, ◌∙◌}
use mathlib.Core.Bool.{Bool, true, false, cond}
use mathlib.Core.List.{List}
use Prim.Native.Nat.{ℕ}
use lib.Dec.{T, leb}
use lib.IntN.{ℤ}
use lib.ListN.{length}
use Rattle.std.specs.Prelude.{Result, Ok, Err}
use Rattle.whole.specs.Tests.{differ, is_true, true_is, and_make, and_split}
use Rattle.scope.specs.Limits.{stated}
use Rattle.scope.specs.Planes.{Point, point_in_range}
use Rattle.scope.specs.Cells.{box}
use Rattle.scope.specs.Solids.{IN, OUT, Reply, marked, ON, reply}
use Rattle.scope.specs.Judging.{judge_lent}
use Rattle.scope.specs.Answers.{given, refused, all_front, point_ok, short_work, enough_work, bad_solid, bad_point, told as answers, PointAnswer, PointBy}
use Rattle.theory.specs.Text.Lent.{lent}
use Rattle.planes.specs.Values.{quad, point}
use Rattle.planes.specs.Bounds.{PointIn, point_range_in}
use Rattle.planes.specs.Promises.{point_by, PointMade}
use Rattle.planes.specs.declared.Point as P
use Rattle.planes.specs.declared.PointFault.{PointFault}
use Rattle.tables.specs.Promises.{judgement, Judges}
use Rattle.points.specs.Promises.{Walked, told, told_answer, Tells}
use Rattle.tables.specs.declared.Solid.{Solid}
use Rattle.points.specs.declared.Place.{Place}
use Rattle.tables.proofs.Soundness.{Sound, rows_refused, rows_sound}

-- ---- the point

module _ {x y z w : ℤ} {r : Result P.Point PointFault} (h : PointMade x y z w r) where
  pub record Good (p : P.Point) : Type 0 where
    pub same : point p ≡ quad x y z w
    pub ok : T (point_ok (quad x y z w))
    pub limits : PointIn x y z w

  -- a point that is made is in range and inside the box
  pub made_good : {p : P.Point} → r ≡ Ok p → Good p
  made_good {p} e = go (point_in_range (quad x y z w)) (all_front box (quad x y z w)) refl refl (sym e ∙ h.exact)
    where
      go : (a b : Bool) → point_in_range (quad x y z w) ≡ a → all_front box (quad x y z w) ≡ b → Ok p ≡ point_by x y z w a b → Good p
      go false b f g k = differ (cc)
      go true false f g k = differ (cc)
      go true true f g k =
          let s : p ≡ record { x = x; y = y; z = z; w = w } = cc in
          record { same = ap point s; ok = and_make (point_in_range (quad x y z w)) (all_front box (quad x y z w)) (true_is (point_in_range (quad x y z w)) f) (true_is (all_front box (quad x y z w)) g); limits = point_range_in f }

  -- one that is not made is not
  pub made_bad : ((p : P.Point) → r ≡ Ok p → ⊥) → ¬ T (point_ok (quad x y z w))
  made_bad n t =
      let s = and_split (point_in_range (quad x y z w)) (all_front box (quad x y z w)) t in
      let i = is_true (point_in_range (quad x y z w)) s.0 in
      let b = is_true (all_front box (quad x y z w)) s.1 in
      n (record { x = x; y = y; z = z; w = w }) (h.exact ∙ (λ j. point_by x y z w (i j) (b j)))

-- ---- the point call

module _ {xs : List ℤ} {ns : List ℕ} {root : ℕ} {w w' : List ℤ} where
  -- the work table or the solid is refused
  pub tell_refused : (X : Point) {k l : ℕ} → Judges xs ns root w w' (Err (k, l)) → Tells xs ns root X w w' (Err k)
  tell_refused X {k} {l} h = record { answer = go (leb stated (length w)) refl (sym h.exact); zeros = h.zeros }
    where
      go : (b : Bool) → leb stated (length w) ≡ b → cond b (judgement xs ns root (judge_lent (lent xs ns root))) (Err (8, 0)) ≡ Err (k, l) → PointAnswer (length w) (lent xs ns root) X (refused k)
      go true g i = enough_work (true_is (leb stated (length w)) g) (bad_solid (rows_refused xs ns root (sym i) refl))
      go false g i =
          let m : ◌≡◌ {A = ℕ × ℕ} (8, 0) (k, l) = cc in
          subst (λ p. PointAnswer (length w) (lent xs ns root) X (refused p.0)) m (short_work (λ t. subst T g t))

  module _ {s : Solid} (h : Judges xs ns root w w' (Ok s)) where
    -- the work table is long enough
    long : T (leb stated (length w)) × (Ok s ≡ judgement xs ns root (judge_lent (lent xs ns root)))
    long = go (leb stated (length w)) refl h.exact
      where
        go : (b : Bool) → leb stated (length w) ≡ b → Ok s ≡ cond b (judgement xs ns root (judge_lent (lent xs ns root))) (Err (8, 0)) → T (leb stated (length w)) × (Ok s ≡ judgement xs ns root (judge_lent (lent xs ns root)))
        go true g i = (true_is (leb stated (length w)) g, i)
        go false g i = differ (cc)

    pub judged_sound : Sound xs ns root
    judged_sound = rows_sound xs ns root long.1 refl

    -- the point is refused
    pub tell_bad : (X : Point) → ¬ T (point_ok X) → Tells xs ns root X w w' (Err 10)
    tell_bad X n = record { answer = enough_work long.0 (bad_point judged_sound.tree judged_sound.accepts n); zeros = h.zeros }

    -- the walk's answer
    pub tell_walked : (X : Point) {a : Place} → T (point_ok X) → Walked xs ns root X a → Tells xs ns root X w w' (Ok a)
    tell_walked X {a} ok k = let q = judged_sound in rw (k.exact q.tree q.held) (record { answer = enough_work long.0 (subst (PointBy (lent xs ns root) X) (sym (back (reply q.tree X))) (answers q.tree q.accepts ok)); zeros = h.zeros })
      where
        back : (r : Reply) → told_answer (Ok (told r)) ≡ given r
        back (marked IN) = refl
        back (marked OUT) = refl
        back ON = refl

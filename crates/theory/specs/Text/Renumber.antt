-- Rows are streamed with the plane numbers of a list that holds more planes than the tree uses; then planes that no row uses go, and numbers change. What stands then are the tree's tables.
--     kept, rank           the planes of a list that are kept, and how many of them stand before a place
--     kept_used            the planes that the rows use are the tree's plane list
--     renumbered           a row's plane number in that list is the rank of its number before
--     entries_renumbered   so the rows change to the tree's entries
use Rattle.std.specs.Prelude.{◌≡◌, Bool, List, [], ◌∷◌}
use Rattle.std.proofs.Math.Path.{refl, sym, ap, subst}
use Rattle.std.proofs.Common.{◌∙◌, arith}
use Rattle.std.proofs.Math.Bool.{true, false, cond}
use Rattle.std.proofs.Math.Option.{some}
use Prim.Native.Nat.{ℕ, zero, suc, ◌+◌}
use Rattle.std.proofs.Math.Dec.{T}
use Rattle.std.proofs.Math.ListN.{get_elem?}
use Rattle.whole.specs.Tests.{is_true, is_false}
use Rattle.whole.specs.Lists.{Each, Each.none, Each.◌and◌, each_app, each_map}
use Rattle.whole.specs.Members.{◌∈◌, here, there, in_left, in_right}
use Rattle.scope.specs.Planes.{Plane, equal}
use Rattle.scope.specs.Solids.{Tree, leaf, node, rows, planes, post, ascending, place, Row, a_row, Entry, entry, entries}
use Rattle.scope.specs.Judging.{uses}
use Rattle.theory.specs.Planes.Order.{before_irrefl, equal_of, equal_self}
use Rattle.theory.specs.Planes.Lists.{Ascending, empty, next, ascending_one, ascending_law, ascending_same, place_at}
use Rattle.theory.specs.Text.Uses.{uses_post, post_uses}

-- ---- kept planes, and ranks; g tells which numbers are kept, and k is the number of the first plane

unfoldable pub kept : (ℕ → Bool) → ℕ → List Plane → List Plane
kept g k [] = []
kept g k (p ∷ ps) = cond (g k) (p ∷ kept g (suc k) ps) (kept g (suc k) ps)

unfoldable pub rank : (ℕ → Bool) → ℕ → ℕ → ℕ
rank g k zero = 0
rank g k (suc n) = cond (g k) (suc (rank g (suc k) n)) (rank g (suc k) n)

-- ---- the place of a plane

place_head : {p q : Plane} (ps : List Plane) → p ≡ q → place (q ∷ ps) p ≡ 0
unfolding place
place_head {p} {q} ps e = ap (λ b. cond b 0 (suc (place ps p))) (is_true (equal q p) (subst (λ r. T (equal q r)) (sym e) (equal_self q)))

place_tail : {p q : Plane} (ps : List Plane) → (q ≡ p → ⊥) → place (q ∷ ps) p ≡ suc (place ps p)
unfolding place
place_tail {p} {q} ps n = ap (λ b. cond b 0 (suc (place ps p))) (is_false (equal q p) (λ t. n (equal_of q p t)))

-- ---- laws

module _ (g : ℕ → Bool) where
  kept_sub : (k : ℕ) (ps : List Plane) (p : Plane) → p ∈ kept g k ps → p ∈ ps
  unfolding kept
  kept_sub k [] p m = elim m [ ]
  kept_sub k (q ∷ ps) p m = go (g k) m (kept_sub (suc k) ps p)
    where
      go : (b : Bool) → p ∈ cond b (q ∷ kept g (suc k) ps) (kept g (suc k) ps) → (p ∈ kept g (suc k) ps → p ∈ ps) → p ∈ (q ∷ ps)
      go true (here e) f = here e
      go true (there m) f = there (f m)
      go false m f = there (f m)

  kept_ascending : (k : ℕ) {ps : List Plane} → Ascending ps → Ascending (kept g k ps)
  unfolding kept
  kept_ascending k empty = empty
  kept_ascending k (next {p = p} {ps = ps} h a) = go (g k) (kept_ascending (suc k) a)
    where
      go : (b : Bool) → Ascending (kept g (suc k) ps) → Ascending (cond b (p ∷ kept g (suc k) ps) (kept g (suc k) ps))
      go true r = next (λ q m. h q (kept_sub (suc k) ps q m)) r
      go false r = r

  -- a plane of the list is kept exactly if its number is
  kept_in : (k : ℕ) {ps : List Plane} → Ascending ps → (p : Plane) → p ∈ ps → T (g (k + place ps p)) → p ∈ kept g k ps
  unfolding kept
  kept_in k empty p x5 t = elim x5 [ ]
  kept_in k (next {p = q} {ps = ps} h a) p (here e) t = go (g k) (subst (λ n. T (g n)) zero_place t)
    where
      zero_place : k + place (q ∷ ps) p ≡ k
      zero_place = ap (λ n. k + n) (place_head ps e) ∙ (omega arith)

      go : (b : Bool) → T b → p ∈ cond b (q ∷ kept g (suc k) ps) (kept g (suc k) ps)
      go true t = here e
      go false t = absurd t
  kept_in k (next {p = q} {ps = ps} h a) p (there m) t = go (g k) (kept_in (suc k) a p m (subst (λ n. T (g n)) next_place t))
    where
      next_place : k + place (q ∷ ps) p ≡ suc k + place ps p
      next_place = ap (λ n. k + n) (place_tail ps (λ e. before_irrefl (h p m) e)) ∙ (omega arith)

      go : (b : Bool) → p ∈ kept g (suc k) ps → p ∈ cond b (q ∷ kept g (suc k) ps) (kept g (suc k) ps)
      go true i = there i
      go false i = i

  in_kept : (k : ℕ) {ps : List Plane} → Ascending ps → (p : Plane) → p ∈ kept g k ps → T (g (k + place ps p))
  unfolding kept
  in_kept k empty p m = elim m [ ]
  in_kept k (next {p = q} {ps = ps} h a) p m = go (g k) refl m (in_kept (suc k) a p)
    where
      tail_in : p ∈ kept g (suc k) ps → T (g (suc k + place ps p)) → T (g (k + place (q ∷ ps) p))
      tail_in i t = subst (λ n. T (g n)) (sym (ap (λ n. k + n) (place_tail ps (λ e. before_irrefl (h p (kept_sub (suc k) ps p i)) e)) ∙ (omega arith))) t

      go : (b : Bool) → g k ≡ b → p ∈ cond b (q ∷ kept g (suc k) ps) (kept g (suc k) ps) → (p ∈ kept g (suc k) ps → T (g (suc k + place ps p))) → T (g (k + place (q ∷ ps) p))
      go true e (here d) f = subst (λ n. T (g n)) (sym (ap (λ n. k + n) (place_head ps d) ∙ (omega arith))) (subst T (sym e) tt)
      go true e (there i) f = tail_in i (f i)
      go false e i f = tail_in i (f i)

  -- its number among the kept is its rank
  pub kept_place : (k : ℕ) {ps : List Plane} → Ascending ps → (p : Plane) → p ∈ ps → T (g (k + place ps p)) → place (kept g k ps) p ≡ rank g k (place ps p)
  unfolding kept rank
  kept_place k empty p x5 t = elim x5 [ ]
  kept_place k (next {p = q} {ps = ps} h a) p (here e) t = go (g k) (subst (λ n. T (g n)) (ap (λ n. k + n) (place_head ps e) ∙ (omega arith)) t) ∙ sym (ap (rank g k) (place_head ps e))
    where
      go : (b : Bool) → T b → place (cond b (q ∷ kept g (suc k) ps) (kept g (suc k) ps)) p ≡ 0
      go true t = place_head (kept g (suc k) ps) e
      go false t = absurd t
  kept_place k (next {p = q} {ps = ps} h a) p (there m) t = go (g k) (kept_place (suc k) a p m (subst (λ n. T (g n)) (ap (λ n. k + n) there_place ∙ (omega arith)) t)) ∙ sym (ap (rank g k) there_place)
    where
      there_place : place (q ∷ ps) p ≡ suc (place ps p)
      there_place = place_tail ps (λ e. before_irrefl (h p m) e)

      go : (b : Bool) → place (kept g (suc k) ps) p ≡ rank g (suc k) (place ps p) → place (cond b (q ∷ kept g (suc k) ps) (kept g (suc k) ps)) p ≡ cond b (suc (rank g (suc k) (place ps p))) (rank g (suc k) (place ps p))
      go true e = place_tail (kept g (suc k) ps) (λ d. before_irrefl (h p m) d) ∙ ap suc e
      go false e = e

-- two planes at one place are the same
place_one : {J : List Plane} {p q : Plane} → p ∈ J → q ∈ J → place J p ≡ place J q → p ≡ q
place_one {J} {p} {q} m n e = let h : some p ≡ some q = sym (place_at m) ∙ ap (get_elem? J) e ∙ place_at n in cc

-- ---- the rows of a tree over a list that holds its planes

abbrev plane_of : Row → Plane
plane_of (a_row p f b) = p

rows_in : (t : Tree) (n : ℕ) → Each (λ r. plane_of r ∈ planes t) (post n t)
unfolding post
rows_in (leaf m) n = none
rows_in (node p f b) n = each_app (each_app (each_map (λ r m. there (in_left (planes b) m)) (rows_in f n)) (each_map (λ r m. there (in_right (planes f) m)) (rows_in b (n + rows f)))) (here refl and none)

-- a row with another plane number
abbrev pub change : (ℕ → ℕ) → List Entry → List Entry
change f [] = []
change f (entry n a b ∷ es) = entry (f n) a b ∷ change f es

module _ {J : List Plane} (a : Ascending J) (t : Tree) (sub : (p : Plane) → p ∈ planes t → p ∈ J) where
  abbrev used : ℕ → Bool
  used k = uses k (entries J (post 0 t))

  from_0 : (p : Plane) → T (used (place J p)) → T (used (0 + place J p))
  from_0 p u = let e : place J p ≡ 0 + place J p = omega arith in subst (λ k. T (used k)) e u

  pub kept_used : kept used 0 J ≡ ascending (planes t)
  kept_used = ascending_one (kept_ascending used 0 a) (ascending_law (planes t)) (record { to = to; from = from })
    where
      to_0 : (p : Plane) → T (used (0 + place J p)) → T (used (place J p))
      to_0 p u = let e : 0 + place J p ≡ place J p = omega arith in subst (λ k. T (used k)) e u

      to : (p : Plane) → p ∈ kept used 0 J → p ∈ ascending (planes t)
      to p m =
          let u = post_uses J t 0 (place J p) (to_0 p (in_kept used 0 a p m)) in
          (ascending_same (planes t)).to p (subst (λ q. q ∈ planes t) (place_one (sub u.by u.member) (kept_sub used 0 J p m) u.at) u.member)

      from : (p : Plane) → p ∈ ascending (planes t) → p ∈ kept used 0 J
      from p m = let i = (ascending_same (planes t)).from p m in kept_in used 0 a p (sub p i) (from_0 p (uses_post J p t 0 i))

  pub renumbered : (p : Plane) → p ∈ planes t → place (ascending (planes t)) p ≡ rank used 0 (place J p)
  renumbered p m = ap (λ ps. place ps p) (sym kept_used) ∙ kept_place used 0 a p (sub p m) (from_0 p (uses_post J p t 0 m))

  pub entries_renumbered : change (rank used 0) (entries J (post 0 t)) ≡ entries (ascending (planes t)) (post 0 t)
  entries_renumbered = go (post 0 t) (rows_in t 0)
    where
      go : (rs : List Row) → Each (λ r. plane_of r ∈ planes t) rs → change (rank used 0) (entries J rs) ≡ entries (ascending (planes t)) rs
      go [] e = refl
      go (a_row p f b ∷ rs) (m and e) = cc (renumbered p m, go rs e)

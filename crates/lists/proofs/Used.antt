-- Marks of planes that are used, ranks by them, and the planes that are kept.
--     mark_more, marks_are        one row marks its plane; the marks tell what the rows use
--     rank_next, rank_small, rank_rises   how many are marked before the next plane
--     ranked_more                 one rank more in a table
--     kept_more, kept_length      one plane more, kept or not; how many are kept
use mathlib.Core.Path.{◌≡◌, refl, sym, ap, ◌∙◌}
use mathlib.Core.Bool.{Bool, true, false, cond}
use mathlib.Core.List.{List, [], ◌∷◌, ◌++◌}
use mathlib.Core.Logic.{◌≢◌}
use Prim.Native.Nat.{ℕ, zero, suc, ◌+◌, ◌-◌, ◌*◌, ◌≤◌, ◌<◌}
use native.Mathlib.Omega.{arith}
use native.Mathlib.Numerals.{add-one}
use lib.Dec.{T, eqb, eqb→eq}
use borrow.Author.Count.{below_more}
use lib.ListN.{length, get_or, set}
use mir.Val.{bool_byte}
use lib.Seq.{get_or-set_same, get_or-set_other}
use Rattle.whole.specs.Tests.{◌or◌, eq_test}
use Rattle.scope.specs.Planes.{Plane}
use Rattle.scope.specs.Judging.{uses}
use Rattle.theory.specs.Text.Renumber.{kept, rank}
use Rattle.theory.specs.Text.Uses.{uses_end}
use Rattle.tables.specs.Rows.{entries_to}
use Rattle.lists.specs.Steps.{marked, MarkTold}

-- ---- marks

-- no row, no mark
pub marks_none : (ns : List ℕ) (used : List Bool) → ((k : ℕ) → get_or used k false ≡ false) → MarkTold ns 0 used
unfolding entries_to uses
marks_none ns used h k = h k

-- a row marks its plane
pub mark_more : (used : List Bool) (ns : List ℕ) (i : ℕ) → get_or ns (3 * i) 0 < length used → MarkTold ns i used → MarkTold ns (i + 1) (set used (get_or ns (3 * i) 0) true)
unfolding entries_to
mark_more used ns i l h k = go (eqb k n) (eqb→eq k n) (eq_test k n) ∙ sym (uses_end k n (get_or ns (3 * i + 1) 0) (get_or ns (3 * i + 2) 0) (entries_to ns i)) ∙ ap (λ j. uses k (entries_to ns j)) {x = suc i} {y = i + 1} (omega arith)
  where
    n : ℕ
    n = get_or ns (3 * i) 0

    both : (a : Bool) → true ≡ (a or true)
    both true = refl
    both false = refl

    one : (a : Bool) → a ≡ (a or false)
    one true = refl
    one false = refl

    go : (b : Bool) → (T b → k ≡ n) → (k ≡ n → T b) → get_or (set used n true) k false ≡ (uses k (entries_to ns i) or b)
    go true f g = ap (λ j. get_or (set used n true) j false) (f tt) ∙ get_or-set_same used n true false l ∙ both (uses k (entries_to ns i))
    go false f g = let o : k ≢ n = g in get_or-set_other used n k true false o ∙ h k ∙ one (uses k (entries_to ns i))

-- what is marked is what is used
pub marks_are : (used : List Bool) (g : ℕ → Bool) → ((k : ℕ) → get_or used k false ≡ g k) → marked used ≡ g
marks_are used g h = λ t k. h k t

mark_small : (b : Bool) → bool_byte b ≤ 1
mark_small true = omega arith
mark_small false = omega arith

-- ---- ranks

module _ (g : ℕ → Bool) where
  rank_suc : (k n : ℕ) → rank g k (suc n) ≡ rank g k n + bool_byte (g (k + n))
  unfolding rank
  rank_suc k zero = by (g k) ∙ ap (λ j. 0 + bool_byte (g j)) {x = k} {y = k + 0} (omega arith)
    where
      by : (b : Bool) → cond b 1 0 ≡ 0 + bool_byte b
      by true = refl
      by false = refl
  rank_suc k (suc n) = by (g k) (rank_suc (suc k) n) ∙ ap (λ j. cond (g k) (suc (rank g (suc k) n)) (rank g (suc k) n) + bool_byte (g j)) {x = suc k + n} {y = k + suc n} (omega arith)
    where
      by : (b : Bool) → rank g (suc k) (suc n) ≡ rank g (suc k) n + bool_byte (g (suc k + n)) → cond b (suc (rank g (suc k) (suc n))) (rank g (suc k) (suc n)) ≡ cond b (suc (rank g (suc k) n)) (rank g (suc k) n) + bool_byte (g (suc k + n))
      by true e = omega (arith, e)
      by false e = e

  pub rank_none : rank g 0 0 ≡ 0
  unfolding rank
  rank_none = refl

  pub rank_next : (n : ℕ) → rank g 0 (n + 1) ≡ rank g 0 n + bool_byte (g n)
  rank_next n = ap (rank g 0) (add-one n) ∙ rank_suc 0 n ∙ ap (λ j. rank g 0 n + bool_byte (g j)) {x = 0 + n} {y = n} (omega arith)

  pub rank_small : (n : ℕ) → rank g 0 n ≤ n
  rank_small zero = omega (arith, rank_none)
  rank_small (suc n) = let e : suc n ≡ n + 1 = omega arith in rw e (omega (arith, rank_small n, rank_next n, mark_small (g n)))

  pub rank_rises : (i n : ℕ) → i ≤ n → rank g 0 i ≤ rank g 0 n
  rank_rises i n l = go (n - i) n (omega arith)
    where
      go : (d n : ℕ) → i + d ≡ n → rank g 0 i ≤ rank g 0 n
      go zero n e = let f : n ≡ i = omega arith in rw f (omega arith)
      go (suc d) n e = let f : n ≡ (i + d) + 1 = omega arith in rw f (omega (arith, go d (i + d) refl, rank_next (i + d)))

-- one rank more
pub ranked_more : (g : ℕ → Bool) (ranks : List ℕ) (i : ℕ) → i < length ranks → ((k : ℕ) → k < i → get_or ranks k 0 ≡ rank g 0 k) → (k : ℕ) → k < i + 1 → get_or (set ranks i (rank g 0 i)) k 0 ≡ rank g 0 k
ranked_more g ranks i l h = below_more (λ k. get_or (set ranks i (rank g 0 i)) k 0 ≡ rank g 0 k) i (λ k b. get_or-set_other ranks i k (rank g 0 i) 0 (λ e. omega arith) ∙ h k b) (get_or-set_same ranks i (rank g 0 i) 0 l)

-- ---- planes that are kept

module _ (g : ℕ → Bool) where
  kept_end : (k : ℕ) (ps : List Plane) (p : Plane) → kept g k (ps ++ (p ∷ [])) ≡ kept g k ps ++ cond (g (k + length ps)) (p ∷ []) []
  unfolding kept
  kept_end k [] p = ap (λ j. cond (g j) (p ∷ []) []) {x = k} {y = k + 0} (omega arith)
  kept_end k (q ∷ ps) p = by (g k) (kept_end (suc k) ps p) ∙ ap (λ j. cond (g k) (q ∷ kept g (suc k) ps) (kept g (suc k) ps) ++ cond (g j) (p ∷ []) []) {x = suc k + length ps} {y = k + suc (length ps)} (omega arith)
    where
      by : (b : Bool) → kept g (suc k) (ps ++ (p ∷ [])) ≡ kept g (suc k) ps ++ cond (g (suc k + length ps)) (p ∷ []) [] → cond b (q ∷ kept g (suc k) (ps ++ (p ∷ []))) (kept g (suc k) (ps ++ (p ∷ []))) ≡ cond b (q ∷ kept g (suc k) ps) (kept g (suc k) ps) ++ cond (g (suc k + length ps)) (p ∷ []) []
      by true e = ap (λ l. q ∷ l) e
      by false e = e

  pub kept_more : (ps : List Plane) (p : Plane) (n : ℕ) → length ps ≡ n → (b : Bool) → g n ≡ b → kept g 0 (ps ++ (p ∷ [])) ≡ kept g 0 ps ++ cond b (p ∷ []) []
  kept_more ps p n l b e = kept_end 0 ps p ∙ ap (λ c. kept g 0 ps ++ cond c (p ∷ []) []) (ap g {x = 0 + length ps} {y = n} (omega (arith, l)) ∙ e)

  kept_count : (k : ℕ) (ps : List Plane) → length (kept g k ps) ≡ rank g k (length ps)
  unfolding kept rank
  kept_count k [] = refl
  kept_count k (p ∷ ps) = by (g k) (kept_count (suc k) ps)
    where
      by : (b : Bool) → length (kept g (suc k) ps) ≡ rank g (suc k) (length ps) → length (cond b (p ∷ kept g (suc k) ps) (kept g (suc k) ps)) ≡ cond b (suc (rank g (suc k) (length ps))) (rank g (suc k) (length ps))
      by true e = ap suc e
      by false e = e

  pub kept_length : (ps : List Plane) (n : ℕ) → length ps ≡ n → length (kept g 0 ps) ≡ rank g 0 n
  kept_length ps n e = kept_count 0 ps ∙ ap (rank g 0) e

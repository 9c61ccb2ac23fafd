-- Rows of four numbers: the half-spaces that a table holds, whether they are lawful, and rows written one after the other.
use mathlib.Core.Path.{◌≡◌, refl, sym, ap, ◌∙◌}
use mathlib.Core.Bool.{Bool, true, false}
use mathlib.Core.List.{List, [], ◌∷◌, ◌++◌, map}
use Prim.Native.Nat.{ℕ, zero, suc, ◌+◌, ◌-◌, ◌*◌, ◌≤◌, ◌<◌}
use native.Mathlib.Nat.{zero-add}
use native.Mathlib.Numerals.{add-one}
use native.Mathlib.Omega.{arith}
use lib.IntN.{ℤ, pos}
use lib.ListN.{length, drop, replicate, length-replicate}
use lib.Seq.{sets, sets-eq}
use Rattle.whole.specs.Tests.{◌and◌, and_true}
use Rattle.whole.specs.Lists.{map_app, map_length}
use Rattle.scope.specs.Planes.{Plane, half_fault}
use Rattle.scope.specs.Answers.{no_fault, no_faults, flat_planes}
use Rattle.theory.specs.Section.{index}
use Rattle.polygons.specs.Tables.{row, corner_at, read, indices, rows_to}
use Rattle.polygons.proofs.Cells.{sets_append}
use Rattle.polygons.proofs.Clips.{indices_length}

-- ---- whether all are

faults_snoc : (hs : List Plane) (h : Plane) → no_faults (hs ++ h ∷ []) ≡ (no_faults hs and no_fault (half_fault h))
faults_snoc [] h = go (no_fault (half_fault h))
  where
    go : (b : Bool) → (b and true) ≡ b
    go true = refl
    go false = refl
faults_snoc (g ∷ hs) h = ap (λ b. no_fault (half_fault g) and b) (faults_snoc hs h) ∙ go (no_fault (half_fault g)) (no_faults hs) (no_fault (half_fault h))
  where
    go : (a b c : Bool) → (a and (b and c)) ≡ ((a and b) and c)
    go true b c = refl
    go false b c = refl

and_false : (b : Bool) → (b and false) ≡ false
and_false true = refl
and_false false = refl

module _ (hs : List ℤ) (width : ℕ) where
  abbrev lawful_to : ℕ → Bool
  lawful_to i = no_faults (rows_to hs width i)

  pub lawful_none : lawful_to 0 ≡ true
  unfolding rows_to
  lawful_none = refl

  lawful_suc : (i : ℕ) → lawful_to (suc i) ≡ (lawful_to i and no_fault (half_fault (row hs width i)))
  unfolding rows_to
  lawful_suc i = faults_snoc (rows_to hs width i) (row hs width i)

  pub lawful_more : (i : ℕ) → lawful_to i ≡ true → no_fault (half_fault (row hs width i)) ≡ true → lawful_to (i + 1) ≡ true
  lawful_more i e f = ap lawful_to (add-one i) ∙ lawful_suc i ∙ (λ j. e j and f j)

  -- one that is not makes all that follow it not
  pub unlawful_more : (i d n : ℕ) → i + 1 + d ≡ n → no_fault (half_fault (row hs width i)) ≡ false → lawful_to n ≡ false
  unlawful_more i d zero q e = absurd (omega arith)
  unlawful_more i zero (suc n) q e = let f : i ≡ n = omega arith in lawful_suc n ∙ rw (← f, e) (and_false (lawful_to i))
  unlawful_more i (suc d) (suc n) q e = lawful_suc n ∙ rw (unlawful_more i d n (omega arith) e)

-- with the support
pub lawful_with : (s : Plane) (hs : List Plane) → no_fault (half_fault s) ≡ true → no_faults hs ≡ true → no_faults (s ∷ hs) ≡ true
lawful_with s hs e f = rw (e, f)

pub unlawful_support : (s : Plane) (hs : List Plane) → no_fault (half_fault s) ≡ false → no_faults (s ∷ hs) ≡ false
unlawful_support s hs e = rw e

pub unlawful_rows : (s : Plane) (hs : List Plane) → no_faults hs ≡ false → no_faults (s ∷ hs) ≡ false
unlawful_rows s hs e = rw e (and_false (no_fault (half_fault s)))

-- ---- what lawful planes have

module _ (s : Plane) (hs : List ℤ) (width : ℕ) where
  -- of the support, and of each row
  pub lawful_support : (n : ℕ) → no_faults (s ∷ rows_to hs width n) ≡ true → no_fault (half_fault s) ≡ true
  lawful_support n e = (and_true (no_fault (half_fault s)) (no_faults (rows_to hs width n)) e).0

  pub lawful_row : (n : ℕ) → no_faults (rows_to hs width n) ≡ true → (i : ℕ) → i < n → no_fault (half_fault (row hs width i)) ≡ true
  unfolding rows_to
  lawful_row zero e i l = absurd (omega arith)
  lawful_row (suc n) e i l =
      let b = and_true (no_faults (rows_to hs width n)) (no_fault (half_fault (row hs width n))) (sym (faults_snoc (rows_to hs width n) (row hs width n)) ∙ e) in
      by (n - i) refl b.1 (λ m. lawful_row n b.0 i m)
    where
      by : (j : ℕ) → n - i ≡ j → no_fault (half_fault (row hs width n)) ≡ true → (i < n → no_fault (half_fault (row hs width i)) ≡ true) → no_fault (half_fault (row hs width i)) ≡ true
      by zero q f g = let p : i ≡ n = omega arith in rw p f
      by (suc j) q f g = g (omega arith)

-- ---- rows written one after the other

flat_app : (ps qs : List Plane) → flat_planes (ps ++ qs) ≡ flat_planes ps ++ flat_planes qs
unfolding flat_planes
flat_app [] qs = refl
flat_app (p ∷ ps) qs = ap (λ l. p.x ∷ p.y ∷ p.z ∷ p.w ∷ l) (flat_app ps qs)

pub flat_length : (ps : List Plane) → length (flat_planes ps) ≡ 4 * length ps
unfolding flat_planes
flat_length [] = refl
flat_length (p ∷ ps) = omega (arith, flat_length ps)

indices_suc : (t : List ℤ) (i : ℕ) → indices t (suc i) ≡ indices t i ++ index (corner_at t i) ∷ []
unfolding indices read
indices_suc t i = map_app index (read t i) (corner_at t i ∷ [])

pub written_none : (plane : ℕ → Plane) (t b : List ℤ) → b ≡ sets b 0 (flat_planes (map plane (indices t 0)))
unfolding indices read flat_planes
written_none plane t b = refl

pub written_more : (plane : ℕ → Plane) (t b₀ b b' : List ℤ) (i k : ℕ) → b ≡ sets b₀ 0 (flat_planes (map plane (indices t i))) → k ≡ index (corner_at t i)
    → b' ≡ sets b (4 * i) (flat_planes (plane k ∷ [])) → b' ≡ sets b₀ 0 (flat_planes (map plane (indices t (i + 1))))
written_more plane t b₀ b b' i k e f g =
    let ps = map plane (indices t i) in
    let n : 0 + length (flat_planes ps) ≡ 4 * i = zero-add (length (flat_planes ps)) ∙ flat_length ps ∙ ap (λ n. 4 * n) (map_length plane (indices t i) ∙ indices_length t i) in
    let q : flat_planes (map plane (indices t (i + 1))) ≡ flat_planes ps ++ flat_planes (plane k ∷ []) =
    ap (λ j. flat_planes (map plane (indices t j))) (add-one i) ∙ ap (λ l. flat_planes (map plane l)) (indices_suc t i) ∙ ap flat_planes (map_app plane (indices t i) (index (corner_at t i) ∷ []))
    ∙ flat_app ps (plane (index (corner_at t i)) ∷ []) ∙ ap (λ k. flat_planes ps ++ flat_planes (plane k ∷ [])) (sym f) in
    g ∙ (λ j. sets (e j) (4 * i) (flat_planes (plane k ∷ []))) ∙ ap (λ m. sets (sets b₀ 0 (flat_planes ps)) m (flat_planes (plane k ∷ []))) (sym n)
    ∙ sym (sets_append (flat_planes ps) b₀ 0 (flat_planes (plane k ∷ []))) ∙ ap (sets b₀ 0) (sym q)

-- over zeros
drop_zeros : (m n : ℕ) → drop m (replicate n (pos 0)) ≡ replicate (n - m) (pos 0)
drop_zeros zero n = let e : n ≡ n - 0 = omega arith in ap (λ k. replicate k (pos 0)) e
drop_zeros (suc m) zero = let e : 0 ≡ 0 - suc m = omega arith in ap (λ k. replicate k (pos 0)) e
drop_zeros (suc m) (suc n) = let e : n - m ≡ suc n - suc m = omega arith in drop_zeros m n ∙ ap (λ k. replicate k (pos 0)) e

pub sets_zeros : (xs : List ℤ) (n : ℕ) → length xs ≤ n → sets (replicate n (pos 0)) 0 xs ≡ xs ++ replicate (n - length xs) (pos 0)
sets_zeros xs n l =
    sets-eq xs (replicate n (pos 0)) 0 (omega (arith, length-replicate n (pos 0))) ∙ ap (λ m. xs ++ drop m (replicate n (pos 0))) (zero-add (length xs)) ∙ ap (λ l. xs ++ l) (drop_zeros (length xs) n)

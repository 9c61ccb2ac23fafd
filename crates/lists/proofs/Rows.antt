-- Rows of tables, and rows that are read again.
--     planes_many, planes_back, entries_back   the rows of a flat list are the list
--     change_end, change_same     one row changed more; changes that agree
--     row_kept, row_more          row i of a table whose first i rows are changed, and that row changed
--     put_more                    a plane stored after the planes of a table
use mathlib.Core.Path.{◌≡◌, refl, sym, ap, ◌∙◌}
use mathlib.Core.List.{List, [], ◌∷◌, ◌++◌, append_assoc}
use mathlib.Core.Option.{some}
use Prim.Native.Nat.{ℕ, zero, suc, ◌+◌, ◌*◌, ◌/◌, ◌≤◌, ◌<◌}
use native.Mathlib.Omega.{arith}
use lib.IntN.{ℤ, pos}
use lib.ListN.{length, get_or, get_elem?, set, take, drop, length-append}
use lib.Seq.{sets, length-sets, take-suc, take_all, drop-cons, set_at, get_or_at}
use Rattle.whole.specs.Tests.{differ}
use Rattle.whole.specs.Lists.{Each, Each.none, Each.◌and◌}
use Rattle.whole.specs.Members.{elem_at}
use Rattle.scope.specs.Planes.{Plane}
use Rattle.scope.specs.Solids.{Entry, entry}
use Rattle.scope.specs.Answers.{flat_planes, flat_nodes, filled}
use Rattle.theory.specs.Text.Renumber.{change}
use Rattle.theory.specs.Text.Filled.{filled_more, planes_count, nodes_count, planes_end, nodes_end}
use Rattle.planes.specs.Values.{quad}
use Rattle.tables.specs.Rows.{plane_at, entry_at, planes_to, entries_to}
use Rattle.tables.proofs.Flats.{flat_plane}
use Rattle.lists.specs.Lists.{number_below}

pub get_d_elem : {A : Type 0} (l : List A) (n : ℕ) (d : A) {a : A} → get_elem? l n ≡ some a → get_or l n d ≡ a
get_d_elem [] n d e = differ (cc)
get_d_elem (b ∷ l) zero d e = cc
get_d_elem (b ∷ l) (suc n) d e = get_d_elem l n d e

-- ---- planes

plane_there : (ps : List Plane) (i : ℕ) (d : Plane) → i < length ps → plane_at (flat_planes ps) i ≡ get_or ps i d
plane_there ps i d l = let r = elem_at ps i l in flat_plane ps i r.0 r.1 ∙ sym (get_d_elem ps i d r.1)

planes_part : (ps : List Plane) (i : ℕ) → i ≤ length ps → planes_to (flat_planes ps) i ≡ take i ps
unfolding planes_to
planes_part ps zero l = refl
planes_part ps (suc i) l =
    let d = quad (pos 0) (pos 0) (pos 0) (pos 0) in
    (λ t. planes_part ps i (omega arith) t ++ (plane_there ps i d l t ∷ [])) ∙ sym (take-suc ps i d l)

module _ {xs : List ℤ} (ps : List Plane) (e : xs ≡ flat_planes ps) where
  pub planes_many : length xs / 4 ≡ length ps
  planes_many = omega (arith, ap length e, planes_count ps)

  pub planes_back : planes_to xs (length xs / 4) ≡ ps
  planes_back = (λ t. planes_to (e t) (planes_many t)) ∙ planes_part ps (length ps) (omega arith) ∙ take_all (length ps) ps (omega arith)

-- ---- entries

skip3 : (a b c : ℕ) (ns : List ℕ) (i : ℕ) → entry_at (a ∷ b ∷ c ∷ ns) (suc i) ≡ entry_at ns i
skip3 a b c ns i =
    let e₀ : 3 * suc i ≡ suc (suc (suc (3 * i))) = omega arith in
    let e₁ : 3 * suc i + 1 ≡ suc (suc (suc (3 * i + 1))) = omega arith in
    let e₂ : 3 * suc i + 2 ≡ suc (suc (suc (3 * i + 2))) = omega arith in
    let l = a ∷ b ∷ c ∷ ns in
    λ t. entry (get_or l (e₀ t) 0) (get_or l (e₁ t) 0) (get_or l (e₂ t) 0)

pub entry_there : (es : List Entry) (zs : List ℕ) (i : ℕ) (d : Entry) → i < length es → entry_at (flat_nodes es ++ zs) i ≡ get_or es i d
unfolding flat_nodes
entry_there [] zs i d l = absurd (omega arith)
entry_there (entry n f b ∷ es) zs zero d l = refl
entry_there (entry n f b ∷ es) zs (suc i) d l = skip3 n f b (flat_nodes es ++ zs) i ∙ entry_there es zs i d (omega arith)

entries_part : (es : List Entry) (zs : List ℕ) (i : ℕ) → i ≤ length es → entries_to (flat_nodes es ++ zs) i ≡ take i es
unfolding entries_to
entries_part es zs zero l = refl
entries_part es zs (suc i) l = (λ t. entries_part es zs i (omega arith) t ++ (entry_there es zs i (entry 0 0 0) l t ∷ [])) ∙ sym (take-suc es i (entry 0 0 0) l)

pub entries_back : (es : List Entry) (zs : List ℕ) → entries_to (flat_nodes es ++ zs) (length es) ≡ es
entries_back es zs = entries_part es zs (length es) (omega arith) ∙ take_all (length es) es (omega arith)

pub entries_length : (ns : List ℕ) (i : ℕ) → length (entries_to ns i) ≡ i
unfolding entries_to
entries_length ns zero = refl
entries_length ns (suc i) = simp length-append (omega (arith, entries_length ns i))

-- ---- changes

module _ (f : ℕ → ℕ) where
  pub change_end : (es : List Entry) (n a b : ℕ) → change f (es ++ (entry n a b ∷ [])) ≡ change f es ++ (entry (f n) a b ∷ [])
  change_end [] n a b = refl
  change_end (entry m c d ∷ es) n a b = ap (λ l. entry (f m) c d ∷ l) (change_end es n a b)

  pub change_length : (es : List Entry) → length (change f es) ≡ length es
  change_length [] = refl
  change_length (entry m c d ∷ es) = ap suc (change_length es)

pub change_same : (f g : ℕ → ℕ) (n : ℕ) → ((k : ℕ) → k < n → f k ≡ g k) → {es : List Entry} → Each (number_below n) es → change f es ≡ change g es
change_same f g n h none = refl
change_same f g n h (◌and◌ {x = entry k a b} l e) = λ t. entry (h k l t) a b ∷ change_same f g n h e t

pub numbered_none : (ranks ns : List ℕ) → ns ≡ flat_nodes (change (λ k. get_or ranks k 0) (entries_to ns 0)) ++ drop (3 * 0) ns
unfolding entries_to flat_nodes
numbered_none ranks ns = refl

module _ (f : ℕ → ℕ) (ns : List ℕ) (i : ℕ) (l : 3 * i + 3 ≤ length ns) (ns' : List ℕ) (h : ns' ≡ flat_nodes (change f (entries_to ns i)) ++ drop (3 * i) ns) where
  changed : List ℕ
  changed = flat_nodes (change f (entries_to ns i))

  changed_length : length changed ≡ 3 * i
  unfolding changed
  changed_length = nodes_count (change f (entries_to ns i)) ∙ ap (λ k. 3 * k) (change_length f (entries_to ns i) ∙ entries_length ns i)

  three : drop (3 * i) ns ≡ get_or ns (3 * i) 0 ∷ get_or ns (3 * i + 1) 0 ∷ get_or ns (3 * i + 2) 0 ∷ drop (3 * (i + 1)) ns
  three =
      let e₁ : suc (3 * i) ≡ 3 * i + 1 = omega arith in
      let e₂ : suc (3 * i + 1) ≡ 3 * i + 2 = omega arith in
      let e₃ : suc (3 * i + 2) ≡ 3 * (i + 1) = omega arith in
      drop-cons ns (3 * i) 0 (omega arith)
      ∙ ap (λ k. get_or ns (3 * i) 0 ∷ drop k ns) e₁
      ∙ ap (λ k. get_or ns (3 * i) 0 ∷ k) (drop-cons ns (3 * i + 1) 0 (omega arith) ∙ ap (λ k. get_or ns (3 * i + 1) 0 ∷ drop k ns) e₂)
      ∙ ap (λ k. get_or ns (3 * i) 0 ∷ get_or ns (3 * i + 1) 0 ∷ k) (drop-cons ns (3 * i + 2) 0 (omega arith) ∙ ap (λ k. get_or ns (3 * i + 2) 0 ∷ drop k ns) e₃)

  split : ns' ≡ changed ++ get_or ns (3 * i) 0 ∷ get_or ns (3 * i + 1) 0 ∷ get_or ns (3 * i + 2) 0 ∷ drop (3 * (i + 1)) ns
  unfolding changed
  split = h ∙ ap (λ k. flat_nodes (change f (entries_to ns i)) ++ k) three

  -- row i is as it was
  pub row_kept : get_or ns' (3 * i) 0 ≡ get_or ns (3 * i) 0
  row_kept = ap (λ k. get_or k (3 * i) 0) split ∙ get_or_at changed (get_or ns (3 * i) 0) (get_or ns (3 * i + 1) 0 ∷ get_or ns (3 * i + 2) 0 ∷ drop (3 * (i + 1)) ns) 0 (3 * i) changed_length

  -- its plane number is changed
  pub row_more : set ns' (3 * i) (f (get_or ns' (3 * i) 0)) ≡ flat_nodes (change f (entries_to ns (i + 1))) ++ drop (3 * (i + 1)) ns
  unfolding changed entries_to
  row_more =
      ap (λ v. set ns' (3 * i) (f v)) row_kept
      ∙ ap (λ k. set k (3 * i) (f n)) split
      ∙ set_at changed n (a ∷ b ∷ rest) (f n) (3 * i) changed_length
      ∙ sym (append_assoc changed (f n ∷ a ∷ b ∷ []) rest)
      ∙ ap (λ k. k ++ rest) (sym (nodes_end (change f (entries_to ns i)) (f n) a b) ∙ ap flat_nodes (sym (change_end f (entries_to ns i) n a b)))
      ∙ ap (λ k. flat_nodes (change f (entries_to ns k)) ++ rest) {x = suc i} {y = i + 1} (omega arith)
    where
      n : ℕ
      n = get_or ns (3 * i) 0

      a : ℕ
      a = get_or ns (3 * i + 1) 0

      b : ℕ
      b = get_or ns (3 * i + 2) 0

      rest : List ℕ
      rest = drop (3 * (i + 1)) ns

-- ---- planes put one after the other

abbrev pub four : Plane → List ℤ
four p = p.x ∷ p.y ∷ p.z ∷ p.w ∷ []

pub put_more : (xs xs' : List ℤ) (ps : List Plane) (p : Plane) (k : ℕ) → xs ≡ filled (pos 0) (length xs) (flat_planes ps) → length ps ≡ k → 4 * k + 4 ≤ length xs → xs' ≡ sets xs (4 * k) (four p) → xs' ≡ filled (pos 0) (length xs') (flat_planes (ps ++ (p ∷ [])))
put_more xs xs' ps p k h e l s =
    let n : length (flat_planes ps) ≡ 4 * k = planes_count ps ∙ ap (λ j. 4 * j) e in
    s ∙ ap (λ j. sets xs j (four p)) (sym n) ∙ ap (λ j. sets j (length (flat_planes ps)) (four p)) h ∙ filled_more (pos 0) (length xs) (flat_planes ps) (four p) (omega (arith, n, l))
    ∙ (λ t. filled (pos 0) (sym (ap length s ∙ length-sets xs (4 * k) (four p)) t) (sym (planes_end ps p) t))

pub planes_length : (xs : List ℤ) (i : ℕ) → length (planes_to xs i) ≡ i
unfolding planes_to
planes_length xs zero = refl
planes_length xs (suc i) = simp length-append (omega (arith, planes_length xs i))

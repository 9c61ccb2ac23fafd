-- What five stores leave in a table of corners, and four in a table of rows.
use mathlib.Core.Path.{◌≡◌, refl, sym, ap, ◌∙◌}
use mathlib.Core.Bool.{true}
use mathlib.Core.List.{List, [], ◌∷◌, ◌++◌}
use Prim.Native.Nat.{ℕ, zero, suc, ◌+◌, ◌-◌, ◌*◌, ◌≤◌, ◌<◌}
use native.Mathlib.Nat.{add-zero}
use native.Mathlib.Omega.{arith}
use lib.IntN.{ℤ, pos, negsuc}
use lib.ListN.{length, get_or, set, length-append, length-set}
use lib.Seq.{sets, get_or-set_same, get_or-set_other}
use Rattle.scope.specs.Planes.{Plane, in_range}
use Rattle.theory.specs.Section.{corner}
use Rattle.planes.specs.Values.{quad}
use Rattle.polygons.specs.Tables.{row, box_side, look, number, corner_at, read}

-- ---- the planes of indices

pub look_box : (hs : List ℤ) (width k : ℕ) → k < 6 → box_side k ≡ look hs width k
unfolding look
look_box hs w zero l = refl
look_box hs w (suc zero) l = refl
look_box hs w (suc (suc zero)) l = refl
look_box hs w (suc (suc (suc zero))) l = refl
look_box hs w (suc (suc (suc (suc zero)))) l = refl
look_box hs w (suc (suc (suc (suc (suc zero))))) l = refl
look_box hs w (suc (suc (suc (suc (suc (suc k)))))) l = absurd (omega arith)

pub look_row : (hs : List ℤ) (width k : ℕ) → 6 ≤ k → row hs width (k - 6) ≡ look hs width k
unfolding look
look_row hs w zero l = absurd (omega arith)
look_row hs w (suc zero) l = absurd (omega arith)
look_row hs w (suc (suc zero)) l = absurd (omega arith)
look_row hs w (suc (suc (suc zero))) l = absurd (omega arith)
look_row hs w (suc (suc (suc (suc zero)))) l = absurd (omega arith)
look_row hs w (suc (suc (suc (suc (suc zero))))) l = absurd (omega arith)
look_row hs w (suc (suc (suc (suc (suc (suc k)))))) l = refl

-- ---- reading

pub read_length : (t : List ℤ) (n : ℕ) → length (read t n) ≡ n
unfolding read
read_length t zero = refl
read_length t (suc n) = length-append (read t n) (corner_at t n ∷ []) ∙ omega (arith, read_length t n)

-- tables that agree up to corner n hold the same corners
pub read_same : (t u : List ℤ) (n : ℕ) → ((j : ℕ) → j < 5 * n → get_or t j (pos 0) ≡ get_or u j (pos 0)) → read t n ≡ read u n
unfolding read corner_at
read_same t u zero f = refl
read_same t u (suc n) f =
    let a = read_same t u n (λ j l. f j (omega arith)) in
    let k = f (5 * n) (omega arith) in
    let x = f (5 * n + 1) (omega arith) in
    let y = f (5 * n + 2) (omega arith) in
    let z = f (5 * n + 3) (omega arith) in
    let w = f (5 * n + 4) (omega arith) in
    λ i. a i ++ corner (number (k i)) (quad (x i) (y i) (z i) (w i)) ∷ []

-- ---- stores

pub get_d_sets_before : (vs l : List ℤ) (i j : ℕ) → j < i → get_or (sets l i vs) j (pos 0) ≡ get_or l j (pos 0)
get_d_sets_before [] l i j h = refl
get_d_sets_before (v ∷ vs) l i j h = get_d_sets_before vs (set l i v) (suc i) j (omega arith) ∙ get_or-set_other l i j v (pos 0) (λ e. omega arith)

pub get_d_sets_at : (vs l : List ℤ) (i k j : ℕ) → k < length vs → i + length vs ≤ length l → i + k ≡ j → get_or (sets l i vs) j (pos 0) ≡ get_or vs k (pos 0)
get_d_sets_at [] l i k j h b e = absurd (omega arith)
get_d_sets_at (v ∷ vs) l i zero j h b e =
    let f : j ≡ i = omega arith in
    rw f (get_d_sets_before vs (set l i v) (suc i) i (omega arith) ∙ get_or-set_same l i v (pos 0) (omega arith))
get_d_sets_at (v ∷ vs) l i (suc k) j h b e = get_d_sets_at vs (set l i v) (suc i) k j (omega arith) (rw length-set (omega arith)) (omega arith)

pub sets_append : (xs o : List ℤ) (i : ℕ) (ys : List ℤ) → sets o i (xs ++ ys) ≡ sets (sets o i xs) (i + length xs) ys
sets_append [] o i ys = rw add-zero
sets_append (x ∷ xs) o i ys = sets_append xs (set o i x) (suc i) ys ∙ ap (λ (n : ℕ). sets (sets (set o i x) (suc i) xs) n ys) (omega arith)

-- a corner put after the first i
pub read_put : (t : List ℤ) (i k : ℕ) (v : Plane) → 5 * i + 5 ≤ length t → read (sets t (5 * i) (pos k ∷ v.x ∷ v.y ∷ v.z ∷ v.w ∷ [])) (suc i) ≡ read t i ++ corner k v ∷ []
unfolding read corner_at
read_put t i k v l =
    let vs = pos k ∷ v.x ∷ v.y ∷ v.z ∷ v.w ∷ [] in
    let u = sets t (5 * i) vs in
    let a = read_same u t i (λ j h. get_d_sets_before vs t (5 * i) j h) in
    let n = get_d_sets_at vs t (5 * i) 0 (5 * i) (omega arith) (omega arith) (omega arith) in
    let x = get_d_sets_at vs t (5 * i) 1 (5 * i + 1) (omega arith) (omega arith) (omega arith) in
    let y = get_d_sets_at vs t (5 * i) 2 (5 * i + 2) (omega arith) (omega arith) (omega arith) in
    let z = get_d_sets_at vs t (5 * i) 3 (5 * i + 3) (omega arith) (omega arith) (omega arith) in
    let w = get_d_sets_at vs t (5 * i) 4 (5 * i + 4) (omega arith) (omega arith) (omega arith) in
    λ j. a j ++ corner (number (n j)) (quad (x j) (y j) (z j) (w j)) ∷ []

-- ---- indices

-- an index that is one is the number itself
pub number_is : (z : ℤ) → number z < 134 → z ≡ pos (number z)
number_is (pos n) l = refl
number_is (negsuc n) l = absurd (omega arith)

-- ---- the start

pub read_none : (t : List ℤ) → read t 0 ≡ []
unfolding read
read_none t = refl

-- the sides of the box are in range
pub side_in : (k : ℕ) → k < 6 → in_range (box_side k) ≡ true
unfolding in_range
side_in zero l = refl
side_in (suc zero) l = refl
side_in (suc (suc zero)) l = refl
side_in (suc (suc (suc zero))) l = refl
side_in (suc (suc (suc (suc zero)))) l = refl
side_in (suc (suc (suc (suc (suc zero))))) l = refl
side_in (suc (suc (suc (suc (suc (suc k)))))) l = absurd (omega arith)

pub box_in : (hs : List ℤ) (width k : ℕ) → k < 6 → in_range (look hs width k) ≡ true
box_in hs w k l = ap in_range (sym (look_box hs w k l)) ∙ side_in k l

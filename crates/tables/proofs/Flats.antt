-- Rows one after the other: each row of flat tables is the plane or the entry that it was made from.
use mathlib.Core.Path.{◌≡◌, refl, ◌∙◌}
use mathlib.Core.List.{List, [], ◌∷◌, ◌++◌}
use mathlib.Core.Option.{some}
use Prim.Native.Nat.{ℕ, zero, suc, ◌+◌, ◌*◌}
use native.Mathlib.Omega.{arith}
use lib.IntN.{ℤ, pos}
use lib.ListN.{length, get_or, get_elem?}
use Rattle.whole.specs.Tests.{differ}
use Rattle.scope.specs.Planes.{Plane}
use Rattle.scope.specs.Solids.{Entry, entry}
use Rattle.scope.specs.Answers.{flat_planes, flat_nodes}
use Rattle.planes.specs.Values.{quad}
use Rattle.tables.specs.Rows.{plane_at, entry_at}

pub flat_planes_length : (ps : List Plane) → length (flat_planes ps) ≡ 4 * length ps
unfolding flat_planes
flat_planes_length [] = refl
flat_planes_length (p ∷ ps) = omega (arith, flat_planes_length ps)

pub flat_nodes_length : (es : List Entry) → length (flat_nodes es) ≡ 3 * length es
unfolding flat_nodes
flat_nodes_length [] = refl
flat_nodes_length (entry n f b ∷ es) = omega (arith, flat_nodes_length es)

skip4 : (a b c d : ℤ) (xs : List ℤ) (i : ℕ) → plane_at (a ∷ b ∷ c ∷ d ∷ xs) (suc i) ≡ plane_at xs i
skip4 a b c d xs i =
    let e₀ : 4 * suc i ≡ suc (suc (suc (suc (4 * i)))) = omega arith in
    let e₁ : 4 * suc i + 1 ≡ suc (suc (suc (suc (4 * i + 1)))) = omega arith in
    let e₂ : 4 * suc i + 2 ≡ suc (suc (suc (suc (4 * i + 2)))) = omega arith in
    let e₃ : 4 * suc i + 3 ≡ suc (suc (suc (suc (4 * i + 3)))) = omega arith in
    let l = a ∷ b ∷ c ∷ d ∷ xs in
    λ t. quad (get_or l (e₀ t) (pos 0)) (get_or l (e₁ t) (pos 0)) (get_or l (e₂ t) (pos 0)) (get_or l (e₃ t) (pos 0))

pub flat_plane : (ps : List Plane) (k : ℕ) (p : Plane) → get_elem? ps k ≡ some p → plane_at (flat_planes ps) k ≡ p
unfolding flat_planes
flat_plane [] k p e = differ (cc)
flat_plane (q ∷ ps) zero p e = cc
flat_plane (q ∷ ps) (suc k) p e = skip4 q.x q.y q.z q.w (flat_planes ps) k ∙ flat_plane ps k p e

skip3 : (a b c : ℕ) (ns : List ℕ) (i : ℕ) → entry_at (a ∷ b ∷ c ∷ ns) (suc i) ≡ entry_at ns i
skip3 a b c ns i =
    let e₀ : 3 * suc i ≡ suc (suc (suc (3 * i))) = omega arith in
    let e₁ : 3 * suc i + 1 ≡ suc (suc (suc (3 * i + 1))) = omega arith in
    let e₂ : 3 * suc i + 2 ≡ suc (suc (suc (3 * i + 2))) = omega arith in
    let l = a ∷ b ∷ c ∷ ns in
    λ t. entry (get_or l (e₀ t) 0) (get_or l (e₁ t) 0) (get_or l (e₂ t) 0)

pub flat_entry : (before : List Entry) (e : Entry) (after : List Entry) → entry_at (flat_nodes (before ++ (e ∷ after))) (length before) ≡ e
unfolding flat_nodes
flat_entry [] (entry n f b) after = refl
flat_entry (entry n f b ∷ before) e after = skip3 n f b (flat_nodes (before ++ (e ∷ after))) (length before) ∙ flat_entry before e after

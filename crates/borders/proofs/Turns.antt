-- What a walk on a plane tells of a tree, from what it tells of parts of it.
--     leaf_told                       a leaf
--     front_told, both_told           a row that parts the plane: from its front alone, and from both sides
--     Leads, leads, leads_falls       a row that is passed on one side, and the code there
--     left, walk_falls                the walks that are left: one fewer at the next
use mathlib.Core.Path.{◌≡◌, refl, ap}
use mathlib.Core.Bool.{Bool, true, false}
use Rattle.std.specs.Prelude as std
use Rattle.std.specs.Prelude.{Decides, Some, None}
use Rattle.std.proofs.lemmas.Bool.Decides.{not_from_Decides}
use mathlib.Core.List.{List, ◌∷◌}
use mathlib.Core.Logic.{◌≢◌}
use Prim.Native.Nat.{ℕ, ◌+◌, ◌<◌}
use native.Mathlib.Omega.{arith}
use lib.IntN.{ℤ}
use Rattle.whole.specs.Tests.{differ as unlike}
use Rattle.scope.specs.Planes.{Plane, flip}
use Rattle.scope.specs.Solids.{Mark, Tree, leaf, node}
use Rattle.scope.specs.Cells.{Cuts}
use Rattle.theory.specs.Forms.OnPlane.{Along, stop, same_front, same_back, both_front, both_back, only_front, only_back, at_own, at_other}
use Rattle.walks.specs.Standing.{Stands}
use Rattle.walks.specs.declared.operations.Mark as marks
use Rattle.walks.proofs.Rank.{rank, rank_below, base}
use Rattle.borders.specs.declared.Stage.{Stage}
use Rattle.borders.specs.declared.Next.TheVariants.{Walk}
use Rattle.borders.specs.Sides.{Passes, Follows, to_b, to_backs}
use Rattle.borders.proofs.Follows.{decides_map}

-- ---- a tree

module _ (p : Plane) (s : Bool) (P : List Plane → Mark → Type 0) where
  at_leaf : {c : List Plane} {m : Mark} → Along p s P c (leaf m) → P c m
  at_leaf (stop l) = l

  pub leaf_told : {c : List Plane} {m : Mark} {z : Bool} → Decides z (P c m) → Decides z (Along p s P c (leaf m))
  leaf_told t = decides_map stop at_leaf t

  module _ {q : Plane} {c : List Plane} {f b : Tree} (d : q ≢ p) (x : Cuts p (q ∷ c)) (y : Cuts p (flip q ∷ c)) {z : Bool} (t : Decides z (Along p s P (q ∷ c) f)) where
    pub front_told : z ≡ true → Decides true (Along p s P c (node q f b))
    front_told e = (λ i. both_front d x y (t.0 e), λ w. refl)

    pub both_told : z ≡ false → {z' : Bool} → Decides z' (Along p s P (flip q ∷ c) b) → Decides z' (Along p s P c (node q f b))
    both_told e t' = decides_map (both_back d x y) (at_other p s P d (λ i j w. absurd (not_from_Decides z t e w)) (λ i j w. w) (λ n w. absurd (n y)) (λ n w. absurd (n x))) t'

-- a row of q whose trees are f and b is passed to the code e
pub record Leads (xs : List ℤ) (numbers ns : List ℕ) (o : ℕ) (p q : Plane) (s : Bool) (P : List Plane → Mark → Type 0) (c : List Plane) (f b : Tree) (e : ℕ) : Type 0 where
  pub tree : Tree
  pub stands : Stands xs numbers ns o e tree
  pub told : {z : Bool} → Decides z (Along p s P c tree) → Decides z (Along p s P c (node q f b))

pub leads : {xs : List ℤ} {numbers ns : List ℕ} {o x y : ℕ} {f b : Tree} {p q : Plane} {s : Bool} (P : List Plane → Mark → Type 0) {c : List Plane} {e : ℕ} → Stands xs numbers ns o x f → Stands xs numbers ns o y b → Passes p q s c x y (Some e) → Leads xs numbers ns o p q s P c f b e
leads {f = f} {b = b} {p = p} {s = s} P u v (Passes.own_front d l) = record { tree = f; stands = u; told = decides_map (same_front d l) (at_own p s P d (λ k w. w) (λ k w. unlike (cc (l, k)))) }
leads {f = f} {b = b} {p = p} {s = s} P u v (Passes.own_back d l) = record { tree = b; stands = v; told = decides_map (same_back d l) (at_own p s P d (λ k w. unlike (cc (l, k))) (λ k w. w)) }
leads {f = f} {b = b} {p = p} {s = s} P u v (Passes.in_front d x n) = record { tree = f; stands = u; told = decides_map (only_front d n) (at_other p s P d (λ i j w. absurd (n j)) (λ i j w. absurd (n j)) (λ i w. w) (λ i w. absurd (i x))) }
leads {f = f} {b = b} {p = p} {s = s} P u v (Passes.behind d n y) = record { tree = b; stands = v; told = decides_map (only_back d n) (at_other p s P d (λ i j w. absurd (n i)) (λ i j w. absurd (n i)) (λ i w. absurd (i y)) (λ i w. w)) }

pub leads_falls : {p q : Plane} {s : Bool} {c : List Plane} {x y e r : ℕ} → Passes p q s c x y (Some e) → (x < 65534 → x < r) → (y < 65534 → y < r) → e < 65534 → e < r
leads_falls (Passes.own_front d l) f g = f
leads_falls (Passes.own_back d l) f g = g
leads_falls (Passes.in_front d x n) f g = f
leads_falls (Passes.behind d n y) f g = g

-- ---- the stage

-- four walks are left, and then three, two, one
abbrev after : std.Option marks.Mark → ℕ
after None = 20000
after (Some f) = 0

abbrev pub left : Stage → ℕ
left t = after t.front + base t.above

pub walk_falls : {t u : Stage} {m : marks.Mark} {root : ℕ} → (root < 65534 → root < 1000) → Follows t m (Walk u root) → left u + rank root < left t
walk_falls {root = root} l (to_b e) = omega (arith, ap base e, rank_below root 1000 l)
walk_falls {root = root} l (to_backs ea ef ev) = omega (arith, ap after ef, rank_below root 1000 l)

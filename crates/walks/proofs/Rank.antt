-- The measure of a walk: a node's walk below its side's walk, a mark below all, and B below A.
--     rank             of a code: twice the row and 2, or 0 for a mark
--     base             of a turn: B below A
use Rattle.std.specs.Prelude.{Option, Some, None}
use Rattle.walks.specs.declared.operations.Mark.{Mark}
use mathlib.Core.Path.{◌≡◌, refl}
use mathlib.Core.Bool.{Bool, true, false, cond}
use Prim.Native.Nat.{ℕ, ◌+◌, ◌*◌, ◌<◌}
use native.Mathlib.Omega.{arith}
use lib.Dec.{ltb}
use borrow.Author.Tests.{lt-ltb, ltb-true}

unfoldable pub rank : ℕ → ℕ
rank c = cond (ltb c 65534) (c * 2 + 2) 0

pub rank_row : (c : ℕ) → c < 65534 → rank c ≡ c * 2 + 2
unfolding rank
rank_row c h = simp (lt-ltb c 65534 h)

pub rank_below : (c r : ℕ) → (c < 65534 → c < r) → rank c < r * 2 + 1
unfolding rank
rank_below c r h = go (ltb c 65534) refl
  where
    go : (t : Bool) → ltb c 65534 ≡ t → cond t (c * 2 + 2) 0 < r * 2 + 1
    go true e = omega (arith, h (ltb-true c 65534 e))
    go false e = omega arith

pub rank_under : (f c : ℕ) → c < 65534 → (f < 65534 → f < c) → rank f < rank c
rank_under f c h k = omega (arith, rank_row c h, rank_below f c k)

-- in A, and in B below a leaf of A
abbrev pub base : Option Mark → ℕ
base None = 10000
base (Some m) = 0

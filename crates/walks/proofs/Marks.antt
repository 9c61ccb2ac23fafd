-- The codes of marks, and what becomes of a mark.
--     mark_in        a mark's code is one of two
--     mark_same      two marks of one meaning are one
--     asked_in_a     B is asked for only in A
--     ended_a        what becomes of a mark in A
use mathlib.Core.Path.{◌≡◌, refl, sym, ap, ◌∙◌}
use mathlib.Core.Bool.{Bool, true, false}
use Rattle.std.specs.Bool.{then_some}
use mathlib.Core.Option.{none}
use Prim.Native.Nat.{ℕ, ◌≤◌}
use native.Mathlib.Omega.{arith}
use Rattle.std.specs.Prelude.{Option as Maybe, Some, None}
use Rattle.scope.specs.Solids.{Mark, IN, OUT, mark, number}
use Rattle.scope.specs.Cells.{Operation, operate}
use Rattle.walks.specs.declared.operations.Mark as marks
use Rattle.walks.specs.Marks.{mark_of, above_of, EndsAs, alone, asks}

pub mark_in : (m : Mark) {a : ℕ} → a ≡ number (mark m) → (65534 ≤ a) × (a ≤ 65535)
mark_in IN e = (omega (arith, e), omega (arith, e))
mark_in OUT e = (omega (arith, e), omega (arith, e))

pub mark_same : (x y : Mark) → number (mark x) ≡ number (mark y) → x ≡ y
mark_same IN IN e = refl
mark_same IN OUT e = absurd (omega (arith, e))
mark_same OUT IN e = absurd (omega (arith, e))
mark_same OUT OUT e = refl

pub asked_in_a : {q : Operation} {k : Maybe marks.Mark} {x : Mark} → EndsAs q (above_of k) x None → k ≡ None
asked_in_a {k = None} e = refl
asked_in_a {k = Some m} e = elim e [ ]

-- in A: the mark that both marks of B give, or B is asked
pub ended_a : (q : Operation) (x : Mark) {y z : marks.Mark} (b : Bool) → mark_of y ≡ operate q x IN → mark_of z ≡ operate q x OUT → (b ≡ true → y ≡ z) → EndsAs q none x (then_some b y)
ended_a q x {y} {z} true d e f = alone both
  where
    both : (b : Mark) → operate q x b ≡ mark_of y
    both IN = sym d
    both OUT = sym e ∙ ap mark_of (sym (f refl))
ended_a q x false d e f = asks

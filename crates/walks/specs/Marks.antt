-- The marks of the walks, and what the code's kinds stand for.
--     operation_of, mark_of, above_of    the operation, the mark, and where a walk is: in A, or in B below a leaf of A with a mark
--     mark_code, CodeTold, OperationTold a mark's number, and what is told of a number
--     EndsAs                             what becomes of a mark that a walk meets
use Rattle.std.specs.Prelude.{◌≡◌, ◌≢◌, ℕ, ◌<◌, Option as Answer, Some, None, Result, Ok, Err}
use Rattle.std.proofs.Math.Option.{Option, none, some}
use Rattle.refusals.specs.declared.Refusal.{Refusal}
use Rattle.refusals.specs.declared.Refusal.TheVariants.{UnknownOperation}
use Rattle.scope.specs.Solids.{Mark, IN, OUT, mark, number}
use Rattle.scope.specs.Cells.{Operation, union, intersection, difference, operate}
use Rattle.scope.specs.Text.{operation_code}
use Rattle.walks.specs.declared.operations.Operation as operations
use Rattle.walks.specs.declared.operations.Mark as marks
use Rattle.walks.specs.declared.operations.Code as codes

abbrev pub operation_of : operations.Operation → Operation
operation_of operations.TheVariants.Union = union
operation_of operations.TheVariants.Intersection = intersection
operation_of operations.TheVariants.Minus = difference

abbrev pub mark_of : marks.Mark → Mark
mark_of marks.TheVariants.In = IN
mark_of marks.TheVariants.Out = OUT

abbrev pub above_of : Answer marks.Mark → Option Mark
above_of None = none
above_of (Some m) = some (mark_of m)

-- ---- codes

abbrev pub mark_code : marks.Mark → ℕ
mark_code m = number (mark (mark_of m))

-- F.9: a mark's number, or a row's
abbrev pub CodeTold : ℕ → codes.Code → Type 0
CodeTold n (codes.TheVariants.Mark m) = n ≡ mark_code m
CodeTold n (codes.TheVariants.Row r) = (n ≡ r) × (r < 65534)

-- the operation of the code, or the code is no operation's
abbrev pub OperationTold : ℕ → Result operations.Operation Refusal → Type 0
OperationTold c (Ok o) = c ≡ operation_code (operation_of o)
OperationTold c (Err e) = (e ≡ UnknownOperation) × ((o : Operation) → c ≢ operation_code o)

-- ---- what becomes of a mark

-- the operation's mark below a leaf of A; the mark that A's leaf gives alone; or B is walked
pub data EndsAs (q : Operation) : Option Mark → Mark → Answer marks.Mark → Type 0 where
  in_b : {a x : Mark} {r : marks.Mark} → mark_of r ≡ operate q a x → EndsAs q (some a) x (Some r)
  alone : {x : Mark} {r : marks.Mark} → ((b : Mark) → operate q x b ≡ mark_of r) → EndsAs q none x (Some r)
  asks : {x : Mark} → EndsAs q none x None

-- The number that a function answers is at most 10, since it is 0 or the number of a refusal.
use Rattle.std.specs.Prelude.{Option, Some, None, Result, Ok, Err, ℕ, ◌≤◌}
use Rattle.std.proofs.Common.{arith}
use Rattle.refusals.specs.declared.Refusal.{Refusal}
use Rattle.refusals.specs.declared.Refusal.TheVariants.{Malformed, NotDue, OverLimit, UnlawfulPlane, PlaneList, BadTree, UnknownOperation, NoRoom, OverPlanes, BadPoint}
use Rattle.refusals.specs.declared.LineRefusal.{LineRefusal}
use Rattle.refusals.specs.Numbers.{number, numbered, lined}
use Rattle.tables.specs.declared.Solid.{Solid}
use Rattle.points.specs.declared.Place.{Place}
use Rattle.skopelyne.specs.Numbers.{told, given_as, read_as, section_as, point_as}

number_most : (r : Refusal) → number r ≤ 10
number_most Malformed = omega arith
number_most NotDue = omega arith
number_most OverLimit = omega arith
number_most UnlawfulPlane = omega arith
number_most PlaneList = omega arith
number_most BadTree = omega arith
number_most UnknownOperation = omega arith
number_most NoRoom = omega arith
number_most OverPlanes = omega arith
number_most BadPoint = omega arith

pub given_most : (g : Result Solid Refusal) → (given_as (numbered g)).number ≤ 10
given_most (Ok s) = omega arith
given_most (Err k) = number_most k

pub read_most : (j : Result Solid LineRefusal) → (read_as (lined j)).number ≤ 10
read_most (Ok s) = omega arith
read_most (Err l) = number_most l.refusal

pub told_most : {A : Type 0} (o : A) (r : Result A Refusal) → (told o (numbered r)).0 ≤ 10
told_most o (Ok x) = omega arith
told_most o (Err k) = number_most k

pub section_most : (r : Result (Option ℕ) Refusal) → (section_as (numbered r)).0 ≤ 10
section_most (Ok (Some n)) = omega arith
section_most (Ok None) = omega arith
section_most (Err k) = number_most k

pub point_most : (r : Result Place Refusal) → (point_as (numbered r)).0 ≤ 10
point_most (Ok p) = omega arith
point_most (Err k) = number_most k

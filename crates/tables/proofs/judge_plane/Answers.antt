-- `tables::judge_plane` meets its contract: a plane is made of the row, so it has no fault. Assumes nothing.
use mathlib.Core.Path.{◌≡◌, refl, ap, subst}
use mathlib.Core.List.{List}
use mathlib.Core.Option.{none}
use Prim.Native.Nat.{ℕ}
use borrow.Author.Rules.{rules}
use lib.IntN.{ℤ}
use mir.Syntax.{w64}
use mir.Val.{SFits, to_z, of_z}
use mir.Facts.{to_z-of_z}
use Rattle.std.specs.Prelude.{Ok}
use Rattle.scope.specs.Planes.{fault, Lawful}
use Rattle.theory.specs.Planes.Faults.{fault_none}
use Rattle.planes.specs.Values.{plane}
use Rattle.planes.specs.Promises.{PlaneMade}
use Rattle.planes.specs.Follows.{made_lawful}
use Rattle.planes.specs.declared.Plane.{Plane}
use Rattle.tables.specs.Rows.{plane_at}
use Rattle.tables.proofs.judge_plane.Goals as goal

lawful : (xs : List ℤ) (i : ℕ) (p : Plane) {q : Plane} → plane p ≡ plane_at xs i → SFits w64 p.a → SFits w64 p.b → SFits w64 p.c → SFits w64 p.d → PlaneMade (to_z w64 (of_z w64 p.a)) (to_z w64 (of_z w64 p.b)) (to_z w64 (of_z w64 p.c)) (to_z w64 (of_z w64 p.d)) (Ok q) → fault (plane_at xs i) ≡ none
lawful xs i p e a b c d h =
    let k = rw (to_z-of_z a, to_z-of_z b, to_z-of_z c, to_z-of_z d) at h in
    let m = made_lawful k in
    rw (← e) (fault_none (plane p) (subst Lawful (ap plane m.0) m.1))

pub returns-then-not-ascends : goal.returns-then-not-ascends
returns-then-not-ascends c =
    let a = c.args in
    let f = lawful a.planes.now a.i c.row-p.result c.row-p.ensures (search rules) (search rules) (search rules) (search rules) c.in_ok-new.ensures in
    rw (f, ← c.row-p.ensures, ← c.ascends.ensures, c.if-not-ascends.true) refl

pub returns : goal.returns
returns c =
    let a = c.args in
    let f = lawful a.planes.now a.i c.row-p.result c.row-p.ensures (search rules) (search rules) (search rules) (search rules) c.in_ok-new.ensures in
    rw (f, ← c.row-p.ensures, ← c.ascends.ensures, c.if-not-ascends.false) refl

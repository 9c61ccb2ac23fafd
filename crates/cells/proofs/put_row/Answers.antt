-- `cells::put_row` meets its contract: nine numbers are written at once. Assumes nothing.
use mathlib.Core.Path.{◌≡◌}
use mathlib.Core.List.{List, ◌++◌}
use Prim.Native.Nat.{ℕ, ◌*◌, ◌+◌, ◌-◌, ◌≤◌}
use native.Mathlib.Omega.{arith}
use lib.IntN.{ℤ}
use lib.ListN.{length}
use Rattle.std.proofs.Common.{rules, take, drop, append_assoc}
use Rattle.std.proofs.lemmas.List.{drop-drop}
use Rattle.std.proofs.lemmas.List.Edits.{sets, sets-eq}
use Rattle.cells.specs.Paths.{nine}
use Rattle.cells.proofs.put_row.Goals as goal

-- a part of a table, of n numbers, written at once
part_stored : (t vs : List ℤ) (i n : ℕ) → n ≡ length vs → i + n ≤ length t → take i t ++ (vs ++ drop n (drop i t)) ≡ sets t i vs
part_stored t vs i n e l = simp (append_assoc, drop-drop, e, sets-eq vs t i (omega (arith, l, e)))

pub returns : goal.returns
returns c =
    let t = c.args.path.now in
    let i = c.args.depth * 9 in
    let e : c.copy_from_slice.new.self ≡ nine c.args.h c.args.m c.args.link = search rules in
    rw e (part_stored t (nine c.args.h c.args.m c.args.link) i (i + 9 - i) (omega arith) (omega (arith, c.requires)))

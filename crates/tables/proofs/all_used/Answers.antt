-- `tables::all_used` meets its contract. Assumes nothing.
use mathlib.Core.Path.{◌≡◌, ap, ◌∙◌}
use Prim.Native.Nat.{◌+◌, ◌-◌}
use native.Mathlib.Omega.{arith}
use Rattle.std.proofs.Common.{rules}
use borrow.Author.Tests.{tests}
use Rattle.std.proofs.lemmas.Iterator.{YieldsList-from_slice}
use Rattle.std.proofs.lemmas.Iterator.Search.{all_from_yields_List}
use Rattle.std.specs.Prelude.{take, drop}
use Rattle.tables.proofs.Stacks.{is_mark, marks_all}
use Rattle.tables.proofs.all_used.Goals as goal

pub returns : goal.returns
returns c =
    let e : 1000 + c.args.n - 1000 ≡ c.args.n = omega arith in
    all_from_yields_List is_mark _ _ c.all.result c.all.ensures.ran (YieldsList-from_slice (take c.args.n (drop 1000 c.args.work.now)) (c.iter.ensures.rest ∙ ap (λ j. take j (drop 1000 c.args.work.now)) e)) (λ x b q k. search (rules, tests))
    ∙ marks_all c.args.work.now c.args.n c.requires

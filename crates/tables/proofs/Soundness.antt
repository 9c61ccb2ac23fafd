-- Lent tables that are refused or sound, from the judge's answer.
use mathlib.Core.Path.{◌≡◌, refl, sym, ap, ◌∙◌}
use mathlib.Core.List.{List}
use Prim.Native.Nat.{ℕ}
use lib.IntN.{ℤ}
use Rattle.std.specs.Prelude.{Result, Ok, Err}
use Rattle.whole.specs.Tests.{differ}
use Rattle.scope.specs.Solids.{Tree, tables_of}
use Rattle.scope.specs.Judging.{Verdict, accepted, refusal, judge_lent}
use Rattle.theory.specs.Answers.{lent_sound, solid, solid_lawful}
use Rattle.theory.specs.Text.Lent.{lent, lent_taken}
use Rattle.tables.specs.Promises.{judgement, SolidOf}
use Rattle.tables.specs.declared.Solid.{Solid}

module _ (xs : List ℤ) (ns : List ℕ) (root : ℕ) where
  -- the solid is sound, and is that of a tree
  pub record Sound : Type 0 where
    pub tree : Tree
    pub accepts : judge_lent (lent xs ns root) ≡ accepted (tables_of tree)
    pub held : SolidOf xs ns root tree

  module _ {j : Result Solid (ℕ × ℕ)} (h : j ≡ judgement xs ns root (judge_lent (lent xs ns root))) where
    pub rows_refused : {k l : ℕ} → j ≡ Err (k, l) → judge_lent (lent xs ns root) ≡ refusal k l
    rows_refused {k} {l} e = by (judge_lent (lent xs ns root)) (sym h ∙ e)
      where
        by : (v : Verdict) → judgement xs ns root v ≡ Err (k, l) → v ≡ refusal k l
        by (accepted a) i = differ (cc)
        by (refusal m n) i = let f : ◌≡◌ {A = ℕ × ℕ} (m, n) (k, l) = cc in ap (λ p. refusal p.0 p.1) f

    pub rows_sound : {s : Solid} → j ≡ Ok s → Sound
    rows_sound {s} e = by (judge_lent (lent xs ns root)) refl (sym h ∙ e)
      where
        by : (v : Verdict) → judge_lent (lent xs ns root) ≡ v → judgement xs ns root v ≡ Ok s → Sound
        by (accepted a) g i =
            let u = solid (lent_sound (lent xs ns root)) a g in
            record { tree = u.0; accepts = u.1; held = record { lawful = solid_lawful (lent_sound (lent xs ns root)) u.1; flat = (lent_taken xs ns root (tables_of u.0) u.1).0 } }
        by (refusal k l) g i = differ (cc)

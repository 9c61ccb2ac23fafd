-- `sections::write_bounds` meets its contract. The loop has written the first i rows. Assumes nothing.
use mathlib.Core.Path.{refl, ap, ◌∙◌}
use mathlib.Core.List.{[], ◌∷◌}
use Prim.Native.Nat.{◌*◌}
use lib.Seq.{sets}
use Rattle.scope.specs.Answers.{flat_planes}
use Rattle.polygons.specs.Tables.{look}
use Rattle.sections.proofs.Rows.{written_none, written_more}
use Rattle.sections.proofs.write_bounds.Goals as goal

pub loop-i-init : goal.loop-i-init
loop-i-init c = record { as_many = refl; written = written_none (look c.args.hs.now.numbers.now c.args.hs.now.width) c.args.t.now c.args.bounds.now }

pub loop-i-preserved : goal.loop-i-preserved
unfolding flat_planes
loop-i-preserved c =
    let q = c.loop-i in
    let x = c.index_at in
    let w = c.store in
    record {
      as_many = w.auto.t ∙ q.invariant.as_many;
      written = written_more (look c.args.hs.now.numbers.now c.args.hs.now.width) c.args.t.now c.args.bounds.now q.bounds w.new.t q.i x.result q.invariant.written x.ensures
          (w.ensures ∙ ap (λ p. sets q.bounds (4 * q.i) (flat_planes (p ∷ []))) c.bound.ensures);
    }

-- `polygons::start::edge` meets its contract. Assumes nothing.
use mathlib.Core.Path.{ap, ◌∙◌}
use native.Mathlib.Numerals.{add-one}
use native.Mathlib.Omega.{arith}
use Rattle.scope.specs.Planes.{meet}
use Rattle.planes.specs.Values.{plane}
use Rattle.polygons.specs.Tables.{read}
use Rattle.polygons.proofs.Sums.{sides_in}
use Rattle.polygons.proofs.Put.{stored_read}
use Rattle.polygons.proofs.start.edge.Goals as goal

pub minors-requires : goal.minors-requires
minors-requires c = let h = c.requires in sides_in h.0 c.box_side.ensures h.1 c.box_side-2.ensures h.2

pub returns : goal.returns
returns c =
    let s = c.args in
    let p = c.box_side.ensures in
    let q = c.box_side-2.ensures in
    ap (read c.put.new.t) (add-one s.i)
    ∙ stored_read s.t.now c.put.new.t s.i s.k c.minors.result _ (omega arith) c.put.ensures (c.minors.ensures ∙ (λ j. meet (plane s.s) (p j) (q j)))

-- `polygons::clipping::Clip::pair` meets its contract: both new vertices lie on the line of the support and the clipping bound (proofs/Meets). Assumes nothing.
use mathlib.Core.Path.{◌∙◌}
use Rattle.scope.specs.Planes.{meet}
use Rattle.planes.specs.Values.{plane}
use Rattle.polygons.proofs.Meets.{index_in, support_first, support_second, on_line_asked, turn_last}
use Rattle.polygons.proofs.Put.{puts_two}
use Rattle.polygons.proofs.clipping.Clip.pair.Goals as goal

pub line-requires : goal.line-requires
line-requires c = let q = c.requires in support_second q.region q.k_below c.bound-h.ensures

pub on_line-requires : goal.on_line-requires
on_line-requires c = let q = c.requires in on_line_asked (support_second q.region q.k_below c.bound-h.ensures) (index_in q.region q.prev_below c.bound.ensures) c.line.ensures

pub line-requires-2 : goal.line-requires-2
line-requires-2 c = let q = c.requires in support_first q.region q.k_below c.bound-h.ensures

pub on_line-requires-2 : goal.on_line-requires-2
on_line-requires-2 c = let q = c.requires in on_line_asked (support_first q.region q.k_below c.bound-h.ensures) (index_in q.region q.b_below c.bound-2.ensures) c.line-2.ensures

pub returns : goal.returns
returns c =
    let s = plane c.args.self.now.support in
    let h = c.bound-h in
    let x = h.ensures in
    let y = c.bound.ensures in
    let z = c.bound-2.ensures in
    puts_two c.args.out.now c.put.new.t c.put-2.new.t c.args.p.at c.args.self.now.by c.args.b c.on_line.result c.on_line-2.result _ _ c.requires.room c.put.ensures c.put-2.ensures
    (c.on_line.ensures (plane h.result) s c.line.ensures ∙ turn_last s (plane c.bound.result) (plane h.result) ∙ (λ j. meet s (y j) (x j)))
    (c.on_line-2.ensures s (plane h.result) c.line-2.ensures ∙ (λ j. meet s (x j) (z j)))

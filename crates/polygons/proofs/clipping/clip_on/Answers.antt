-- `polygons::clipping::clip_on` meets its contract. The mathematics is in proofs/Clips. Assumes nothing.
use mathlib.Core.Path.{◌≡◌, sym, ◌∙◌}
use native.Mathlib.Omega.{arith}
use lib.ListN.{length, length-take}
use lib.Seq.{length-take-le}
use Rattle.planes.specs.declared.Side.{Side}
use Rattle.polygons.proofs.Clips.{clip_n, clip_side, clip_same, clip_gone, clip_emit, clip_cut}
use Rattle.polygons.proofs.clipping.clip_on.Goals as goal

pub all_front-requires : goal.all_front-requires
all_front-requires c = clip_side _ _ _ _ _ _ _ c.requires c.bound-h.result c.bound-h.ensures

pub returns-then-all_front : goal.returns-then-all_front
returns-then-all_front c = clip_same _ _ _ _ _ _ _ c.requires c.bound-h.result c.bound-h.ensures (c.all_front.ensures.yes c.if-all_front.true)

pub slice_bounds-table-end : goal.slice_bounds-table-end
slice_bounds-table-end c = omega (arith, clip_n _ _ _ _ _ _ _ c.requires)

pub slice_bounds-sides-end : goal.slice_bounds-sides-end
slice_bounds-sides-end c = sym (length-take-le c.args.n _ (omega (arith, clip_n _ _ _ _ _ _ _ c.requires)))

pub sides_of-requires : goal.sides_of-requires
sides_of-requires c = λ i l. clip_side _ _ _ _ _ _ _ c.requires c.bound-h.result c.bound-h.ensures i (omega (arith, length-take {A = Side}))

pub returns-then-not-sides_of : goal.returns-then-not-sides_of
returns-then-not-sides_of c =
    let o = c.sides_of in
    let q : length o.new.sides ≡ c.args.n = o.auto.sides ∙ length-take-le c.args.n _ (omega (arith, clip_n _ _ _ _ _ _ _ c.requires)) in
    clip_gone _ _ _ _ _ _ _ c.requires c.bound-h.result c.bound-h.ensures o.new.sides q o.result o.ensures c.if-not-sides_of.true

pub emit-m-requires : goal.emit-m-requires
emit-m-requires c =
    let o = c.sides_of in
    let q : length o.new.sides ≡ c.args.n = o.auto.sides ∙ length-take-le c.args.n _ (omega (arith, clip_n _ _ _ _ _ _ _ c.requires)) in
    clip_emit _ _ _ _ _ _ _ c.requires c.bound-h.result c.bound-h.ensures o.new.sides q o.result o.ensures

pub copy-requires : goal.copy-requires
copy-requires c =
    let u = c.emit-m in
    (omega (arith, u.ensures.few, u.auto.out, c.requires.out_room), omega (arith, u.ensures.few, c.requires.room))

pub returns : goal.returns
returns c =
    let o = c.sides_of in
    let u = c.emit-m in
    let q : length o.new.sides ≡ c.args.n = o.auto.sides ∙ length-take-le c.args.n _ (omega (arith, clip_n _ _ _ _ _ _ _ c.requires)) in
    clip_cut _ _ _ _ _ _ _ c.requires c.bound-h.result c.bound-h.ensures o.new.sides q o.result o.ensures u.new.out c.copy.new.to u.result u.ensures c.copy.auto.to c.copy.ensures

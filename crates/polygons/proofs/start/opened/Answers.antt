-- `polygons::start::opened` meets its contract. The mathematics is in proofs/Starts. Assumes nothing.
use Rattle.polygons.proofs.Starts.{first_clip, second_clip, opened_polygon}
use Rattle.polygons.proofs.start.opened.Goals as goal

pub clip_on-n-requires : goal.clip_on-n-requires
clip_on-n-requires c = let b = c.begin in first_clip _ _ c.requires c.way-w.ensures b.new.t b.auto.t b.ensures

pub clip_on-requires : goal.clip_on-requires
clip_on-requires c =
    let b = c.begin in
    let a = c.clip_on-n in
    second_clip _ _ c.requires c.way-w.ensures b.new.t b.auto.t b.ensures a.ensures a.auto.t a.new.out a.auto.out

pub returns : goal.returns
returns c =
    let b = c.begin in
    let a = c.clip_on-n in
    opened_polygon c.args.hs.now.numbers.now c.args.hs.now.width c.requires c.way-w.ensures b.new.t b.auto.t b.ensures a.ensures a.auto.t a.new.out a.auto.out c.clip_on.ensures

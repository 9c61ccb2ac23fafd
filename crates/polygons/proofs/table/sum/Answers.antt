-- `polygons::table::sum` meets its contract. Assumes nothing.
use Rattle.whole.specs.Bounds.{w_up}
use Rattle.polygons.proofs.Sums.{three_is}
use Rattle.polygons.proofs.table.sum.Goals as goal

pub returns : goal.returns
returns c =
    let f = c.requires.first in
    let g = c.requires.second in
    let h = c.requires.third in
    cc (three_is f.x_in g.x_in h.x_in, three_is f.y_in g.y_in h.y_in, three_is f.z_in g.z_in h.z_in, three_is (w_up f.w_in tt) (w_up g.w_in tt) (w_up h.w_in tt))

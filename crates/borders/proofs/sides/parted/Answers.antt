-- `borders::sides::parted` meets its contract: two cuts, one with q on the path and one with its back (proofs/Parts). Assumes nothing.
use Rattle.borders.proofs.Parts.{plane_in, front_cut, no_front, back_asked, back_cut, front_alone, on_both}
use Rattle.borders.proofs.sides.parted.Goals as goal

pub cut-requires : goal.cut-requires
cut-requires c = front_cut c.requires c.keep.ensures c.keep.auto.path

pub returns-then-is_none : goal.returns-then-is_none
returns-then-is_none c = no_front c.requires c.keep.ensures c.keep.auto.path c.cut.ensures c.if-is_none.ensures

pub opposite-requires : goal.opposite-requires
opposite-requires c = plane_in c.requires

pub keep-requires-2 : goal.keep-requires-2
keep-requires-2 c = back_asked c.requires c.keep.ensures c.keep.auto.path c.cut.ensures

pub cut-requires-2 : goal.cut-requires-2
cut-requires-2 c = back_cut c.requires c.keep.ensures c.keep.auto.path c.cut.ensures c.opposite.ensures c.keep-2.ensures c.keep-2.auto.path

pub returns-then-is_none-2 : goal.returns-then-is_none-2
returns-then-is_none-2 c = front_alone c.requires c.keep.ensures c.keep.auto.path c.cut.ensures c.opposite.ensures c.keep-2.ensures c.keep-2.auto.path c.if-is_none.ensures c.cut-2.ensures c.if-is_none-2.ensures

pub returns : goal.returns
returns c = on_both c.requires c.keep.ensures c.keep.auto.path c.cut.ensures c.opposite.ensures c.keep-2.ensures c.keep-2.auto.path c.if-is_none.ensures c.cut-2.ensures c.if-is_none-2.ensures

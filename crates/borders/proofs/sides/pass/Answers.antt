-- `borders::sides::pass` meets its contract (proofs/Passes). Assumes nothing.
use Rattle.borders.proofs.Passes.{own_told, parts_in, told_front, told_behind, told_both}
use Rattle.borders.proofs.sides.pass.Goals as goal

pub returns-then-n-t : goal.returns-then-n-t
returns-then-n-t c = own_told c.requires c.number_of-n.ensures c.if-n-t.true c.own_side.ensures

pub parted-requires : goal.parted-requires
parted-requires c = parts_in c.requires c.number_of-n.ensures c.if-n-t.false c.row-p.ensures c.row.ensures

pub returns-in-Front : goal.returns-in-Front
returns-in-Front c = told_front c.requires c.number_of-n.ensures c.if-n-t.false c.row-p.ensures c.row.ensures c.parted.ensures c.in-Front.is c.front.ensures

pub returns-in-Behind : goal.returns-in-Behind
returns-in-Behind c = told_behind c.requires c.number_of-n.ensures c.if-n-t.false c.row-p.ensures c.row.ensures c.parted.ensures c.in-Behind.is c.back.ensures

pub returns-in-Both : goal.returns-in-Both
returns-in-Both c = told_both c.requires c.number_of-n.ensures c.if-n-t.false c.row-p.ensures c.row.ensures c.parted.ensures c.in-Both.is

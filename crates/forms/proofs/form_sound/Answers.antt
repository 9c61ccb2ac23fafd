-- `forms::form_sound` meets its contract: the lists joined, the boundary planes, the form of the box, and its rows put out (proofs/Pairs). Assumes nothing.
use mathlib.Core.Path.{refl}
use native.Mathlib.Omega.{arith}
use Rattle.results.proofs.Operands.{join_in, joined_few, whole_part}
use Rattle.forms.proofs.Pairs.{borders_in, boundary_few, cell_in, form_rows, put_in}
use Rattle.forms.proofs.form_sound.Goals as goal

pub join-requires : goal.join-requires
join-requires c = join_in c.requires

pub planes-requires : goal.planes-requires
planes-requires c = joined_few c.requires c.join.ensures

pub list_boundary-k-requires : goal.list_boundary-k-requires
list_boundary-k-requires c = borders_in c.args.op c.requires c.join.ensures c.planes.result c.planes.ensures _ refl (omega arith)

pub slice_bounds-form_cell-end : goal.slice_bounds-form_cell-end
slice_bounds-form_cell-end c = omega (arith, boundary_few c.args.op c.requires c.join.ensures c.planes.result c.planes.ensures _ refl c.list_boundary-k.ensures, c.list_boundary-k.auto.boundary)

pub form_cell-w-requires : goal.form_cell-w-requires
form_cell-w-requires c = cell_in c.args.op c.requires c.join.ensures c.planes.result c.planes.ensures _ refl c.list_boundary-k.ensures (whole_part c.list_boundary-k.result c.list_boundary-k.new.boundary) c.list_boundary-k.auto.path

pub put_out-requires : goal.put_out-requires
put_out-requires c = put_in c.args.op c.requires c.join.ensures c.planes.result c.planes.ensures _ refl c.list_boundary-k.ensures (whole_part c.list_boundary-k.result c.list_boundary-k.new.boundary) c.form_cell-w.ensures c.form_cell-w.auto.out

pub returns : goal.returns
returns c = λ A B s a b w. c.put_out.ensures c.args.nodes.now s (form_rows c.args.op c.requires c.join.ensures c.planes.result c.planes.ensures _ refl c.list_boundary-k.ensures (whole_part c.list_boundary-k.result c.list_boundary-k.new.boundary) c.form_cell-w.ensures c.form_cell-w.auto.out A B s a b w)

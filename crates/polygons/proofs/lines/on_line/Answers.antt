-- `polygons::lines::on_line` meets its contract: its four numbers are those of the meeting (proofs/Meets). Assumes nothing.
use mathlib.Core.Path.{◌∙◌}
use Rattle.planes.specs.Values.{quad, plane}
use Rattle.polygons.proofs.Meets.{mixed_kept, mixed_negated_fits, mixed_negated, mixed_x, mixed_y, mixed_z, mixed_w, line_meets}
use Rattle.polygons.proofs.lines.on_line.Goals as goal

pub overflow_sub-result : goal.overflow_sub-result
overflow_sub-result c = mixed_negated_fits (mixed_x c.requires) c.mixed.ensures

pub overflow_sub-result-2 : goal.overflow_sub-result-2
overflow_sub-result-2 c = mixed_negated_fits (mixed_z c.requires) c.mixed-3.ensures

pub returns : goal.returns
returns c = λ p q h. (λ i. quad (mixed_negated (mixed_x c.requires) c.mixed.ensures i) (mixed_kept (mixed_y c.requires) c.mixed-2.ensures i) (mixed_negated (mixed_z c.requires) c.mixed-3.ensures i) (mixed_kept (mixed_w c.requires) c.mixed-4.ensures i)) ∙ line_meets (plane c.args.r) h

-- `forms::form_single` meets its contract: a solid is its union with the empty solid (proofs/Singles). Assumes nothing.
use mathlib.Core.Path.{refl}
use Rattle.forms.proofs.Singles.{single_in, single_told}
use Rattle.forms.proofs.form_single.Goals as goal

pub form_sound-requires : goal.form_sound-requires
form_sound-requires c = single_in c.args.a.now _ refl refl refl c.requires

pub returns : goal.returns
returns c = single_told c.args.a.now c.args.planes.now c.args.nodes.now c.form_sound.ensures

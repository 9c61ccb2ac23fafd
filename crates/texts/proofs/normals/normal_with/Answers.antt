-- `texts::normals::normal_with` meets its contract: the solid is refused, or put into its form (proofs/TextForm). Assumes nothing.
use mathlib.Core.Path.{refl}
use Rattle.std.proofs.Common.{arith, rules}
use Rattle.outputs.proofs.Texts.{refuses_number}
use Rattle.texts.proofs.TextForm.{solid_refused, solid_held, solid_formed}
use Rattle.texts.proofs.normals.normal_with.Goals as goal

pub normal_read-requires : goal.normal_read-requires
normal_read-requires c =
    let r = c.requires.1 in
    record { solid = solid_held c.requires.0 r.enough c.in-Ok.ensures refl c.read.auto.planes c.read.auto.nodes; result = record { planes = r.planes; nodes = r.nodes; enough = omega (arith, r.enough, c.read.auto.work) } }

pub returns-in-Ok : goal.returns-in-Ok
returns-in-Ok c = solid_formed c.requires.0 c.requires.1.enough c.in-Ok.ensures refl c.read.auto.planes c.read.auto.nodes c.normal_read.ensures

pub returns-in-Err : goal.returns-in-Err
returns-in-Err c =
    let i = c.requires.0 in
    let e = c.requires.1.enough in
    let h = c.in-Err.ensures in
    search (rules, solid_refused, refuses_number)

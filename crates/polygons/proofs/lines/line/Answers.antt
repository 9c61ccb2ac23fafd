-- `polygons::lines::line` meets its contract. Assumes nothing.
use Rattle.planes.proofs.Laws.{minor_ab, minor_ac, minor_ad, minor_bc, minor_bd, minor_cd}
use Rattle.polygons.proofs.Meets.{minor_read}
use Rattle.polygons.proofs.lines.line.Goals as goal

pub returns : goal.returns
returns c = record { ab = minor_read (minor_ab c.requires.first c.requires.second) c.minor.ensures; ac = minor_read (minor_ac c.requires.first c.requires.second) c.minor-2.ensures; ad = minor_read (minor_ad c.requires.first c.requires.second) c.minor-3.ensures; bc = minor_read (minor_bc c.requires.first c.requires.second) c.minor-4.ensures; bd = minor_read (minor_bd c.requires.first c.requires.second) c.minor-5.ensures; cd = minor_read (minor_cd c.requires.first c.requires.second) c.minor-6.ensures }

-- `polygons::codes::signal` meets its contract: the table holds what document 01 says at each of three sides. Assumes nothing.
use mathlib.Core.Path.{◌≡◌}
use mathlib.Core.List.{List, [], ◌∷◌}
use lib.ListN.{get_or}
use native.Mathlib.Omega.{arith}
use Prim.Native.Nat.{◌+◌, ◌*◌}
use Rattle.scope.specs.Section.{table}
use Rattle.planes.specs.Values.{side_sign}
use Rattle.planes.specs.declared.Side.{Side}
use Rattle.planes.specs.declared.Side.TheVariants.{Front, On, Back}
use Rattle.polygons.specs.Values.{code, signal_is}
use Rattle.polygons.specs.declared.Signal.{Signal}
use Rattle.polygons.specs.declared.Signal.TheVariants.{Nothing, B, HB}
use Rattle.polygons.proofs.codes.signal.Goals as goal

abbrev signals : List Signal
signals =
    Nothing ∷ Nothing ∷ HB ∷ Nothing ∷ Nothing ∷ HB ∷ B ∷ B ∷ B ∷ Nothing ∷ Nothing ∷ HB ∷ Nothing ∷ Nothing ∷ HB ∷ B ∷ B ∷ B ∷ Nothing ∷ Nothing ∷ HB ∷ Nothing ∷ Nothing ∷ B ∷ B ∷ B ∷ B ∷ []

told : (l m r : Side) → get_or signals (code l * 9 + code m * 3 + code r) Nothing ≡ signal_is (table (side_sign l) (side_sign m) (side_sign r))
told Back m r = grind arith
told On m r = grind arith
told Front m r = grind arith

pub returns : goal.returns
returns c = rw (c.code.ensures, c.code-2.ensures, c.code-3.ensures) (told c.args.l c.args.m c.args.r)

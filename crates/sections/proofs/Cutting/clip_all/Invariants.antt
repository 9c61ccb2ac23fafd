use mathlib.Core.Path.{◌≡◌}
use mathlib.Core.List.{◌++◌}
use Prim.Native.Nat.{◌+◌}
use lib.ListN.{length}
use Rattle.scope.specs.Section.{rest, way}
use Rattle.planes.specs.Values.{plane}
use Rattle.polygons.specs.Tables.{look, rows_to}
use Rattle.polygons.specs.Asked.{Polygon}
use Rattle.sections.proofs.Cutting.clip_all.Given as goal

abbrev pub invariant-loop-i : goal.invariant-loop-i
invariant-loop-i l =
    let c = l.self in
    let s = plane c.plane in
    record {
      as_many : length l.t ≡ length l.initial.t;
      out_as_many : length l.out ≡ length l.initial.out;
      polygon : Polygon s (look c.halves.numbers.now c.halves.width) (6 + c.rows) (rest (way s) ++ rows_to c.halves.numbers.now c.halves.width l.i) l.t l.m;
    }

use mathlib.Core.Path.{◌≡◌}
use lib.ListN.{length}
use Rattle.planes.specs.Values.{plane}
use Rattle.polygons.specs.Tables.{look, read, last_to, put_all}
use Rattle.polygons.proofs.clipping.Clip.emit.Given as goal

abbrev pub invariant-loop-i : goal.invariant-loop-i
invariant-loop-i l =
    let c = l.self in
    let put = put_all (plane c.support) (look c.halves.numbers.now c.halves.width) c.by l.sides l.t l.initial.p.prev l.i in
    record {
      as_many : length l.out ≡ length l.initial.out;
      prev : l.p.prev ≡ last_to l.sides l.t l.initial.p.prev l.i;
      at : l.p.at ≡ length put;
      read_is : read l.out l.p.at ≡ put;
    }

-- `cuts::stops::stopped_by_box` meets its contract (proofs/Asking). Assumes nothing.
use mathlib.Core.Path.{refl}
use Rattle.std.proofs.Common.{arith}
use Rattle.std.proofs.lemmas.Int.{ints}
use Rattle.whole.specs.Members.{here, there}
use Rattle.planes.specs.Values.{meeting}
use Rattle.cuts.proofs.Asking.{along_within, low_is, high_is, box_none}
use Rattle.cuts.proofs.stops.stopped_by_box.Goals as goal

pub returns-then-v-u-le0 : goal.returns-then-v-u-le0
returns-then-v-u-le0 c =
    let s = along_within c.requires.1 c.args.axis in
    record { below = omega arith; member = here refl; behind = rw (low_is (meeting c.args.m) c.args.axis c.requires.0) (omega (arith, ints)) }

pub overflow_sub-u : goal.overflow_sub-u
overflow_sub-u c =
    let s = along_within c.requires.1 c.args.axis in
    omega (arith, ints)

pub returns-then-u-v-le0 : goal.returns-then-u-v-le0
returns-then-u-v-le0 c =
    let s = along_within c.requires.1 c.args.axis in
    record { below = omega arith; member = there (here refl); behind = rw (high_is (meeting c.args.m) c.args.axis c.requires.0) (omega (arith, ints)) }

pub returns : goal.returns
returns c =
    let s = along_within c.requires.1 c.args.axis in
    box_none (meeting c.args.m) c.args.axis c.requires.0 (omega (arith, ints)) (omega (arith, ints))

-- `sections::drawn` meets its contract. One lemma for each way out (proofs/Told). Assumes nothing.
use mathlib.Core.Path.{sym, ap, ◌∙◌}
use Prim.Native.Nat.{◌+◌, ◌/◌}
use native.Mathlib.Omega.{arith}
use lib.ListN.{length}
use lib.Seq.{sets}
use Rattle.scope.specs.Section.{section}
use Rattle.scope.specs.Answers.{flat_planes}
use Rattle.planes.specs.Values.{plane}
use Rattle.polygons.specs.Tables.{look, rows_to}
use Rattle.sections.proofs.Told.{answer_short, answer_odd, answer_many, answer_faulty, answer_bounds, by_nothing, by_refused, by_given, drawn_refused, drawn_nothing, drawn_bounds, region_rows, end_section, end_length, end_nothing, write_in}
use Rattle.sections.proofs.drawn.Goals as goal

pub returns-then-work-lt-WORK : goal.returns-then-work-lt-WORK
returns-then-work-lt-WORK c = drawn_refused c.args.s c.args.halves.now c.args.bounds.now c.args.work.now 8 c.requires (answer_short (length c.args.work.now) (length c.args.bounds.now) (plane c.args.s) c.args.halves.now c.if-work-lt-WORK.true)

pub returns-then-halves-ne0 : goal.returns-then-halves-ne0
returns-then-halves-ne0 c = drawn_refused c.args.s c.args.halves.now c.args.bounds.now c.args.work.now 2 c.requires (answer_odd (length c.args.work.now) (length c.args.bounds.now) (plane c.args.s) c.args.halves.now c.if-work-lt-WORK.false c.if-halves-ne0.true)

pub returns-then-rows-gt-MOST_HALVES : goal.returns-then-rows-gt-MOST_HALVES
returns-then-rows-gt-MOST_HALVES c = drawn_refused c.args.s c.args.halves.now c.args.bounds.now c.args.work.now 3 c.requires (answer_many (length c.args.work.now) (length c.args.bounds.now) (plane c.args.s) c.args.halves.now c.if-work-lt-WORK.false c.if-halves-ne0.false c.if-rows-gt-MOST_HALVES.true)

pub returns-then-not-lawful : goal.returns-then-not-lawful
returns-then-not-lawful c = drawn_refused c.args.s c.args.halves.now c.args.bounds.now c.args.work.now 4 c.requires (answer_faulty (length c.args.work.now) (length c.args.bounds.now) (plane c.args.s) c.args.halves.now c.if-work-lt-WORK.false c.if-halves-ne0.false c.if-rows-gt-MOST_HALVES.false (sym c.lawful.ensures ∙ c.if-not-lawful.true))

pub bounded-n-requires : goal.bounded-n-requires
bounded-n-requires c =
    record {
      region = region_rows (plane c.args.s) c.args.halves.now (length c.args.halves.now / 4) c.if-rows-gt-MOST_HALVES.false (omega arith) (sym c.lawful.ensures ∙ c.if-not-lawful.false);
      room = omega (arith, c.if-work-lt-WORK.false);
    }

pub returns-then-n-eq0 : goal.returns-then-n-eq0
returns-then-n-eq0 c =
    let b = c.bounded-n in
    drawn_nothing c.args.s c.args.halves.now c.args.bounds.now c.args.work.now c.requires (answer_bounds (length c.args.work.now) (length c.args.bounds.now) (plane c.args.s) c.args.halves.now c.if-work-lt-WORK.false c.if-halves-ne0.false c.if-rows-gt-MOST_HALVES.false (sym c.lawful.ensures ∙ c.if-not-lawful.false) ∙ by_nothing _ (section (plane c.args.s) (rows_to c.args.halves.now 4 (length c.args.halves.now / 4))) (end_nothing (plane c.args.s) (look c.args.halves.now 4) (6 + length c.args.halves.now / 4) (rows_to c.args.halves.now 4 (length c.args.halves.now / 4)) b.new.t b.result b.ensures c.if-n-eq0.true))

pub returns-then-bounds-n : goal.returns-then-bounds-n
returns-then-bounds-n c =
    let b = c.bounded-n in
    drawn_refused c.args.s c.args.halves.now c.args.bounds.now c.args.work.now 8 c.requires (answer_bounds (length c.args.work.now) (length c.args.bounds.now) (plane c.args.s) c.args.halves.now c.if-work-lt-WORK.false c.if-halves-ne0.false c.if-rows-gt-MOST_HALVES.false (sym c.lawful.ensures ∙ c.if-not-lawful.false) ∙ by_refused _ (section (plane c.args.s) (rows_to c.args.halves.now 4 (length c.args.halves.now / 4))) (omega (arith, c.if-bounds-n.true, end_length (plane c.args.s) (look c.args.halves.now 4) (6 + length c.args.halves.now / 4) (rows_to c.args.halves.now 4 (length c.args.halves.now / 4)) b.new.t b.result b.ensures)))

pub write_bounds-requires : goal.write_bounds-requires
write_bounds-requires c =
    let b = c.bounded-n in
    let r = length c.args.halves.now / 4 in
    let g = region_rows (plane c.args.s) c.args.halves.now r c.if-rows-gt-MOST_HALVES.false (omega arith) (sym c.lawful.ensures ∙ c.if-not-lawful.false) in
    write_in (plane c.args.s) c.args.halves.now r _ b.new.t b.result c.args.bounds.now g b.ensures (omega (arith, c.if-bounds-n.false))

pub returns : goal.returns
returns c =
    let b = c.bounded-n in
    let w = c.write_bounds in
    drawn_bounds c.args.s c.args.halves.now c.args.bounds.now c.args.work.now w.new.bounds (section (plane c.args.s) (rows_to c.args.halves.now 4 (length c.args.halves.now / 4))) b.result c.requires
    (answer_bounds (length c.args.work.now) (length c.args.bounds.now) (plane c.args.s) c.args.halves.now c.if-work-lt-WORK.false c.if-halves-ne0.false c.if-rows-gt-MOST_HALVES.false (sym c.lawful.ensures ∙ c.if-not-lawful.false) ∙ by_given _ (section (plane c.args.s) (rows_to c.args.halves.now 4 (length c.args.halves.now / 4))) (omega (arith, c.if-bounds-n.false, end_length (plane c.args.s) (look c.args.halves.now 4) (6 + length c.args.halves.now / 4) (rows_to c.args.halves.now 4 (length c.args.halves.now / 4)) b.new.t b.result b.ensures)))
    (end_length (plane c.args.s) (look c.args.halves.now 4) (6 + length c.args.halves.now / 4) (rows_to c.args.halves.now 4 (length c.args.halves.now / 4)) b.new.t b.result b.ensures) c.if-n-eq0.false (omega (arith, c.if-bounds-n.false))
    (w.ensures ∙ ap (λ bs. sets c.args.bounds.now 0 (flat_planes bs)) (end_section (plane c.args.s) (look c.args.halves.now 4) (6 + length c.args.halves.now / 4) (rows_to c.args.halves.now 4 (length c.args.halves.now / 4)) b.new.t b.result b.ensures))

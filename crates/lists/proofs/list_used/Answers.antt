-- `lists::list_used` meets its contract. Assumes nothing.
use mathlib.Core.Path.{◌∙◌}
use native.Mathlib.Omega.{arith}
use Rattle.lists.specs.Lists.{no_room, over_64}
use Rattle.lists.proofs.Listings.{none_at, number_held, count_held, listed_count, listed_planes, listed_rows}
use Rattle.lists.proofs.list_used.Goals as goal

pub mark_used-requires : goal.mark_used-requires
mark_used-requires c = let h = c.requires.held in record { rows = h.room; numbers = λ i l. omega (arith, number_held h i l, h.few); none = none_at 128 }

pub rank-count-requires : goal.rank-count-requires
rank-count-requires c =
    let h = c.requires.held in
    let u = c.mark_used in
    record {
      marks = omega (arith, count_held h, h.few, u.auto.used);
      room = omega (arith, count_held h, h.few);
      few = omega (arith, count_held h, h.few);
    }

pub returns-then-planes-count : goal.returns-then-planes-count
returns-then-planes-count c = λ ps es h. no_room (omega (arith, listed_count h c.mark_used.new.used c.mark_used.ensures, c.rank-count.ensures.count, c.if-planes-count.true))

pub returns-then-count-gt-MOST_PLANES : goal.returns-then-count-gt-MOST_PLANES
returns-then-count-gt-MOST_PLANES c =
    λ ps es h. let n = listed_count h c.mark_used.new.used c.mark_used.ensures in
    over_64 (omega (arith, n, c.rank-count.ensures.count, c.if-planes-count.false)) (omega (arith, n, c.rank-count.ensures.count, c.if-count-gt-MOST_PLANES.true))

pub put_used-requires : goal.put_used-requires
put_used-requires c =
    let h = c.requires.held in
    record {
      marks = omega (arith, count_held h, h.few, c.mark_used.auto.used);
      places = omega (arith, count_held h, h.few, c.rank-count.auto.ranks);
      each = c.rank-count.ensures.each;
      room = omega (arith, c.rank-count.ensures.count, c.if-planes-count.false);
      zeros = c.requires.zeros;
    }

pub to_ranks-requires : goal.to_ranks-requires
to_ranks-requires c = let h = c.requires.held in record { rows = omega (arith, h.room); numbers = λ i l. omega (arith, number_held h i (omega (arith, l)), h.few, c.rank-count.auto.ranks) }

pub returns : goal.returns
returns c =
    λ ps es h.
    let u = c.mark_used in
    let r = c.rank-count in
    let p = c.put_used in
    let t = c.to_ranks in
    let n = listed_count h u.new.used u.ensures in
    record {
      count = r.ensures.count ∙ n;
      few = omega (arith, c.if-count-gt-MOST_PLANES.false);
      planes = listed_planes h u.new.used u.ensures p.new.planes p.ensures;
      rows = listed_rows h u.new.used u.ensures r.new.ranks t.new.nodes r.ensures.each t.ensures;
      room = omega (arith, c.if-planes-count.false, p.auto.planes);
    }

-- `lists::put_used` meets its contract. The invariant: the planes used among the first i are put. Assumes nothing.
use mathlib.Core.Path.{refl, sym, ap, subst, ◌∙◌}
use Prim.Native.Nat.{◌+◌, ◌*◌, ◌/◌}
use native.Mathlib.Omega.{arith}
use lib.Seq.{sets}
use lib.ListN.{length}
use Rattle.planes.specs.Values.{plane}
use Rattle.lists.specs.Steps.{Puts}
use Rattle.lists.proofs.Rows.{four}
use Rattle.lists.proofs.Puts.{puts_none, puts_used, puts_unused, put_room}
use Rattle.lists.proofs.put_used.Goals as goal
use Rattle.lists.proofs.put_used.Goals.{then-used-i, else-used-i}

pub loop-i-init : goal.loop-i-init
loop-i-init c = (omega arith, refl, puts_none c.args.joined.now c.args.used.now c.args.planes.now c.requires.zeros)

pub store-requires : goal.store-requires
store-requires c =
    let l = c.loop-i in
    let t = c.loop-i-test.true in
    omega (arith, c.requires.each l.i t, put_room c.args.joined.now c.args.used.now l.i (length c.args.joined.now / 4) (length l.planes) t c.if-used-i.true (omega (arith, c.requires.room, l.invariant.1)))

pub loop-i-preserved : goal.loop-i-preserved
loop-i-preserved c =
    let l = c.loop-i in
    let t = c.loop-i-test.true in
    let j = c.args.joined.now in
    let u = c.args.used.now in
    elim c.if-used-i.branch [
      | then-used-i w ↦
          let k = c.requires.each l.i t in
          let room = put_room j u l.i (length j / 4) (length l.planes) t w.if-used-i.true (omega (arith, c.requires.room, l.invariant.1)) in
          (omega (arith, t), ap length w.planes-is ∙ w.store.auto.t ∙ l.invariant.1, subst (Puts j (l.i + 1) u) (sym w.planes-is) (puts_used j u l.i l.planes w.store.new.t (plane w.row.result) w.if-used-i.true w.row.ensures room (w.store.ensures ∙ ap (λ v. sets l.planes (4 * v) (four (plane w.row.result))) k) l.invariant.2))
      | else-used-i w ↦
          (omega (arith, t), ap length w.planes-is ∙ l.invariant.1, subst (Puts j (l.i + 1) u) (sym w.planes-is) (puts_unused j u l.i l.planes w.if-used-i.false l.invariant.2))
    ]

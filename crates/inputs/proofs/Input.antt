-- From the promises of the calls to scope's `judge_merge`.
--     lent_rooms, solid_held                  a solid in tables that have room for every operand
--     last_told                               the last solid, and nothing after it
--     none_is, over_is, known_is, unknown     the operation's number
--     first_refused, second_refused, both_read   A, then B
--     text_long, no_operation, order_told     a text
use mathlib.Core.Path.{◌≡◌, refl, ap, subst, ◌∙◌}
use mathlib.Core.Bool.{Bool, true, false, cond}
use mathlib.Core.List.{List}
use mathlib.Core.Logic.{◌≢◌}
use Prim.Native.Nat.{ℕ, ◌/◌, ◌≤◌, ◌<◌}
use native.Mathlib.Omega.{arith}
use lib.Dec.{leb}
use lib.IntN.{ℤ}
use lib.ListN.{length, drop}
use borrow.Author.Tests.{le-leb, lt-leb}
use Rattle.whole.specs.Tests.{◌and◌}
use Rattle.scope.specs.Limits.{most_text}
use Rattle.scope.specs.Text.{operation, frames}
use Rattle.scope.specs.Judging.{Rooms, fresh, read, read_solid, finish, order_refused, second, first, known, with_operation, opening, judge_merge}
use Rattle.scope.specs.Answers.{operand_rooms}
use Rattle.frames.specs.Promises.{Reads, OperationTold}
use Rattle.frames.specs.Follows.{operation_refuses}
use Rattle.std.specs.Prelude.{Result, Ok, Err}
use Rattle.tables.specs.declared.Solid.{Solid}
use Rattle.lines.specs.declared.SolidRead.{SolidRead}
use Rattle.solids.specs.Finish.{Finished, not_read, at_end, more}
use Rattle.lines.specs.Reading.{rooms, WholeSolid, SolidTold}
use Rattle.lines.proofs.Whole.{finish_read, finish_more, finish_refused}
use Rattle.inputs.specs.declared.Order.{Order}
use Rattle.inputs.specs.Orders.{HoldsSolid, OrderTold}
use Rattle.inputs.specs.Steps.{LastTold, after_operation, KnownTold}

-- ---- a solid in tables with room for every operand

pub lent_rooms : (xs : List ℤ) (ns : List ℕ) → length xs ≡ 256 → length ns ≡ 3000 → rooms xs ns ≡ operand_rooms
lent_rooms xs ns ex en = λ i. record { plane_rows = ex i / 4; node_rows = en i / 3 }

pub solid_held : {t : List ℕ} {from l : ℕ} {a : Rooms} {s : Solid} {xs : List ℤ} {ns : List ℕ} {next j : ℕ} (q : WholeSolid t from l a s xs ns next j) → HoldsSolid q.is s xs ns
solid_held q = record { counts = q.counts; planes = q.plane_table; nodes = q.node_table }

-- ---- the last solid

module _ (t : List ℕ) (from l : ℕ) {a : Rooms} (xs : List ℤ) (ns : List ℕ) (ea : a ≡ operand_rooms) where
  pub last_told : {r : Result SolidRead (ℕ × ℕ)} {j : Result Solid (ℕ × ℕ)} → Finished t r j → SolidTold t from l a xs ns r → LastTold t from l xs ns j
  last_told {r} f h = by f (subst (λ a. SolidTold t from l a xs ns r) ea h)
    where
      by : {r : Result SolidRead (ℕ × ℕ)} {j : Result Solid (ℕ × ℕ)} → Finished t r j → SolidTold t from l operand_rooms xs ns r → LastTold t from l xs ns j
      by not_read h = finish_refused h
      by (at_end e) h = record { is = h.is; held = solid_held h; sound = finish_read h.reading e }
      by (more e) h = finish_more h.reading e

-- ---- the operation

pub none_is : {op : ℕ} → op ≡ 0 → known op ≡ false
unfolding known
none_is e = ap (λ o. leb 1 o and leb o 3) e

pub over_is : {op : ℕ} → 3 < op → known op ≡ false
unfolding known
over_is {op} h = ap (λ b. leb 1 op and b) (lt-leb op 3 h) ∙ by (leb 1 op)
  where
    by : (b : Bool) → b and false ≡ false
    by true = refl
    by false = refl

pub known_is : {op : ℕ} → op ≢ 0 → op ≤ 3 → known op ≡ true
unfolding known
known_is {op} h g = λ i. le-leb 1 op (omega (arith, h)) i and le-leb op 3 g i

module _ (t : List ℕ) (from op : ℕ) where
  pub unknown : known op ≡ false → after_operation t from op ≡ order_refused 7 1
  unknown e = ap (λ b. with_operation operand_rooms b op (frames (drop from t))) e

  module _ (e : known op ≡ true) {a : Rooms} (ea : a ≡ operand_rooms) where
    by_first : after_operation t from op ≡ first operand_rooms op (read_solid operand_rooms fresh 2 (frames (drop from t)))
    by_first = ap (λ b. with_operation operand_rooms b op (frames (drop from t))) e

    -- A is refused
    pub first_refused : (ps : List ℤ) (ns : List ℕ) (bp : List ℤ) (bn : List ℕ) {k l : ℕ} → SolidTold t from 2 a ps ns (Err (k, l)) → KnownTold (after_operation t from op) ps ns bp bn (Err (k, l))
    first_refused ps ns bp bn {k} {l} h = by_first ∙ ap (first operand_rooms op) (subst (λ a. SolidTold t from 2 a ps ns (Err (k, l))) ea h)

    -- A is read, then B
    module _ {s : Solid} {ps : List ℤ} {ns : List ℕ} {next l : ℕ} (q : WholeSolid t from 2 a s ps ns next l) (bp : List ℤ) (bn : List ℕ) where
      by_second : after_operation t from op ≡ second op q.is (finish (read_solid operand_rooms fresh l (frames (drop next t))))
      by_second = by_first ∙ ap (first operand_rooms op) (subst (λ a. read_solid a fresh 2 (frames (drop from t)) ≡ read q.is l (frames (drop next t))) ea q.reading)

      pub second_refused : {k j : ℕ} → LastTold t next l bp bn (Err (k, j)) → KnownTold (after_operation t from op) ps ns bp bn (Err (k, j))
      second_refused h = by_second ∙ ap (second op q.is) h

      pub both_read : {u : Solid} → LastTold t next l bp bn (Ok u) → KnownTold (after_operation t from op) ps ns bp bn (Ok (record { op = op; a = s; b = u }))
      both_read h = record { first = q.is; second = h.is; judged = by_second ∙ ap (second op q.is) h.sound; first_held = solid_held q; second_held = h.held }

-- ---- a text

module _ (t : List ℕ) where
  pub text_long : most_text < length t → judge_merge operand_rooms t ≡ order_refused 3 0
  unfolding judge_merge
  text_long h = ap (λ b. cond b (opening operand_rooms (frames t)) (order_refused 3 0)) (lt-leb (length t) most_text h)

  module _ (short : length t ≤ most_text) where
    by_opening : judge_merge operand_rooms t ≡ opening operand_rooms (frames t)
    unfolding judge_merge
    by_opening = ap (λ b. cond b (opening operand_rooms (frames t)) (order_refused 3 0)) (le-leb (length t) most_text short)

    pub no_operation : (ps : List ℤ) (ns : List ℕ) (bp : List ℤ) (bn : List ℕ) {k : ℕ} → OperationTold t 0 (Err k) → OrderTold t ps ns bp bn (Err (k, 1))
    no_operation ps ns bp bn h = by_opening ∙ operation_refuses operand_rooms (frames t) h

    module _ {op next : ℕ} (h : Reads t 0 (operation op) 5 next) where
      opened : judge_merge operand_rooms t ≡ after_operation t next op
      unfolding opening
      opened = by_opening ∙ ap (opening operand_rooms) h.first

      pub order_told : (ps : List ℤ) (ns : List ℕ) (bp : List ℤ) (bn : List ℕ) (r : Result Order (ℕ × ℕ)) → KnownTold (after_operation t next op) ps ns bp bn r → OrderTold t ps ns bp bn r
      order_told ps ns bp bn (Ok o) q = record { first = q.first; second = q.second; judged = opened ∙ q.judged; first_held = q.first_held; second_held = q.second_held }
      order_told ps ns bp bn (Err (k, l)) q = opened ∙ q

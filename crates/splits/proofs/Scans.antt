-- The search for the first listed plane that cuts a cell.
--     scan_there, scan_classify      a listed plane stands in the table, and what `classify` is given
--     NoneCuts, none_yet, none_more  none cuts from one place up to another
--     first_found, first_none        the first that cuts, or none
use mathlib.Core.Path.{◌≡◌, refl, sym, subst}
use mathlib.Core.List.{List}
use Prim.Native.Nat.{ℕ, ◌+◌, ◌*◌, ◌≤◌, ◌<◌}
use native.Mathlib.Omega.{arith}
use borrow.Author.Count.{below_more}
use lib.IntN.{ℤ}
use lib.ListN.{length, get_or}
use Rattle.std.specs.Prelude.{Some, None}
use Rattle.whole.specs.Order.{pos_not_zero, neg_not_zero}
use Rattle.scope.specs.Planes.{Plane, Lawful}
use Rattle.scope.specs.Cells.{Cuts}
use Rattle.planes.specs.Values.{plane, meeting}
use Rattle.planes.specs.declared.Plane as struct
use Rattle.planes.specs.declared.Meeting.{Meeting}
use Rattle.cells.specs.declared.Classified.{Classified}
use Rattle.cells.specs.Paths.{OnPath, Witness, Classes, is_cut, is_front, is_behind, ClassifiedIn, ClassifyIn}
use Rattle.cells.proofs.Paths.{on_map}
use Rattle.walks.specs.Walks.{In}
use Rattle.walks.proofs.Ways.{on_few}
use Rattle.borders.specs.Bounded.{listed}
use Rattle.borders.proofs.Rows.{row_there, row_member}
use Rattle.splits.specs.Splits.{ScanIn, first_at, nowhere, FirstTold}

-- none from place k up to i cuts, in whatever cell the path leads to
pub record NoneCuts (xs : List ℤ) (bs : List ℕ) (path : List ℤ) (depth k i : ℕ) : Type 0 where
  pub none : (c : List Plane) → OnPath (In xs) path depth c → (j : ℕ) → k ≤ j → j < i → ¬ Cuts (listed xs bs j) c

module _ {xs : List ℤ} {bs : List ℕ} {path : List ℤ} {depth k : ℕ} where
  pub none_yet : NoneCuts xs bs path depth k k
  none_yet = record { none = λ c on j u v. absurd (omega (arith, u, v)) }

  pub first_none : {i : ℕ} → NoneCuts xs bs path depth k i → length bs ≤ i → FirstTold xs bs path depth k (length bs) None
  first_none n l c on = nowhere (λ j u v. n.none c on j u (omega (arith, l, v)))

module _ {xs : List ℤ} {bs : List ℕ} {path : List ℤ} {depth : ℕ} (h : ScanIn xs bs path depth) {i : ℕ} (l : i < length bs) where
  pub scan_there : 4 * get_or bs i 0 + 3 < length xs
  scan_there = row_there xs (get_or bs i 0) (h.places i l)

  -- the plane that was read is the listed one
  module _ {p : struct.Plane} (e : plane p ≡ listed xs bs i) where
    pub scan_classify : ClassifyIn (plane p) path depth
    scan_classify = record {
      lawful = subst Lawful (sym e) (h.grounds.lawful (listed xs bs i) (row_member xs (get_or bs i 0) (h.places i l)));
      few = omega (arith, on_few h.on, h.grounds.few);
      room = omega (arith, on_few h.on, h.grounds.few, h.grounds.path_room);
      cell = h.cell;
      on = on_map (λ p q. q.lawful) h.on;
    }

    module _ {r : Classified} (f : ClassifiedIn (plane p) path depth r) {k : ℕ} (n : NoneCuts xs bs path depth k i) where
      class : (c : List Plane) → OnPath (In xs) path depth c → Classes (listed xs bs i) c r
      class c on = subst (λ q. Classes q c r) e (f c (on_map (λ p q. q.lawful) on))

      pub first_found : k ≤ i → {x : Meeting} → r ≡ Classified.Cut x → FirstTold xs bs path depth k (length bs) (Some (record { place = i; point = x }))
      first_found m {x} d c on = first_at {f = record { place = i; point = x }} m l (by (subst (Classes (listed xs bs i) c) d (class c on))) (n.none c on)
        where
          by : Classes (listed xs bs i) c (Classified.Cut x) → Witness (listed xs bs i) c (meeting x)
          by (is_cut w) = w

      pub none_more : ((x : Meeting) → r ≡ Classified.Cut x → ⊥) → NoneCuts xs bs path depth k (i + 1)
      none_more m = record { none = λ c on j u v. below_more (λ j. k ≤ j → ¬ Cuts (listed xs bs j) c) i (λ j v u. n.none c on j u v) (λ u. by r refl (class c on)) j v u }
        where
          by : {c : List Plane} (s : Classified) → r ≡ s → Classes (listed xs bs i) c s → ¬ Cuts (listed xs bs i) c
          by (Classified.Cut x) d z = absurd (m x d)
          by Classified.Front d (is_front a) = λ u. pos_not_zero (a u.point u.inside) u.on
          by Classified.Behind d (is_behind a) = λ u. neg_not_zero (a u.point u.inside) u.on

-- How a row is passed: at a row of the plane itself by the side that is taken, at any other by where the plane has points.
--     own_told                        a row of the plane itself
--     parts_in                        what `parted` is given
--     told_front, told_behind, told_both   the answers, from those of `parted`
use mathlib.Core.Path.{◌≡◌, refl, sym, ap, subst, ◌∙◌}
use mathlib.Core.List.{List}
use mathlib.Core.Logic.{◌≢◌}
use Prim.Native.Nat.{ℕ, ◌+◌, ◌*◌}
use native.Mathlib.Omega.{arith}
use lib.IntN.{ℤ}
use lib.ListN.{get_or}
use Rattle.std.specs.Prelude.{Option, Some, None}
use Rattle.scope.specs.Planes.{Plane, Lawful}
use Rattle.scope.specs.Solids.{place}
use Rattle.scope.specs.Cells.{Cuts}
use Rattle.theory.specs.Cells.Path.{on_kept_few}
use Rattle.planes.specs.Values.{plane}
use Rattle.planes.specs.declared.Plane as struct
use Rattle.tables.specs.Rows.{plane_at}
use Rattle.walks.specs.declared.operations.Mark as marks
use Rattle.walks.specs.declared.rows.Operands.{Operands}
use Rattle.walks.specs.Standing.{list, walked, number_at}
use Rattle.walks.specs.Marks.{above_of}
use Rattle.borders.specs.declared.Stage.{Stage}
use Rattle.borders.specs.declared.Parted.{Parted}
use Rattle.borders.specs.declared.Parted.TheVariants as parted
use Rattle.borders.specs.Sides.{cell_at, taken, own_field, plane_of, Parts, PartsIn, PartsTold, Passes, PassIn, PassTold}
use Rattle.borders.proofs.Paths.{rows_ranged}

own_passes : {p q : Plane} (n : Option marks.Mark) {c : List Plane} (ns : List ℕ) (r : ℕ) → q ≡ p → Passes p q (taken (above_of n)) c (get_or ns (3 * r + 1) 0) (get_or ns (3 * r + 2) 0) (Some (get_or ns (3 * r + own_field n) 0))
own_passes None ns r d = Passes.own_front d refl
own_passes (Some n) ns r d = Passes.own_back d refl

module _ {o : Operands} {t : Stage} {path : List ℤ} {depth r : ℕ} (h : PassIn o t path depth r) where
  abbrev own : Plane
  own = plane_at o.planes.now t.plane

  abbrev other : Plane
  other = plane_of o t r

  abbrev ns : List ℕ
  ns = walked o t.above

  abbrev front : ℕ
  front = get_or ns (3 * r + 1) 0

  abbrev back : ℕ
  back = get_or ns (3 * r + 2) 0

  module _ {n : ℕ} (en : n ≡ number_at o t.above r) where
    pub own_told : n ≡ t.plane → {e : ℕ} → e ≡ get_or ns (3 * r + own_field t.front) 0 → PassTold o t path path depth r (Some e)
    own_told d i = record {
      kept = record { rows = λ i l. refl };
      passes = subst (λ e. Passes own other (taken (above_of t.front)) (cell_at path depth) front back (Some e)) (sym i) (own_passes t.front ns r (ap (plane_at o.planes.now) (sym en ∙ d)));
    }

    -- a plane has one number
    apart : (n ≡ t.plane → ⊥) → other ≢ own
    apart d e = d (en ∙ h.row.place ∙ ap (place (list o.planes.now)) (sym h.row.plane ∙ e) ∙ h.meets.own.place)

    module _ (d : n ≡ t.plane → ⊥) {p q : struct.Plane} (ep : plane p ≡ own) (eq : plane q ≡ plane_at o.planes.now n) where
      other_is : plane q ≡ other
      other_is = eq ∙ ap (plane_at o.planes.now) en

      pub parts_in : PartsIn (plane p) (plane q) path depth
      parts_in =
          let m = h.meets in
          let k = on_kept_few m.own.member m.on in
          record {
            lawful = subst Lawful (sym ep) (m.grounds.lawful own m.own.member);
            other_lawful = subst Lawful (sym (other_is ∙ h.row.plane)) (m.grounds.lawful h.plane h.row.member);
            other = λ e. apart d (sym other_is ∙ e ∙ ep);
            deep = omega (arith, k, m.grounds.few);
            room = omega (arith, k, m.grounds.few, m.grounds.path_room);
            ranged = rows_ranged path m.grounds.lawful depth m.on;
            links = m.links;
            cuts = subst (λ p. Cuts p (cell_at path depth)) (sym ep) m.cuts;
          }

      module _ {path' : List ℤ} {z : Parted} (k : PartsTold (plane p) (plane q) path path' depth z) where
        parts : {y : Parted} → z ≡ y → Parts own other (cell_at path depth) y
        parts {y} e = subst (Parts own other (cell_at path depth)) e (subst (λ p. Parts p other (cell_at path depth) z) ep (subst (λ q. Parts (plane p) q (cell_at path depth) z) other_is k.parts))

        told : {y : Option ℕ} → Passes own other (taken (above_of t.front)) (cell_at path depth) front back y → PassTold o t path path' depth r y
        told y = record { kept = k.kept; passes = y }

        pub told_front : z ≡ parted.Front → {e : ℕ} → e ≡ front → PassTold o t path path' depth r (Some e)
        told_front f {e} i = told (subst (λ e. Passes own other (taken (above_of t.front)) (cell_at path depth) front back (Some e)) (sym i) (by (parts f)))
          where
            by : {c : List Plane} → Parts own other c parted.Front → Passes own other (taken (above_of t.front)) c front back (Some front)
            by (Parts.in_front x y) = Passes.in_front (apart d) x y

        pub told_behind : z ≡ parted.Behind → {e : ℕ} → e ≡ back → PassTold o t path path' depth r (Some e)
        told_behind f {e} i = told (subst (λ e. Passes own other (taken (above_of t.front)) (cell_at path depth) front back (Some e)) (sym i) (by (parts f)))
          where
            by : {c : List Plane} → Parts own other c parted.Behind → Passes own other (taken (above_of t.front)) c front back (Some back)
            by (Parts.behind x y) = Passes.behind (apart d) x y

        pub told_both : z ≡ parted.Both → PassTold o t path path' depth r None
        told_both f = told (by (parts f))
          where
            by : {c : List Plane} → Parts own other c parted.Both → Passes own other (taken (above_of t.front)) c front back None
            by (Parts.both x y) = Passes.both (apart d) x y

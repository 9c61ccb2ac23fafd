-- Whether a plane is a boundary plane, by the four walks on it from the box.
--     own_few                   the plane's number is small
--     told_missed               a plane that misses the box is none
--     begun_in, told_walked     what the first walk is given, and what its answer tells
use mathlib.Core.Path.{◌≡◌, refl, sym, subst}
use mathlib.Core.Bool.{Bool, true, false}
use mathlib.Core.List.{List}
use mathlib.Core.Option.{none}
use Prim.Native.Nat.{ℕ, ◌<◌}
use native.Mathlib.Omega.{arith}
use lib.IntN.{ℤ}
use Rattle.std.specs.Prelude.{Option, None, is_some, Decides}
use Rattle.std.proofs.lemmas.Bool.{false≢true}
use Rattle.std.proofs.lemmas.Bool.Decides.{not_from_Decides}
use Rattle.scope.specs.Planes.{Plane, Lawful}
use Rattle.scope.specs.Cells.{box, Cuts, operate}
use Rattle.theory.specs.Cells.Path.{OnKept, on_none}
use Rattle.theory.specs.Cells.Reached.{decided}
use Rattle.theory.specs.Forms.OnPlane.{four_boundary, boundary_four}
use Rattle.planes.specs.Values.{plane}
use Rattle.planes.specs.declared.Plane as struct
use Rattle.planes.specs.declared.Meeting.{Meeting}
use Rattle.polygons.specs.Tables.{rows_down}
use Rattle.tables.specs.Rows.{plane_at}
use Rattle.walks.specs.declared.rows.Operands.{Operands}
use Rattle.walks.specs.Standing.{list}
use Rattle.walks.specs.Marks.{operation_of}
use Rattle.cuts.specs.Paths.{CutTold}
use Rattle.borders.specs.declared.Pair.{Pair}
use Rattle.borders.specs.declared.Stage.{Stage}
use Rattle.borders.specs.Sides.{cell_at, Differs, SideIn, Did}
use Rattle.borders.specs.Borders.{BoundaryIn, BoundaryTold}
use Rattle.borders.proofs.Paths.{cut_said}
use Rattle.borders.proofs.Follows.{decides_map}
use Rattle.borders.proofs.Rows.{own_small, tree_lawful, both_general}

-- no row is on the path
box_at : (path : List ℤ) → cell_at path 0 ≡ box
unfolding rows_down
box_at path = refl

module _ {o : Operands} {pair : Pair} {path : List ℤ} {i : ℕ} (h : BoundaryIn o pair path i) where
  abbrev own : Plane
  own = plane_at o.planes.now i

  pub own_few : i < 128
  own_few = omega (arith, own_small h.own, h.grounds.few)

  -- the first stage
  abbrev pub begun : Stage
  begun = record { pair = pair; plane = i; above = None; front = None }

  module _ {p : struct.Plane} (e : plane p ≡ own) where
    module _ {r : Option Meeting} (w : CutTold (plane p) (cell_at path 0) r) where
      said : Decides (is_some r) (Cuts own box)
      said = subst (λ c. Decides (is_some r) (Cuts own c)) (box_at path) (subst (λ q. Decides (is_some r) (Cuts q (cell_at path 0))) e (cut_said w))

      -- it misses the box
      pub told_missed : is_some r ≡ false → BoundaryTold o pair i false
      told_missed n A B pi ms = (λ e. absurd (false≢true e), λ d. absurd (not_from_Decides (is_some r) said n (record { point = d.point; on = d.on; inside = d.inside })))

      module _ (f : is_some r ≡ true) where
        pub begun_in : SideIn o begun path 0 pair.ar
        begun_in = record {
          meets = record { grounds = h.grounds; own = h.own; on = subst (λ c. OnKept own (list o.planes.now) c 0) (sym (box_at path)) on_none; links = λ i l. absurd (omega (arith, l)); cuts = subst (Cuts own) (sym (box_at path)) (said.0 f) };
          here = record { tree_a = h.tree_a; tree_b = h.tree_b; pair_is = h.pair_is; tree = h.tree_a; stands = h.pair_is.first_stands };
        }

        pub told_walked : {path' : List ℤ} {z : Bool} → Did o begun path path' 0 pair.ar z → BoundaryTold o pair i z
        told_walked {z = z} d A B pi ms =
            let q = operation_of pair.op in
            let l = h.grounds.lawful in
            let a = tree_lawful l pi.first_stands in
            let b = tree_lawful l pi.second_stands in
            let general = both_general l pi.first_stands pi.second_stands in
            decides_map (four_boundary Lawful decided (operate q) a b general own (ms own h.own.member) (said.0 f)) (boundary_four Lawful decided (operate q) a b general own (ms own h.own.member)) (subst (λ c. Decides z (Differs q own A B none none c A)) (box_at path) (d.told A B A pi pi.first_stands))

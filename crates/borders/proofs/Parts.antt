-- On which sides of another plane a plane has points of a cell: what `parted` asks of the cuts, and what they tell.
--     front_cut, back_cut            what `cut` is given, where the other plane is kept, and then its back
--     no_front                       the plane has no point in front
--     back_asked                     what `keep` is given for the back
--     front_alone, on_both           it has one in front, and none behind or one behind too
use mathlib.Core.Path.{◌≡◌, refl, sym, subst}
use mathlib.Core.Bool.{true, false}
use mathlib.Core.List.{List, ◌∷◌}
use Prim.Native.Nat.{ℕ, ◌+◌, ◌*◌, ◌≤◌}
use native.Mathlib.Omega.{arith}
use lib.IntN.{ℤ}
use lib.ListN.{length}
use Rattle.std.specs.Prelude.{Option, is_some, Decides}
use Rattle.std.proofs.lemmas.Bool.Decides.{not_from_Decides}
use Rattle.whole.specs.Tests.{is_true}
use Rattle.scope.specs.Planes.{Plane, flip, in_range}
use Rattle.scope.specs.Cells.{Cuts}
use Rattle.theory.specs.Planes.Apart.{independent}
use Rattle.theory.specs.Cells.Box.{cons}
use Rattle.theory.specs.Cells.Move.{flip_front}
use Rattle.theory.specs.Cells.Reached.{lawful_normal}
use Rattle.theory.specs.Forms.OnPlane.{strict_back}
use Rattle.planes.specs.Values.{plane}
use Rattle.planes.specs.Bounds.{PlaneIn, in_range_in}
use Rattle.planes.specs.declared.Plane as struct
use Rattle.planes.specs.declared.Meeting.{Meeting}
use Rattle.cells.specs.Paths.{PathIn, Pushed}
use Rattle.cells.proofs.Paths.{half_ranged}
use Rattle.cuts.specs.Paths.{CutIn, CutTold}
use Rattle.borders.specs.declared.Parted.TheVariants.{Front, Behind, Both}
use Rattle.borders.specs.Sides.{cell_at, nowhere, PartsIn, in_front, behind, both, PartsTold}
use Rattle.borders.proofs.Paths.{Laid, laid, laid_first, laid_cell, laid_ranged, laid_links, keep_asked, cut_said}

module _ {p q : struct.Plane} {path : List ℤ} {depth : ℕ} (h : PartsIn (plane p) (plane q) path depth) where
  pub plane_in : PlaneIn q.a q.b q.c q.d
  plane_in = in_range_in (is_true (in_range (plane q)) h.other_lawful.range)

  -- the rows of the path and one half-space more
  module _ {g : Plane} {path' : List ℤ} (k : Laid path path' depth g) where
    cut_in : in_range g ≡ true → CutIn (plane p) path' (depth + 1)
    cut_in r = record {
      support = is_true (in_range (plane p)) h.lawful.range;
      normal = lawful_normal h.lawful;
      rows = record { path_in = record { few = omega (arith, h.deep); room = omega (arith, h.room, k.long); links = laid_links k h.links }; ranged = laid_ranged k r h.ranged };
    }

    -- of the half of the cell in front of g
    half_said : {r : Option Meeting} → CutTold (plane p) (cell_at path' (depth + 1)) r → Decides (is_some r) (Cuts (plane p) (g ∷ cell_at path depth))
    half_said {r} e = subst (λ c. Decides (is_some r) (Cuts (plane p) c)) (laid_cell k) (cut_said e)

  module _ {path₁ : List ℤ} (k : Pushed path path₁ depth q nowhere) (l : length path₁ ≡ length path) where
    front_laid : Laid path path₁ depth (plane q)
    front_laid = laid_first {h = q} k l refl h.room

    pub front_cut : CutIn (plane p) path₁ (depth + 1)
    front_cut = cut_in front_laid (half_ranged true (plane q) h.other_lawful.range)

    module _ {r : Option Meeting} (w : CutTold (plane p) (cell_at path₁ (depth + 1)) r) where
      -- the plane has a point in the cell, so where it has none in front of q it has one behind
      pub no_front : is_some r ≡ false → PartsTold (plane p) (plane q) path path₁ depth Behind
      no_front e =
          let n = not_from_Decides (is_some r) (half_said front_laid w) e in
          let x = h.cuts in
          let i = strict_back (plane p) (plane q) (independent h.lawful h.other_lawful (λ e. h.other (sym e))) n x.point x.on x.inside in
          record { kept = front_laid.before; parts = behind n (record { point = x.point; on = x.on; inside = cons (flip_front (plane q) x.point i) x.inside }) }

      pub back_asked : PathIn path₁ depth × (depth * 9 + 9 ≤ length path₁)
      back_asked = keep_asked front_laid.before l h.deep h.links h.room

      module _ {g : struct.Plane} (f : plane g ≡ flip (plane q)) {path₂ : List ℤ} (k' : Pushed path₁ path₂ depth g nowhere) (l' : length path₂ ≡ length path₁) where
        back_laid : Laid path path₂ depth (flip (plane q))
        back_laid = laid {h = g} front_laid.before l k' l' f h.room

        pub back_cut : CutIn (plane p) path₂ (depth + 1)
        back_cut = cut_in back_laid (half_ranged false (plane q) h.other_lawful.range)

        module _ (e : is_some r ≡ true) {r' : Option Meeting} (w' : CutTold (plane p) (cell_at path₂ (depth + 1)) r') where
          pub front_alone : is_some r' ≡ false → PartsTold (plane p) (plane q) path path₂ depth Front
          front_alone e' = record { kept = back_laid.before; parts = in_front ((half_said front_laid w).0 e) (not_from_Decides (is_some r') (half_said back_laid w') e') }

          pub on_both : is_some r' ≡ true → PartsTold (plane p) (plane q) path path₂ depth Both
          on_both e' = record { kept = back_laid.before; parts = both ((half_said front_laid w).0 e) ((half_said back_laid w').0 e') }

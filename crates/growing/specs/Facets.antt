-- Boundary points and facets: a cell without boundary points is uniform, one with such a point is not; a facet that enters a cell has a boundary point there.
--     border_mixed, bare_uniform       boundary points and uniform cells
--     Facet, On, Enters, Sound         facets: points of a plane, in a region, with two marks
--     enters_cuts                      the plane of a facet cuts every cell that the facet enters
--     Bordered, facet_border           a facet that enters a cell has a boundary point of its plane in it
--     facet_mixed, facet_boundary      so the cell is mixed, and the plane a boundary plane
--     narrowed, sound_narrowed         a facet in a half-space is one
use Rattle.std.specs.Prelude.{◌≡◌, true, false, List, ◌∷◌, ◌++◌, ◌≢◌, pos}
use Rattle.std.proofs.Common.{sym, ◌∙◌}
use Rattle.whole.specs.Members.{◌∈◌, in_left, in_right}
use Rattle.scope.specs.Planes.{Plane, Point, at}
use Rattle.scope.specs.Cells.{Inside, box, Cuts, Off}
use Rattle.scope.specs.Solids.{Mark, front}
use Rattle.scope.specs.Normal.{Space, taking, Boundary, Uniform}
use Rattle.theory.specs.Cells.Uniform.{Mixed}
use Rattle.theory.specs.Planes.General.{General}
use Rattle.theory.specs.Cells.Box.{tail}
use Rattle.theory.specs.Cells.Clear.{Cleared, clear_on, clear_off, Stepped, step, keeps_inside}
use Rattle.theory.specs.Forms.Normal.{Within, mark?, Border, border_boundary, mixed_border}

-- ---- boundary points and uniform cells

module _ (S : Space) (g : General S.list) {c : List Plane} where
  -- a step off to both sides
  pub border_mixed : {p : Plane} {X : Point} → Border S p X → Inside c X → Mixed S c
  border_mixed {p} {X} b i = record {
    y = y.to;
    z = z.to;
    y_in = keeps_inside y.keeps i;
    z_in = keeps_inside z.keeps i;
    y_off = y.off;
    z_off = z.off;
    differ = λ e. b.differ (sym (S.local _ _ y.sides) ∙ e ∙ S.local _ _ z.sides);
  }
    where
      y : Stepped p true c S.list X
      y = step p true c S.list X (g.nonzero p b.member) b.on b.others

      z : Stepped p false c S.list X
      z = step p false c S.list X (g.nonzero p b.member) b.on b.others

  -- a cell that has points, and no boundary point
  pub bare_uniform : {X : Point} → Within c box → Inside c X → ((p : Plane) (Y : Point) → Border S p Y → Inside c Y → ⊥) → (m : Mark) × Uniform S c m
  bare_uniform {X} w i n =
      let y = clear_off c S.list X g.nonzero in
      (S.mark (front y.0), record { all = λ Z j z. go y.0 Z (keeps_inside y.1 i) y.2 j z (mark? (S.mark (front Z)) (S.mark (front y.0))) })
    where
      go : (Y Z : Point) → Inside c Y → Off S.list Y → Inside c Z → Off S.list Z → Dec (S.mark (front Z) ≡ S.mark (front Y)) → S.mark (front Z) ≡ S.mark (front Y)
      go Y Z i' o j z (yes e) = e
      go Y Z i' o j z (no d) =
          let f = mixed_border S g c w (record { y = Z; z = Y; y_in = j; z_in = i'; y_off = z; z_off = o; differ = d }) in
          absurd (n f.0 f.1 f.2 f.3)

-- ---- facets

-- points of a plane in a region, and the marks in front and behind
pub record Facet : Type 0 where
  pub plane : Plane
  pub region : List Plane
  pub fore : Mark
  pub aft : Mark

pub record On (F : Facet) (X : Point) : Type 0 where
  pub on : at F.plane X ≡ pos 0
  pub inside : Inside F.region X

-- some point of the facet lies in the cell
pub record Enters (F : Facet) (c : List Plane) : Type 0 where
  pub point : Point
  pub on : On F point
  pub inside : Inside c point

-- of the space: a plane of it, in the box, and all points have the two marks, which differ
pub record Sound (S : Space) (F : Facet) : Type 0 where
  pub member : F.plane ∈ S.list
  pub within : Within F.region box
  pub in_front : (X : Point) → On F X → S.mark (taking F.plane true X) ≡ F.fore
  pub behind : (X : Point) → On F X → S.mark (taking F.plane false X) ≡ F.aft
  pub differ : F.fore ≢ F.aft

pub enters_cuts : {F : Facet} {c : List Plane} → Enters F c → Cuts F.plane c
enters_cuts k = record { point = k.point; on = k.on.on; inside = k.inside }

-- its points off the other planes, of which each cell that it enters has one, are boundary points
pub record Bordered (S : Space) (F : Facet) (c : List Plane) : Type 0 where
  pub point : Point
  pub on : On F point
  pub inside : Inside c point
  pub border : Border S F.plane point

pub facet_border : (S : Space) → General S.list → {F : Facet} {c : List Plane} → Sound S F → Enters F c → Bordered S F c
facet_border S g {F} {c} s k = record {
  point = y.to;
  on = o;
  inside = keeps_inside (λ h m. y.keeps h (in_right F.region m)) k.inside;
  border = record {
    member = s.member;
    inside = s.within y.to o.inside;
    on = y.on_p;
    others = y.off;
    differ = λ e. s.differ (sym (s.in_front y.to o) ∙ e ∙ s.behind y.to o);
  };
}
  where
    y : Cleared F.plane (F.region ++ c) S.list k.point
    y = clear_on F.plane (F.region ++ c) S.list k.point k.on.on (λ q m d. g.apart F.plane q s.member m (λ e. d (sym e)))

    o : On F y.to
    o = record { on = y.on_p; inside = keeps_inside (λ h m. y.keeps h (in_left c m)) k.on.inside }

module _ (S : Space) (g : General S.list) {F : Facet} {c : List Plane} (s : Sound S F) (k : Enters F c) where
  pub facet_mixed : Mixed S c
  facet_mixed = let y = facet_border S g s k in border_mixed S g y.border y.inside

  pub facet_boundary : Boundary S F.plane
  facet_boundary = border_boundary (facet_border S g s k).border

-- ---- a facet in a half-space

abbrev pub narrowed : Facet → Plane → Facet
narrowed F h = record { plane = F.plane; region = h ∷ F.region; fore = F.fore; aft = F.aft }

pub sound_narrowed : {S : Space} {F : Facet} (h : Plane) → Sound S F → Sound S (narrowed F h)
sound_narrowed h s = record {
  member = s.member;
  within = λ X i. s.within X (tail i);
  in_front = λ X o. s.in_front X (record { on = o.on; inside = tail o.inside });
  behind = λ X o. s.behind X (record { on = o.on; inside = tail o.inside });
  differ = s.differ;
}

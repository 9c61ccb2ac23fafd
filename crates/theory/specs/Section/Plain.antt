-- The test for a half-space coincident with the support changes nothing: every vertex lies on such a half-space, so that nothing is put out anyway.
--     clip_plain   scope's clip is the clip by the table alone
use Rattle.std.specs.Prelude.{◌≡◌, refl, Bool, true, false, cond, List, [], ◌∷◌, T, pos}
use Rattle.std.proofs.Common.{sym}
use Rattle.whole.specs.Expr.{#, neg}
use Rattle.whole.specs.Vec.{xyz, det3, det4, det4ᴱ}
use Rattle.whole.specs.Solve.{vec4s}
use Rattle.whole.specs.Combo.{combo, ◌⊩◌, ◌⊠◌, ◌≗◌}
use Rattle.whole.specs.Sign.{Sign, minus, nought, plus, sgn, ◌·◌}
use Rattle.scope.specs.Planes.{Plane, coincident}
use Rattle.scope.specs.Section.{clip_by, vertex_side, clip}
use Rattle.theory.specs.Planes.Minors.{minorᴱ, Minors, minors}
use Rattle.theory.specs.Section.Emit.{Low, low_0, clip_by_low}

-- a determinant with two rows of the same plane: expanded by their minors
coincident_det4 : (s p b h : Plane) → Minors s h → det4 s p b h ≡ pos 0
coincident_det4 s p b h m = combo (vec4s 4) (λ s p b h.
    (minorᴱ p.z p.w b.z b.w ⊠ (minorᴱ s.x s.y h.x h.y ≗ # 0))
    ∷ (neg (minorᴱ p.y p.w b.y b.w) ⊠ (minorᴱ s.x s.z h.x h.z ≗ # 0))
    ∷ (minorᴱ p.y p.z b.y b.z ⊠ (minorᴱ s.x s.w h.x h.w ≗ # 0))
    ∷ (minorᴱ p.x p.w b.x b.w ⊠ (minorᴱ s.y s.z h.y h.z ≗ # 0))
    ∷ (neg (minorᴱ p.x p.z b.x b.z) ⊠ (minorᴱ s.y s.w h.y h.w ≗ # 0))
    ∷ (minorᴱ p.x p.y b.x b.y ⊠ (minorᴱ s.z s.w h.z h.w ≗ # 0))
    ∷ [] ⊩ det4ᴱ s p b h ≗ # 0) tt s p b h m.xy m.xz m.xw m.yz m.yw m.zw

times_nought : (a : Sign) → Low (a · nought)
times_nought minus = low_0
times_nought nought = low_0
times_nought plus = low_0

pub clip_plain : (s h : Plane) (bs : List Plane) → clip s h bs ≡ clip_by (vertex_side s h) h bs
unfolding clip
clip_plain s h bs = go (coincident s h) (λ t. t)
  where
    go : (c : Bool) → (T c → T (coincident s h)) → cond c [] (clip_by (vertex_side s h) h bs) ≡ clip_by (vertex_side s h) h bs
    go true t = sym (clip_by_low h (vertex_side s h) (λ p b. rw (coincident_det4 s p b h (minors s h (t tt))) (times_nought (sgn (det3 (xyz s) (xyz p) (xyz b))))) bs)
    go false t = refl

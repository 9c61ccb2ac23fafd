-- The witness of a section: its first three vertices, added.
--     witness      the sum
--     at_meet      a plane at the point on three planes is the 4×4 determinant of the four
--     witness_of   where the bounds are those of a convex polygon it lies on the support and inside each bound, and its w is positive
use Rattle.std.specs.Prelude.{◌≡◌, ℤ, pos, ◌+ℤ◌, ◌*ℤ◌}
use Rattle.std.proofs.Common.{sym, subst, ◌∙◌, arith}
use mathlib.Core.List.{List, [], ◌∷◌}
use Rattle.whole.specs.Expr.{#, ◌⊕◌, ◌⊗◌}
use Rattle.whole.specs.Vec.{V3, xyz, det3, det4, dot4ᴱ}
use Rattle.whole.specs.Solve.{solve, ◌≐◌, nums, vec4s}
use Rattle.whole.specs.Identities.{det4_last, meet_on}
use Rattle.whole.specs.Lin.{lin, ◌⊢◌, ◌≋◌}
use Rattle.whole.specs.Order.{◌⋖◌, mul_pos, pos_cancel}
use Rattle.whole.specs.Lists.{Chain, step, final, each_of_map, chain_final, map_final, map_each}
use Rattle.whole.specs.Members.{each_in}
use Rattle.scope.specs.Planes.{Plane, Point, at, meet}
use Rattle.scope.specs.Cells.{Inside}
use Rattle.theory.specs.Section.Flat.{dt, cr, ez, sum, dt_sum, Corner, line_of, Step}
use Rattle.theory.specs.Section.Convex.{Long, long, Convex, inner, inner_up}
use Rattle.theory.specs.Section.Polygon.{Inner, lines, Polygon, polygon_long}
use Rattle.theory.specs.Section.Frames.{Turns}
use Rattle.theory.specs.Section.Clips.{seen, view, seen_up, seen_at}

abbrev pub added : Point → Point → Point → Point
added p q r = record { x = p.x +ℤ q.x +ℤ r.x; y = p.y +ℤ q.y +ℤ r.y; z = p.z +ℤ q.z +ℤ r.z; w = p.w +ℤ q.w +ℤ r.w }

-- fewer than three bounds have no vertices to add
unfoldable pub witness : Plane → List Plane → Point
witness s [] = s
witness s (a ∷ []) = s
witness s (a ∷ b ∷ []) = s
witness s (a ∷ b ∷ c ∷ bs) = added (meet s (final c bs) a) (meet s a b) (meet s b c)

-- a plane at the sum of three vertices
at_added : (h p q r : Plane) → at h (added p q r) ≡ at h p +ℤ at h q +ℤ at h r
unfolding at
at_added = solve (vec4s 4) (λ h p q r. dot4ᴱ h (record { x = p.x ⊕ q.x ⊕ r.x; y = p.y ⊕ q.y ⊕ r.y; z = p.z ⊕ q.z ⊕ r.z; w = p.w ⊕ q.w ⊕ r.w }) ≐ dot4ᴱ h p ⊕ dot4ᴱ h q ⊕ dot4ᴱ h r) tt

pub at_meet : (s p q h : Plane) → at h (meet s p q) ≡ det4 s p q h
unfolding at meet
at_meet s p q h = sym (det4_last s p q h)

on_meet : (s p q : Plane) → at s (meet s p q) ≡ pos 0
unfolding at meet
on_meet s p q = meet_on s p q

-- the first three vertices of a convex polygon, added, by the lines of its bounds
corners_sum : {z0 z1 z2 : Corner} {zs : List Corner} {la lb lc ld : V3 ℤ} → Convex (z0 ∷ z1 ∷ z2 ∷ zs) → z0.l ≡ la → z1.l ≡ lb → z2.l ≡ lc → (final z2 zs).l ≡ ld
    → sum z0.v z1.v z2.v ≡ sum (cr ld la) (cr la lb) (cr lb lc)
corners_sum {z0} {z1} {z2} {zs} {la} {lb} {lc} {ld} k ea eb ec ed = go k.closed (chain_final k.closed)
  where
    go : Chain Step z0 z0 (z1 ∷ z2 ∷ zs) → Step (final z2 zs) z0 → sum z0.v z1.v z2.v ≡ sum (cr ld la) (cr la lb) (cr lb lc)
    go (step s1 (step s2 c)) s0 =
        let q0 : z0.v ≡ cr ld la = s0.meet ∙ (λ i. cr (ed i) (ea i)) in
        let q1 : z1.v ≡ cr la lb = s1.meet ∙ (λ i. cr (ea i) (eb i)) in
        let q2 : z2.v ≡ cr lb lc = s2.meet ∙ (λ i. cr (eb i) (ec i)) in
        λ i. sum (q0 i) (q1 i) (q2 i)

module _ {f : Plane → Plane} (t : Turns f) (s : Plane) (k : pos 0 ⋖ (f s).x) where
  module _ (a b c : Plane) (bs : List Plane) where
    abbrev d : Plane
    d = final c bs

    abbrev W : Point
    W = added (meet s d a) (meet s a b) (meet s b c)

    -- the same sum in the frame
    abbrev F : V3 ℤ
    F = sum (cr (seen f s d) (seen f s a)) (cr (seen f s a) (seen f s b)) (cr (seen f s b) (seen f s c))

    sum_on : at s W ≡ pos 0
    sum_on = at_added s (meet s d a) (meet s a b) (meet s b c)
        ∙ lin (nums 3) (λ i j k. (i ≋ # 0) ∷ (j ≋ # 0) ∷ (k ≋ # 0) ∷ [] ⊢ i ⊕ j ⊕ k ≋ # 0) (omega arith) _ _ _ (on_meet s d a) (on_meet s a b) (on_meet s b c)

    sum_at : (h : Plane) → dt (seen f s h) F ≡ (f s).x *ℤ (f s).x *ℤ at h W
    sum_at h = dt_sum (seen f s h) (cr (seen f s d) (seen f s a)) (cr (seen f s a) (seen f s b)) (cr (seen f s b) (seen f s c))
        ∙ rw (seen_at t s d a h, seen_at t s a b h, seen_at t s b c h, at_added h (meet s d a) (meet s a b) (meet s b c), at_meet s d a h, at_meet s a b h, at_meet s b c h)
        (solve (nums 4) (λ k i j l. k ⊗ k ⊗ i ⊕ k ⊗ k ⊗ j ⊕ k ⊗ k ⊗ l ≐ k ⊗ k ⊗ (i ⊕ j ⊕ l)) tt (f s).x (det4 s d a h) (det4 s a b h) (det4 s b c h))

    sum_up : dt ez F ≡ (f s).x *ℤ W.w
    unfolding meet
    sum_up = dt_sum ez (cr (seen f s d) (seen f s a)) (cr (seen f s a) (seen f s b)) (cr (seen f s b) (seen f s c))
        ∙ rw (seen_up t s d a, seen_up t s a b, seen_up t s b c)
        (solve (nums 4) (λ k i j l. k ⊗ i ⊕ k ⊗ j ⊕ k ⊗ l ≐ k ⊗ (i ⊕ j ⊕ l)) tt (f s).x (det3 (xyz s) (xyz d) (xyz a)) (det3 (xyz s) (xyz a) (xyz b)) (det3 (xyz s) (xyz b) (xyz c)))

    sum_inner : Polygon (view f s (a ∷ b ∷ c ∷ bs)) → Inner F (view f s (a ∷ b ∷ c ∷ bs)) × (pos 0 ⋖ dt ez F)
    sum_inner p = go p.corners p.same_lines p.convex p.convex.size
      where
        go : (Z : List Corner) → view f s (a ∷ b ∷ c ∷ bs) ≡ lines Z → Convex Z → Long Z → Inner F (view f s (a ∷ b ∷ c ∷ bs)) × (pos 0 ⋖ dt ez F)
        go [] e c' l = elim l [ ]
        go (z0 ∷ []) e c' l = elim l [ ]
        go (z0 ∷ (z1 ∷ [])) e c' l = elim l [ ]
        go (z0 ∷ z1 ∷ z2 ∷ zs) e c' long =
            let ea : z0.l ≡ seen f s a = cc in
            let eb : z1.l ≡ seen f s b = cc in
            let ec : z2.l ≡ seen f s c = cc in
            let es : lines zs ≡ view f s bs = cc in
            let ed : (final z2 zs).l ≡ seen f s d = sym (map_final line_of z2 zs) ∙ (λ i. final (ec i) (es i)) ∙ map_final (seen f s) c bs in
            let q = corners_sum c' ea eb ec ed in (
              rw e (subst (λ (x : V3 ℤ). Inner x (lines (z0 ∷ z1 ∷ z2 ∷ zs))) q (map_each line_of (inner c'))),
              subst (λ (x : V3 ℤ). pos 0 ⋖ dt ez x) q (inner_up c'),
            )

  pub witness_of : (bs : List Plane) → Polygon (view f s bs) → (at s (witness s bs) ≡ pos 0) × (pos 0 ⋖ (witness s bs).w) × Inside bs (witness s bs)
  unfolding witness
  witness_of [] p = absurd (omega (arith, polygon_long p))
  witness_of (a ∷ []) p = absurd (omega (arith, polygon_long p))
  witness_of (a ∷ b ∷ []) p = absurd (omega (arith, polygon_long p))
  witness_of (a ∷ b ∷ c ∷ bs) p =
      let i = sum_inner a b c bs p in
      let e = each_of_map (seen f s) (a ∷ b ∷ c ∷ bs) i.0 in
      (sum_on a b c bs, pos_cancel (rw (sum_up a b c bs) at i.1) k, record { each = λ h m. pos_cancel (rw (sum_at a b c bs h) at (each_in e h m)) (mul_pos k k) })

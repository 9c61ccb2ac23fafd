-- Identities of vectors, each by computation.
use Rattle.std.specs.Prelude.{◌≡◌, refl, ℤ, pos, ◌+ℤ◌, ◌*ℤ◌}
use Rattle.whole.specs.Expr.{#, ◌⊕◌, ◌⊗◌}
use Rattle.whole.specs.Vec.{V3, V4, xyz, scale3, dot3, cross3, det3, dot4, det4, cross4, scale3ᴱ, dot3ᴱ, cross3ᴱ, det3ᴱ, dot4ᴱ, det4ᴱ, cross4ᴱ}
use Rattle.whole.specs.Solve.{solve, ◌≐◌, ◌≐₃◌, vec3s, vec4s}

-- Cramer's rule, at a vector u
pub cramer_at : (p q e f u : V3 ℤ) → det3 p q e *ℤ dot3 f u ≡ det3 f q e *ℤ dot3 p u +ℤ det3 p f e *ℤ dot3 q u +ℤ det3 p q f *ℤ dot3 e u
cramer_at = solve (vec3s 5) (λ p q e f u. det3ᴱ p q e ⊗ dot3ᴱ f u ≐ det3ᴱ f q e ⊗ dot3ᴱ p u ⊕ det3ᴱ p f e ⊗ dot3ᴱ q u ⊕ det3ᴱ p q f ⊗ dot3ᴱ e u) tt

-- the cross product of two cross products
pub cross_cross : (p q r : V3 ℤ) → cross3 (cross3 p q) (cross3 q r) ≡ scale3 (det3 p q r) q
cross_cross = solve (vec3s 3) (λ p q r. cross3ᴱ (cross3ᴱ p q) (cross3ᴱ q r) ≐₃ scale3ᴱ (det3ᴱ p q r) q) tt

-- the determinant of four is the last one at the meet of the first three; so the meet is 0 at each of these
pub det4_last : (s p q h : V4 ℤ) → det4 s p q h ≡ dot4 h (cross4 s p q)
det4_last = solve (vec4s 4) (λ s p q h. det4ᴱ s p q h ≐ dot4ᴱ h (cross4ᴱ s p q)) tt

pub meet_on : (s p q : V4 ℤ) → dot4 s (cross4 s p q) ≡ pos 0
meet_on = solve (vec4s 3) (λ s p q. dot4ᴱ s (cross4ᴱ s p q) ≐ # 0) tt

pub meet_turn : (s p q : V4 ℤ) → cross4 s p q ≡ cross4 p q s
meet_turn s p q = λ i. record { x = x i; y = y i; z = z i; w = w i }
  where
    x : (cross4 s p q).x ≡ (cross4 p q s).x
    x = solve (vec4s 3) (λ s p q. (cross4ᴱ s p q).x ≐ (cross4ᴱ p q s).x) tt s p q

    y : (cross4 s p q).y ≡ (cross4 p q s).y
    y = solve (vec4s 3) (λ s p q. (cross4ᴱ s p q).y ≐ (cross4ᴱ p q s).y) tt s p q

    z : (cross4 s p q).z ≡ (cross4 p q s).z
    z = solve (vec4s 3) (λ s p q. (cross4ᴱ s p q).z ≐ (cross4ᴱ p q s).z) tt s p q

    w : (cross4 s p q).w ≡ (cross4 p q s).w
    w = solve (vec4s 3) (λ s p q. (cross4ᴱ s p q).w ≐ (cross4ᴱ p q s).w) tt s p q

-- the meet's last coordinate is the determinant of the first three coordinates
pub meet_w : (s p q : V4 ℤ) → (cross4 s p q).w ≡ det3 (xyz s) (xyz p) (xyz q)
meet_w s p q = refl

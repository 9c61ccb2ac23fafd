-- The frame of a support: the coordinates are turned so that the first is that of the largest coefficient, and positive. Then the support is seen along that axis:
-- a half-space becomes a line of flat geometry, and a point loses its first coordinate.
--     Turns, turn_turns   turning keeps sums, 3×3 and 4×4 determinants; so does the turning of each way
--     way_front           the support's first coefficient, turned by its way, is positive
--     line, line_at, line_meet_up, line_meet_at   the line of a half-space; at a point; where two lines meet, its weight and another line at it
use Rattle.std.specs.Prelude.{◌≡◌, refl, Bool, true, false, not, cond, ◌≢◌, ℕ, zero, suc, ◌+◌, ◌≤◌, ◌<◌, T, leb, ℤ, pos, negsuc, neg_ℤ, nat_abs, ◌-ℤ◌, ◌*ℤ◌}
use Rattle.std.proofs.Common.{◌∙◌, arith, leb→le}
use Rattle.std.proofs.Math.Dec.{nleb→lt}
use Rattle.whole.specs.Tests.{◌and◌}
use Rattle.whole.specs.Expr.{Expr, #, ◌⊖◌, ◌⊗◌, neg}
use Rattle.whole.specs.Vec.{V3, V4, yzw, xyz, sub3, scale3, dot4, det3, det4, sub3ᴱ, scale3ᴱ, dot3ᴱ, cross3ᴱ, dot4ᴱ, det3ᴱ, det4ᴱ}
use Rattle.whole.specs.Solve.{solve, ◌≐◌, vec4s}
use Rattle.whole.specs.Difference.{parts_lt}
use Rattle.whole.specs.Order.{◌⋖◌}
use Rattle.whole.specs.Sign.{nought, sgn}
use Rattle.scope.specs.Planes.{Plane, then, lead}
use Rattle.scope.specs.Section.{Way, along_x, against_x, along_y, against_y, along_z, against_z, by_sign, way}
use Rattle.theory.specs.Section.Flat.{dt, cr, ez}

-- ---- turning

module _ {A : Type 0} where
  -- y, z, x
  abbrev cycled : V4 A → V4 A
  cycled p = record { x = p.y; y = p.z; z = p.x; w = p.w }

  -- -x, z, y
  abbrev mirrored : (A → A) → V4 A → V4 A
  mirrored n p = record { x = n p.x; y = p.z; z = p.y; w = p.w }

abbrev pub turn : Way → Plane → Plane
turn along_x p = p
turn along_y p = cycled p
turn along_z p = cycled (cycled p)
turn against_x p = mirrored neg_ℤ p
turn against_y p = mirrored neg_ℤ (cycled p)
turn against_z p = mirrored neg_ℤ (cycled (cycled p))

pub record Turns (f : Plane → Plane) : Type 0 where
  pub dots : (h X : Plane) → dot4 (f h) (f X) ≡ dot4 h X
  pub dets3 : (p q r : Plane) → det3 (xyz (f p)) (xyz (f q)) (xyz (f r)) ≡ det3 (xyz p) (xyz q) (xyz r)
  pub dets4 : (p q r h : Plane) → det4 (f p) (f q) (f r) (f h) ≡ det4 p q r h

stay : Turns (λ p. p)
stay = record { dots = λ h X. refl; dets3 = λ p q r. refl; dets4 = λ p q r h. refl }

module _ {f : Plane → Plane} (t : Turns f) where
  cycle : Turns (λ p. cycled (f p))
  cycle = record {
    dots = λ h X. solve (vec4s 2) (λ h X. dot4ᴱ (cycled h) (cycled X) ≐ dot4ᴱ h X) tt (f h) (f X) ∙ t.dots h X;
    dets3 = λ p q r. solve (vec4s 3) (λ p q r. det3ᴱ (xyz (cycled p)) (xyz (cycled q)) (xyz (cycled r)) ≐ det3ᴱ (xyz p) (xyz q) (xyz r)) tt (f p) (f q) (f r) ∙ t.dets3 p q r;
    dets4 = λ p q r h. solve (vec4s 4) (λ p q r h. det4ᴱ (cycled p) (cycled q) (cycled r) (cycled h) ≐ det4ᴱ p q r h) tt (f p) (f q) (f r) (f h) ∙ t.dets4 p q r h;
  }

  mirror : Turns (λ p. mirrored neg_ℤ (f p))
  mirror = record {
    dots = λ h X. solve (vec4s 2) (λ h X. dot4ᴱ (mirrored neg h) (mirrored neg X) ≐ dot4ᴱ h X) tt (f h) (f X) ∙ t.dots h X;
    dets3 = λ p q r. solve (vec4s 3) (λ p q r. det3ᴱ (xyz (mirrored neg p)) (xyz (mirrored neg q)) (xyz (mirrored neg r)) ≐ det3ᴱ (xyz p) (xyz q) (xyz r)) tt (f p) (f q) (f r) ∙ t.dets3 p q r;
    dets4 = λ p q r h. solve (vec4s 4) (λ p q r h. det4ᴱ (mirrored neg p) (mirrored neg q) (mirrored neg r) (mirrored neg h) ≐ det4ᴱ p q r h) tt (f p) (f q) (f r) (f h) ∙ t.dets4 p q r h;
  }

pub turn_turns : (w : Way) → Turns (turn w)
turn_turns along_x = stay
turn_turns along_y = cycle stay
turn_turns along_z = cycle (cycle stay)
turn_turns against_x = mirror stay
turn_turns against_y = mirror (cycle stay)
turn_turns against_z = mirror (cycle (cycle stay))

-- ---- the way of a support

-- a normal that is not zero has a coefficient that is not zero
lead_size : (s : Plane) → lead s ≢ nought → 0 < nat_abs s.x + nat_abs s.y + nat_abs s.z
unfolding lead
lead_size s n = go s.x s.y s.z n
  where
    go : (a b c : ℤ) → then (sgn a) (then (sgn b) (sgn c)) ≢ nought → 0 < nat_abs a + nat_abs b + nat_abs c
    go (pos (suc a)) b c n = omega arith
    go (negsuc a) b c n = omega arith
    go (pos zero) (pos (suc b)) c n = omega arith
    go (pos zero) (negsuc b) c n = omega arith
    go (pos zero) (pos zero) (pos (suc c)) n = omega arith
    go (pos zero) (pos zero) (negsuc c) n = omega arith
    go (pos zero) (pos zero) (pos zero) n = absurd (n refl)

-- the way that the sign of a chooses
by_sign_front : (a : ℤ) → 0 < nat_abs a → (f : Way → ℤ) (p m : Way) → f p ≡ a → f m ≡ neg_ℤ a → pos 0 ⋖ f (by_sign a p m)
by_sign_front (pos n) h f p m e e' = rw e (parts_lt (pos 0) (pos n) (omega arith))
by_sign_front (negsuc n) h f p m e e' = rw e' (parts_lt (pos 0) (pos (suc n)) (omega arith))

-- what the test m ≤ n says
data Compares (m n : ℕ) : Bool → Type 0 where
  holds : m ≤ n → Compares m n true
  fails : n < m → Compares m n false

compares : (m n : ℕ) → Compares m n (leb m n)
compares m n = go (leb m n) (leb→le m n) (nleb→lt m n)
  where
    go : (b : Bool) → (T b → m ≤ n) → (T (not b) → n < m) → Compares m n b
    go true f g = holds (f tt)
    go false f g = fails (g tt)

pub way_front : (s : Plane) → lead s ≢ nought → pos 0 ⋖ (turn (way s) s).x
way_front s n = go (compares (nat_abs s.y) (nat_abs s.x)) (compares (nat_abs s.z) (nat_abs s.x)) (compares (nat_abs s.z) (nat_abs s.y))
  where
    on_y : 0 < nat_abs s.y → pos 0 ⋖ (turn (by_sign s.y along_y against_y) s).x
    on_y h = by_sign_front s.y h (λ w. (turn w s).x) along_y against_y refl refl

    on_z : 0 < nat_abs s.z → pos 0 ⋖ (turn (by_sign s.z along_z against_z) s).x
    on_z h = by_sign_front s.z h (λ w. (turn w s).x) along_z against_z refl refl

    go : {a b c : Bool} → Compares (nat_abs s.y) (nat_abs s.x) a → Compares (nat_abs s.z) (nat_abs s.x) b → Compares (nat_abs s.z) (nat_abs s.y) c
        → pos 0 ⋖ (turn (cond (a and b) (by_sign s.x along_x against_x) (cond c (by_sign s.y along_y against_y) (by_sign s.z along_z against_z))) s).x
    go (holds i) (holds j) k = by_sign_front s.x (omega (arith, lead_size s n)) (λ w. (turn w s).x) along_x against_x refl refl
    go (holds i) (fails j) (holds k) = on_y (omega arith)
    go (holds i) (fails j) (fails k) = on_z (omega arith)
    go (fails i) j (holds k) = on_y (omega arith)
    go (fails i) j (fails k) = on_z (omega arith)

-- ---- lines, of turned planes

unfoldable pub line : Plane → Plane → V3 ℤ
line s h = sub3 (scale3 s.x (yzw h)) (scale3 h.x (yzw s))

abbrev lineᴱ : V4 Expr → V4 Expr → V3 Expr
lineᴱ s h = sub3ᴱ (scale3ᴱ s.x (yzw h)) (scale3ᴱ h.x (yzw s))

abbrev ezᴱ : V3 Expr
ezᴱ = record { x = # 0; y = # 0; z = # 1 }

pub line_at : (s h X : Plane) → dt (line s h) (yzw X) ≡ s.x *ℤ dot4 h X -ℤ h.x *ℤ dot4 s X
unfolding dt line
line_at = solve (vec4s 3) (λ s h X. dot3ᴱ (lineᴱ s h) (yzw X) ≐ s.x ⊗ dot4ᴱ h X ⊖ h.x ⊗ dot4ᴱ s X) tt

pub line_meet_up : (s p q : Plane) → dt ez (cr (line s p) (line s q)) ≡ s.x *ℤ det3 (xyz s) (xyz p) (xyz q)
unfolding dt cr ez line
line_meet_up = solve (vec4s 3) (λ s p q. dot3ᴱ ezᴱ (cross3ᴱ (lineᴱ s p) (lineᴱ s q)) ≐ s.x ⊗ det3ᴱ (xyz s) (xyz p) (xyz q)) tt

pub line_meet_at : (s p q h : Plane) → dt (line s h) (cr (line s p) (line s q)) ≡ s.x *ℤ s.x *ℤ det4 s p q h
unfolding dt cr line
line_meet_at = solve (vec4s 4) (λ s p q h. dot3ᴱ (lineᴱ s h) (cross3ᴱ (lineᴱ s p) (lineᴱ s q)) ≐ s.x ⊗ s.x ⊗ det4ᴱ s p q h) tt

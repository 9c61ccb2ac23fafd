-- The line of two planes, and the point where a third meets it.
--     mixed_..        three products: the steps, what was handed on, and the sum negated
--     minor_read      a minor that was handed on
--     line_..         the line of two planes in range, and the meetings on it
use mathlib.Core.Path.{◌≡◌, sym, ap, subst, ◌∙◌}
use mathlib.Core.List.{List, [], ◌∷◌}
use Prim.Native.Nat.{ℕ, ◌<◌}
use lib.IntN.{ℤ, pos, ◌-ℤ◌}
use mir.Syntax.{w64}
use mir.Val.{SFits}
use Rattle.whole.specs.Expr.{Expr, v as var, ◌⊕◌, ◌⊖◌, ◌⊗◌, #}
use Rattle.whole.specs.Solve.{solve, ◌≐◌, vec4s}
use Rattle.whole.specs.Vec.{cross4, cross4ᴱ}
use Rattle.whole.specs.Bounds.{Within, w_up, w_sub, w_mul, w_self, fits64}
use Rattle.whole.specs.Code.{Entry, arg, local, value_within, in64}
use Rattle.whole.specs.Identities.{meet_turn}
use Rattle.scope.specs.Limits.{most_abc}
use Rattle.scope.specs.Planes as scope
use Rattle.planes.specs.Values.{quad, plane}
use Rattle.planes.specs.Bounds.{PlaneIn, TwoIn, MinorIn, minor_bound, in_range_in}
use Rattle.planes.proofs.Laws.{minor_kept, minor_ad, minor_bd, minor_cd}
use Rattle.planes.specs.declared.Plane.{Plane}
use Rattle.polygons.specs.declared.Line.{Line}
use Rattle.polygons.specs.Tables.{look}
use Rattle.polygons.specs.Asked.{Region}
use Rattle.polygons.specs.Lines.{LineOf, OnLineIn, mixture, MixedIn, most_minor, most_minor_d}
use Rattle.polygons.proofs.Kept.{k}

-- ---- three products

abbrev pub ua : Expr
ua = var 0 ⊗ var 1

abbrev pub vb : Expr
vb = var 2 ⊗ var 3

abbrev pub wc : Expr
wc = var 4 ⊗ var 5

module _ {u a v b w c : ℤ} (h : MixedIn u a v b w c) where
  abbrev pub entries : List Entry
  entries = arg h.u_in ∷ arg h.a_in ∷ arg h.v_in ∷ arg h.b_in ∷ arg h.w_in ∷ arg h.c_in ∷ []

  mixed_bound : Within (mixture u a v b w c) 600000000000000
  mixed_bound = value_within (local h.u_in ∷ local h.a_in ∷ local h.v_in ∷ local h.b_in ∷ local h.w_in ∷ local h.c_in ∷ []) (ua ⊖ vb ⊕ wc)

  module _ {r : ℤ} (e : r ≡ mixture (k u) (k a) (k v) (k b) (k w) (k c)) where
    mixed_is : r ≡ mixture u a v b w c
    mixed_is = e ∙ cc (in64 h.u_in tt, in64 h.a_in tt, in64 h.v_in tt, in64 h.b_in tt, in64 h.w_in tt, in64 h.c_in tt)

    sized : Within r 600000000000000
    sized = subst (λ z. Within z 600000000000000) (sym mixed_is) mixed_bound

    pub mixed_kept : k r ≡ mixture u a v b w c
    mixed_kept = in64 sized tt ∙ mixed_is

    negated_bound : Within (pos 0 -ℤ k r) 600000000000000
    negated_bound = rw (in64 sized tt) (w_sub (w_self (pos 0)) sized)

    pub mixed_negated_fits : SFits w64 (pos 0 -ℤ k r)
    mixed_negated_fits = fits64 negated_bound tt

    pub mixed_negated : k (pos 0 -ℤ k r) ≡ pos 0 -ℤ mixture u a v b w c
    mixed_negated = in64 negated_bound tt ∙ ap (λ z. pos 0 -ℤ z) mixed_kept

-- ---- the minors of two planes

-- a minor that was handed on
pub minor_read : {a b c d : ℤ} (h : MinorIn a b c d) {r : ℤ} → r ≡ scope.minor (k a) (k b) (k c) (k d) → k r ≡ scope.minor a b c d
minor_read {a} {b} {c} {d} h {r} e = let is : r ≡ scope.minor a b c d = e ∙ minor_kept h in in64 (subst (λ z. Within z most_minor_d) (sym is) (minor_bound h)) tt ∙ is

-- ---- a third plane

module _ {l : Line} {r : Plane} (h : OnLineIn l r) where
  pub mixed_x : MixedIn l.bc r.d l.bd r.c l.cd r.b
  mixed_x = record { u_in = h.bc_in; a_in = h.third.d_in; v_in = h.bd_in; b_in = h.third.c_in; w_in = h.cd_in; c_in = h.third.b_in }

  pub mixed_y : MixedIn l.ac r.d l.ad r.c l.cd r.a
  mixed_y = record { u_in = h.ac_in; a_in = h.third.d_in; v_in = h.ad_in; b_in = h.third.c_in; w_in = h.cd_in; c_in = h.third.a_in }

  pub mixed_z : MixedIn l.ab r.d l.ad r.b l.bd r.a
  mixed_z = record { u_in = h.ab_in; a_in = h.third.d_in; v_in = h.ad_in; b_in = h.third.b_in; w_in = h.bd_in; c_in = h.third.a_in }

  pub mixed_w : MixedIn l.ab r.c l.ac r.b l.bc r.a
  mixed_w = record { u_in = h.ab_in; a_in = w_up h.third.c_in tt; v_in = w_up h.ac_in tt; b_in = h.third.b_in; w_in = w_up h.bc_in tt; c_in = h.third.a_in }

abbrev minorᴱ : Expr → Expr → Expr → Expr → Expr
minorᴱ a b c d = a ⊗ d ⊖ b ⊗ c

abbrev mixtureᴱ : Expr → Expr → Expr → Expr → Expr → Expr → Expr
mixtureᴱ u a v b w c = u ⊗ a ⊖ v ⊗ b ⊕ w ⊗ c

-- the four numbers of the meeting
pub line_meets : {p q : scope.Plane} {l : Line} (r : scope.Plane) → LineOf p q l
    → quad (pos 0 -ℤ mixture l.bc r.w l.bd r.z l.cd r.y) (mixture l.ac r.w l.ad r.z l.cd r.x) (pos 0 -ℤ mixture l.ab r.w l.ad r.y l.bd r.x) (mixture l.ab r.z l.ac r.y l.bc r.x)
    ≡ scope.meet p q r
unfolding scope.meet
line_meets {p} {q} {l} r h = rw (h.ab, h.ac, h.ad, h.bc, h.bd, h.cd) (λ i. quad (x i) (y i) (z i) (w i))
  where
    x : pos 0 -ℤ mixture (scope.minor p.y p.z q.y q.z) r.w (scope.minor p.y p.w q.y q.w) r.z (scope.minor p.z p.w q.z q.w) r.y ≡ (cross4 p q r).x
    x = solve (vec4s 3) (λ p q r. # 0 ⊖ mixtureᴱ (minorᴱ p.y p.z q.y q.z) r.w (minorᴱ p.y p.w q.y q.w) r.z (minorᴱ p.z p.w q.z q.w) r.y ≐ (cross4ᴱ p q r).x) tt p q r

    y : mixture (scope.minor p.x p.z q.x q.z) r.w (scope.minor p.x p.w q.x q.w) r.z (scope.minor p.z p.w q.z q.w) r.x ≡ (cross4 p q r).y
    y = solve (vec4s 3) (λ p q r. mixtureᴱ (minorᴱ p.x p.z q.x q.z) r.w (minorᴱ p.x p.w q.x q.w) r.z (minorᴱ p.z p.w q.z q.w) r.x ≐ (cross4ᴱ p q r).y) tt p q r

    z : pos 0 -ℤ mixture (scope.minor p.x p.y q.x q.y) r.w (scope.minor p.x p.w q.x q.w) r.y (scope.minor p.y p.w q.y q.w) r.x ≡ (cross4 p q r).z
    z = solve (vec4s 3) (λ p q r. # 0 ⊖ mixtureᴱ (minorᴱ p.x p.y q.x q.y) r.w (minorᴱ p.x p.w q.x q.w) r.y (minorᴱ p.y p.w q.y q.w) r.x ≐ (cross4ᴱ p q r).z) tt p q r

    w : mixture (scope.minor p.x p.y q.x q.y) r.z (scope.minor p.x p.z q.x q.z) r.y (scope.minor p.y p.z q.y q.z) r.x ≡ (cross4 p q r).w
    w = solve (vec4s 3) (λ p q r. mixtureᴱ (minorᴱ p.x p.y q.x q.y) r.z (minorᴱ p.x p.z q.x q.z) r.y (minorᴱ p.y p.z q.y q.z) r.x ≐ (cross4ᴱ p q r).w) tt p q r

-- ---- the two new vertices of a clip

-- the line of planes in range
pub on_line_asked : {p q r : Plane} {l : Line} → TwoIn p q → PlaneIn r.a r.b r.c r.d → LineOf (plane p) (plane q) l → OnLineIn l r
on_line_asked {p} {q} {r} {l} t g h = record {
  ab_in = small h.ab t.first.a_in t.first.b_in t.second.a_in t.second.b_in;
  ac_in = small h.ac t.first.a_in t.first.c_in t.second.a_in t.second.c_in;
  ad_in = large h.ad (minor_ad t.first t.second);
  bc_in = small h.bc t.first.b_in t.first.c_in t.second.b_in t.second.c_in;
  bd_in = large h.bd (minor_bd t.first t.second);
  cd_in = large h.cd (minor_cd t.first t.second);
  third = g;
}
  where
    small : {m a b c d : ℤ} → m ≡ scope.minor a b c d → Within a most_abc → Within b most_abc → Within c most_abc → Within d most_abc → Within m most_minor
    small e a b c d = rw e (w_sub (w_mul a d) (w_mul b c))

    large : {m a b c d : ℤ} → m ≡ scope.minor a b c d → MinorIn a b c d → Within m most_minor_d
    large e h = rw e (minor_bound h)

-- the support and the planes of indices
module _ {s : Plane} {hs : List ℤ} {width top : ℕ} (r : Region (plane s) hs width top) {k : ℕ} (l : k < top) {h : Plane} (e : plane h ≡ look hs width k) where
  pub index_in : PlaneIn h.a h.b h.c h.d
  index_in = in_range_in (ap scope.in_range e ∙ r.ranged k l)

  pub support_first : TwoIn s h
  support_first = record { first = in_range_in r.support; second = index_in }

  pub support_second : TwoIn h s
  support_second = record { first = index_in; second = in_range_in r.support }

-- the meeting that begins with the support: a turn of the one that ends with the third plane
pub turn_last : (s p q : scope.Plane) → scope.meet q s p ≡ scope.meet s p q
unfolding scope.meet
turn_last s p q = meet_turn q s p

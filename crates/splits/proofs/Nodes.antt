-- A node whose two sides are not the same mark is put out as a row, as a node that is closed is.
--     Apart                      two trees that are not the same mark
--     node_put                   the rows of the sides, and the node's own
--     front_lost, back_lost      a side whose rows have no room
--     put_placed                 a row that is put out has room
use mathlib.Core.Path.{◌≡◌, refl, sym, subst}
use mathlib.Core.List.{List}
use Prim.Native.Nat.{ℕ, suc, ◌<◌}
use native.Mathlib.Omega.{arith}
use Rattle.scope.specs.Planes.{Plane}
use Rattle.scope.specs.Solids.{Mark, IN, OUT, Tree, leaf, node, rows, code, place}
use Rattle.scope.specs.Cells.{join}
use Rattle.std.specs.Prelude.{Ok, Err}
use Rattle.walks.specs.Putting.{Walked, Room, Put, Emitted}
use Rattle.walks.proofs.Emits as emits
use Rattle.walks.proofs.Emits.{room?, no_rows, done_same, Got, closed}

-- two trees that are not the same mark
abbrev pub Apart : Tree → Tree → Type 0
Apart x y = (m : Mark) → x ≡ leaf m → y ≡ leaf m → ⊥

join_apart : (p : Plane) (x y : Tree) → Apart x y → join p x y ≡ node p x y
unfolding join
join_apart p (leaf IN) (leaf IN) n = absurd (n IN refl refl)
join_apart p (leaf IN) (leaf OUT) n = refl
join_apart p (leaf OUT) (leaf IN) n = refl
join_apart p (leaf OUT) (leaf OUT) n = absurd (n OUT refl refl)
join_apart p (leaf IN) (node q f b) n = refl
join_apart p (leaf OUT) (node q f b) n = refl
join_apart p (node q f b) y n = refl

module _ {J : List Plane} {o₀ o₁ o₂ : List ℕ} {n fc bc n₁ n₂ : ℕ} where
  codes_apart : {x y : Tree} → Apart x y → Got J o₀ o₁ n x fc n₁ → Got J o₁ o₂ n₁ y bc n₂ → fc ≡ bc → fc < 65534
  unfolding code rows
  codes_apart {x = leaf IN} {y = leaf IN} a g h e = absurd (a IN refl refl)
  codes_apart {x = leaf IN} {y = leaf OUT} a g h e = absurd (omega (arith, e, g.code_is, h.code_is))
  codes_apart {x = leaf OUT} {y = leaf IN} a g h e = absurd (omega (arith, e, g.code_is, h.code_is))
  codes_apart {x = leaf OUT} {y = leaf OUT} a g h e = absurd (a OUT refl refl)
  codes_apart {x = leaf m} {y = node q f b} a g h e = omega (arith, e, h.within.few, h.code_is)
  codes_apart {x = node q f b} {y = y} a g h e = omega (arith, g.within.few, g.code_is)

  pub node_put : {o₃ : List ℕ} {r : Walked} (p : Plane) {x y : Tree} → Apart x y → Got J o₀ o₁ n x fc n₁ → Got J o₁ o₂ n₁ y bc n₂ → Put o₂ o₃ n₂ (place J p) fc bc r → Emitted J o₀ o₃ n (node p x y) r
  node_put {o₃} {r} p {x} {y} a g h e =
      subst (λ t. Emitted J o₀ o₃ n t r) (join_apart p x y a)
      (closed p g h (record { same = λ u v. absurd (omega (arith, v, codes_apart a g h u)); row = λ u. e }))

module _ {J : List Plane} {o₀ o₁ : List ℕ} {n k : ℕ} {r : Walked} (p : Plane) (x y : Tree) (a : Apart x y) (e : r ≡ Err k) where
  pub front_lost : Emitted J o₀ o₁ n x r → Emitted J o₀ o₁ n (node p x y) (Err k)
  front_lost h = subst (λ t. Emitted J o₀ o₁ n t (Err k)) (join_apart p x y a) (emits.front_lost p x y e h)

  pub back_lost : {o₂ : List ℕ} {c n₁ : ℕ} → Got J o₀ o₁ n x c n₁ → Emitted J o₁ o₂ n₁ y r → Emitted J o₀ o₂ n (node p x y) (Err k)
  back_lost {o₂} g h = subst (λ t. Emitted J o₀ o₂ n t (Err k)) (join_apart p x y a) (emits.back_lost p x y e g h)

pub put_placed : {o₂ o₃ : List ℕ} {n₂ n f g : ℕ} {z : Walked} {e m : ℕ} → Put o₂ o₃ n₂ n f g z → z ≡ Ok (e, m) → Room o₂ m
put_placed {o₂} {n₂ = n₂} {m = m} c d = go (room? o₂ (suc n₂))
  where
    go : Dec (Room o₂ (suc n₂)) → Room o₂ m
    go (yes r) = subst (Room o₂) (sym (done_same d (c.fits r).0).1) r
    go (no r) = absurd (no_rows (c.over r) d)

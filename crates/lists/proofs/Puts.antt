-- Planes that are used, put at their ranks.
--     puts_none, puts_used, puts_unused   none yet; one plane more that is used, or is not
--     put_room                            a plane that is used has room
use mathlib.Core.Path.{◌≡◌, sym, ap, ◌∙◌}
use mathlib.Core.Bool.{Bool, true, false}
use mathlib.Core.List.{List, [], ◌∷◌, ◌++◌, append-nil}
use Prim.Native.Nat.{ℕ, suc, ◌+◌, ◌-◌, ◌*◌, ◌≤◌, ◌<◌}
use native.Mathlib.Omega.{arith}
use lib.IntN.{ℤ, pos}
use lib.ListN.{length, get_or, replicate}
use lib.Seq.{sets}
use mir.Val.{bool_byte}
use Rattle.scope.specs.Planes.{Plane}
use Rattle.scope.specs.Answers.{flat_planes, filled}
use Rattle.theory.specs.Text.Renumber.{kept, rank}
use Rattle.tables.specs.Rows.{plane_at, planes_to}
use Rattle.lists.specs.Steps.{marked, Puts}
use Rattle.lists.proofs.Rows.{four, put_more, planes_length}
use Rattle.lists.proofs.Used.{kept_more, kept_length, rank_next, rank_rises}

pub puts_none : (joined : List ℤ) (used : List Bool) (xs : List ℤ) → xs ≡ replicate (length xs) (pos 0) → Puts joined 0 used xs
unfolding planes_to kept flat_planes
puts_none joined used xs z = z ∙ ap (λ n. replicate n (pos 0)) {x = length xs} {y = length xs - 0} (omega arith)

module _ (joined : List ℤ) (used : List Bool) (i : ℕ) where
  next_planes : planes_to joined (suc i) ≡ planes_to joined (i + 1)
  next_planes = ap (planes_to joined) {x = suc i} {y = i + 1} (omega arith)

  pub put_room : (n k : ℕ) → i < n → get_or used i false ≡ true → 4 * rank (marked used) 0 n ≤ k → 4 * rank (marked used) 0 i + 4 ≤ k
  put_room n k l e r = omega (arith, rank_next (marked used) i, ap bool_byte e, rank_rises (marked used) (i + 1) n (omega arith), r)

  pub puts_used : (xs xs' : List ℤ) (p : Plane) → get_or used i false ≡ true → p ≡ plane_at joined i → 4 * rank (marked used) 0 i + 4 ≤ length xs → xs' ≡ sets xs (4 * rank (marked used) 0 i) (four p) → Puts joined i used xs → Puts joined (i + 1) used xs'
  unfolding planes_to
  puts_used xs xs' p e q l s h =
      let g = marked used in
      put_more xs xs' (kept g 0 (planes_to joined i)) p (rank g 0 i) h (kept_length g (planes_to joined i) i (planes_length joined i)) l s
      ∙ ap (λ ps. filled (pos 0) (length xs') (flat_planes ps)) (sym (kept_more g (planes_to joined i) p i (planes_length joined i) true e) ∙ ap (λ r. kept g 0 (planes_to joined i ++ (r ∷ []))) q ∙ ap (kept g 0) next_planes)

  pub puts_unused : (xs : List ℤ) → get_or used i false ≡ false → Puts joined i used xs → Puts joined (i + 1) used xs
  unfolding planes_to
  puts_unused xs n h =
      let g = marked used in
      h ∙ ap (λ ps. filled (pos 0) (length xs) (flat_planes ps)) (sym (kept_more g (planes_to joined i) (plane_at joined i) i (planes_length joined i) false n ∙ append-nil (kept g 0 (planes_to joined i))) ∙ ap (kept g 0) next_planes)

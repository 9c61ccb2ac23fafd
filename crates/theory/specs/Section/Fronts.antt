-- How many vertices of a clip are inside.
--     inner, fronts, fronts_by   1 for a vertex inside; of entries, and of bounds by the sides of their vertices
--     fronts_app, fronts_rot, fronts_all, fronts_map   two lists, a rotation, all inside, renamed bounds
--     fronts_two        where no vertex is inside twice, two clips have together no more vertices inside than there are bounds
use Rattle.std.specs.Prelude.{◌≡◌, refl, List, [], ◌∷◌, ◌++◌, map, ℕ, ◌+◌, ◌≤◌, length}
use Rattle.std.proofs.Common.{sym, ap, ◌∙◌, arith}
use Rattle.whole.specs.Sign.{Sign, minus, nought, plus}
use Rattle.whole.specs.Lists.{Each, Each.none, Each.◌and◌, final, map_final, Rot, same, turn}
use Rattle.scope.specs.Section.{attach}

abbrev pub inner : Sign → ℕ
inner plus = 1
inner nought = 0
inner minus = 0

module _ {A : Type 0} where
  abbrev pub fronts : List (Sign × A) → ℕ
  fronts [] = 0
  fronts (e ∷ es) = inner e.0 + fronts es

  abbrev pub fronts_by : (A → A → Sign) → List A → ℕ
  fronts_by side [] = 0
  fronts_by side (b ∷ bs) = fronts (attach side (final b bs) (b ∷ bs))

  pub fronts_app : (xs ys : List (Sign × A)) → fronts (xs ++ ys) ≡ fronts xs + fronts ys
  fronts_app [] ys = omega arith
  fronts_app (x ∷ xs) ys = omega (arith, fronts_app xs ys)

  pub fronts_rot : {xs ys : List (Sign × A)} → Rot xs ys → fronts xs ≡ fronts ys
  fronts_rot same = refl
  fronts_rot (turn {x = x} {xs = xs} r) = omega (arith, fronts_rot r, fronts_app xs (x ∷ []))

  pub fronts_all : {es : List (Sign × A)} → Each (λ (e : Sign × A). e.0 ≡ plus) es → fronts es ≡ length es
  fronts_all none = refl
  fronts_all (e and es) = omega (arith, ap inner e, fronts_all es)

  -- no vertex is inside by both sides
  module _ (side side' : A → A → Sign) (apart : (p b : A) → inner (side p b) + inner (side' p b) ≤ 1) where
    attach_two : (p : A) (bs : List A) → fronts (attach side p bs) + fronts (attach side' p bs) ≤ length bs
    attach_two p [] = omega arith
    attach_two p (b ∷ bs) = omega (arith, apart p b, attach_two b bs)

    pub fronts_two : (bs : List A) → fronts_by side bs + fronts_by side' bs ≤ length bs
    fronts_two [] = omega arith
    fronts_two (b ∷ bs) = attach_two (final b bs) (b ∷ bs)

module _ {A A' : Type 0} (f : A → A') (side : A → A → Sign) (side' : A' → A' → Sign) (ok : (a b : A) → side a b ≡ side' (f a) (f b)) where
  attach_fronts : (p : A) (bs : List A) → fronts (attach side p bs) ≡ fronts (attach side' (f p) (map f bs))
  attach_fronts p [] = refl
  attach_fronts p (b ∷ bs) = let x = ok p b in let y = attach_fronts b bs in λ i. inner (x i) + y i

  pub fronts_map : (bs : List A) → fronts_by side bs ≡ fronts_by side' (map f bs)
  fronts_map [] = refl
  fronts_map (b ∷ bs) = attach_fronts (final b bs) (b ∷ bs) ∙ ap (λ (p : A'). fronts (attach side' p (map f (b ∷ bs)))) (sym (map_final f b bs))

-- Tables that are filled row by row: entries, then zeros.
--     filled_length, filled_more               a filled table's length, and entries stored after its entries
--     planes_count, nodes_count, planes_end, nodes_end   the rows of planes and of nodes, one after the other, and one row more
--     get_d_part                                an entry of the rows stored last
use Rattle.std.specs.Prelude.{◌≡◌, refl, List, [], ◌∷◌, ◌++◌, ℕ, zero, suc, ◌+◌, ◌-◌, ◌*◌, ◌≤◌, length, get_or, replicate, drop}
use Rattle.std.proofs.Common.{ap, ◌∙◌, append_assoc, arith, length-append, get_or-append-add}
use Rattle.std.proofs.lemmas.List.{length-replicate}
use Rattle.std.proofs.lemmas.List.Edits.{sets, sets-eq}
use Rattle.std.proofs.Math.Seq.{take-append_seam, drop-append-add}
use Rattle.scope.specs.Planes.{Plane}
use Rattle.scope.specs.Solids.{Entry, entry}
use Rattle.scope.specs.Answers.{flat_planes, flat_nodes, filled}

-- ---- entries, then zeros

module _ {A : Type 0} (o : A) where
  drop_zeros : (k m : ℕ) → drop k (replicate m o) ≡ replicate (m - k) o
  drop_zeros zero m = ap (λ i. replicate i o) {x = m} {y = m - zero} (omega arith)
  drop_zeros (suc k) zero = ap (λ i. replicate i o) {x = zero} {y = zero - suc k} (omega arith)
  drop_zeros (suc k) (suc m) = drop_zeros k m ∙ ap (λ i. replicate i o) {x = m - k} {y = suc m - suc k} (omega arith)

  pub filled_length : (n : ℕ) (xs : List A) → length xs ≤ n → length (filled o n xs) ≡ n
  filled_length n xs l = length-append xs (replicate (n - length xs) o) ∙ ap (λ i. length xs + i) (length-replicate (n - length xs) o) ∙ omega arith

  -- entries stored after the entries of a filled table
  pub filled_more : (n : ℕ) (xs ys : List A) → length xs + length ys ≤ n → sets (filled o n xs) (length xs) ys ≡ filled o n (xs ++ ys)
  filled_more n xs ys l =
      sets-eq ys (filled o n xs) (length xs) (subst_length)
      ∙ ap (λ i. i ++ ys ++ drop (length xs + length ys) (filled o n xs)) (take-append_seam xs (replicate (n - length xs) o))
      ∙ ap (λ i. xs ++ ys ++ i) (drop-append-add xs (replicate (n - length xs) o) (length ys) ∙ drop_zeros (length ys) (n - length xs))
      ∙ ap (λ i. xs ++ ys ++ replicate i o) count
    where
      subst_length : length xs + length ys ≤ length (filled o n xs)
      subst_length = let e = filled_length n xs (omega arith) in omega (arith, e)

      count : n - length xs - length ys ≡ n - length (xs ++ ys)
      count = let e = length-append xs ys in omega (arith, e)

  -- entry j of the entries stored last
  pub get_d_part : (xs ys zs : List A) (j : ℕ) (d : A) → get_or (xs ++ ys ++ zs) (length xs + j) d ≡ get_or (ys ++ zs) j d
  get_d_part xs ys zs j d = ap (λ l. get_or l (length xs + j) d) (append_assoc xs ys zs) ∙ get_or-append-add xs (ys ++ zs) j d

-- ---- rows

pub planes_count : (ps : List Plane) → length (flat_planes ps) ≡ 4 * length ps
unfolding flat_planes
planes_count [] = refl
planes_count (p ∷ ps) = omega (arith, planes_count ps)

pub nodes_count : (es : List Entry) → length (flat_nodes es) ≡ 3 * length es
unfolding flat_nodes
nodes_count [] = refl
nodes_count (entry n f b ∷ es) = omega (arith, nodes_count es)

-- one row more
pub planes_end : (ps : List Plane) (p : Plane) → flat_planes (ps ++ (p ∷ [])) ≡ flat_planes ps ++ (p.x ∷ p.y ∷ p.z ∷ p.w ∷ [])
unfolding flat_planes
planes_end [] p = refl
planes_end (q ∷ ps) p = ap (λ l. q.x ∷ q.y ∷ q.z ∷ q.w ∷ l) (planes_end ps p)

pub nodes_end : (es : List Entry) (n f b : ℕ) → flat_nodes (es ++ (entry n f b ∷ [])) ≡ flat_nodes es ++ (n ∷ f ∷ b ∷ [])
unfolding flat_nodes
nodes_end [] n f b = refl
nodes_end (entry p g c ∷ es) n f b = ap (λ l. p ∷ g ∷ c ∷ l) (nodes_end es n f b)

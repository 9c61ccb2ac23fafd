-- Rows stored one after the other in tables of zeros, and rows looked up again.
--     zeros_held                           no rows yet
--     planes_more, plane_here, last_kept   one plane more; it is the row stored last; the row before it stays
--     nodes_more, node_here                the same of nodes
use mathlib.Core.Path.{◌≡◌, refl, sym, ap, ◌∙◌}
use mathlib.Core.List.{List, [], ◌∷◌, ◌++◌}
use mathlib.Core.Option.{some}
use Prim.Native.Nat.{ℕ, zero, suc, ◌+◌, ◌-◌, ◌*◌, ◌≤◌, ◌<◌}
use native.Mathlib.Omega.{arith}
use lib.IntN.{ℤ, pos}
use lib.ListN.{length, get_or, replicate, get_or-append, length-append}
use lib.Seq.{sets, length-sets}
use Rattle.scope.specs.Planes.{Plane}
use Rattle.scope.specs.Solids.{Entry, entry}
use Rattle.scope.specs.Answers.{flat_planes, flat_nodes, filled}
use Rattle.theory.specs.Text.Filled.{filled_more, get_d_part, planes_count, nodes_count, planes_end, nodes_end}
use Rattle.planes.specs.Values.{quad}
use Rattle.tables.specs.Rows.{plane_at, entry_at, last_before}
use Rattle.lines.specs.Reading.{HoldsPlanes, HoldsNodes}

-- ---- any table

module _ {A : Type 0} (o : A) where
  -- a table of zeros holds nothing
  pub zeros_held : (xs : List A) → xs ≡ replicate (length xs) o → xs ≡ filled o (length xs) []
  zeros_held xs z = z ∙ ap (λ n. replicate n o) {x = length xs} {y = length xs - length {A = A} []} (omega arith)

  -- entries stored after the entries that a table holds
  held_more : (xs xs' es ys : List A) (k : ℕ) → xs ≡ filled o (length xs) es → length es ≡ k → k + length ys ≤ length xs → xs' ≡ sets xs k ys → xs' ≡ filled o (length xs') (es ++ ys)
  held_more xs xs' es ys k h e l s =
      s ∙ ap (λ i. sets xs i ys) (sym e) ∙ ap (λ i. sets i (length es) ys) h ∙ filled_more o (length xs) es ys (omega (arith, e, l))
      ∙ ap (λ n. filled o n (es ++ ys)) (sym (ap length s ∙ length-sets xs k ys))

  -- an entry of the entries stored last
  held_at : (xs es ys : List A) (k j : ℕ) → xs ≡ filled o (length xs) (es ++ ys) → length es ≡ k → get_or xs (k + j) o ≡ get_or (ys ++ replicate (length xs - length (es ++ ys)) o) j o
  held_at xs es ys k j h e = ap (λ i. get_or xs (i + j) o) (sym e) ∙ ap (λ l. get_or l (length es + j) o) h ∙ get_d_part o es ys (replicate (length xs - length (es ++ ys)) o) j o

  -- an entry of the entries stored before
  held_before : (xs xs' es ys : List A) (j : ℕ) → xs ≡ filled o (length xs) es → xs' ≡ filled o (length xs') (es ++ ys) → j < length es → get_or xs' j o ≡ get_or xs j o
  held_before xs xs' es ys j h h' l =
      ap (λ i. get_or i j o) h' ∙ get_or-append (es ++ ys) (replicate (length xs' - length (es ++ ys)) o) o j (omega (arith, length-append es ys, l)) ∙ get_or-append es ys o j l
      ∙ sym (ap (λ i. get_or i j o) h ∙ get_or-append es (replicate (length xs - length es) o) o j l)

-- ---- planes

abbrev four : Plane → List ℤ
four p = p.x ∷ p.y ∷ p.z ∷ p.w ∷ []

module _ (xs xs' : List ℤ) (ps : List Plane) (p : Plane) (h : HoldsPlanes xs ps) where
  pub planes_more : 4 * length ps + 4 ≤ length xs → xs' ≡ sets xs (4 * length ps) (four p) → HoldsPlanes xs' (ps ++ (p ∷ []))
  planes_more l s = held_more (pos 0) xs xs' (flat_planes ps) (four p) (4 * length ps) h (planes_count ps) l s ∙ ap (filled (pos 0) (length xs')) (sym (planes_end ps p))

  module _ (h' : HoldsPlanes xs' (ps ++ (p ∷ []))) where
    flat : xs' ≡ filled (pos 0) (length xs') (flat_planes ps ++ four p)
    flat = h' ∙ ap (filled (pos 0) (length xs')) (planes_end ps p)

    -- the row stored last
    pub plane_here : plane_at xs' (length ps) ≡ p
    plane_here = λ t. quad (first t) (held_at (pos 0) xs' (flat_planes ps) (four p) (4 * length ps) 1 flat (planes_count ps) t) (held_at (pos 0) xs' (flat_planes ps) (four p) (4 * length ps) 2 flat (planes_count ps) t) (held_at (pos 0) xs' (flat_planes ps) (four p) (4 * length ps) 3 flat (planes_count ps) t)
      where
        first : get_or xs' (4 * length ps) (pos 0) ≡ p.x
        first = ap (λ i. get_or xs' i (pos 0)) {x = 4 * length ps} {y = 4 * length ps + 0} (omega arith) ∙ held_at (pos 0) xs' (flat_planes ps) (four p) (4 * length ps) 0 flat (planes_count ps)

    -- the row before it stays
    pub last_kept : last_before xs' (length ps) ≡ last_before xs (length ps)
    last_kept = by (length ps) refl
      where
        same : (j : ℕ) → j < 4 * length ps → get_or xs' j (pos 0) ≡ get_or xs j (pos 0)
        same j l = held_before (pos 0) xs xs' (flat_planes ps) (four p) j h flat (omega (arith, planes_count ps, l))

        by : (i : ℕ) → i ≡ length ps → last_before xs' i ≡ last_before xs i
        by zero e = refl
        by (suc i) e = λ t. some (quad (same (4 * i) (omega (arith, e)) t) (same (4 * i + 1) (omega (arith, e)) t) (same (4 * i + 2) (omega (arith, e)) t) (same (4 * i + 3) (omega (arith, e)) t))

-- ---- nodes

module _ (ns ns' : List ℕ) (es : List Entry) (p f b : ℕ) where
  pub nodes_more : HoldsNodes ns es → 3 * length es + 3 ≤ length ns → ns' ≡ sets ns (3 * length es) (p ∷ f ∷ b ∷ []) → HoldsNodes ns' (es ++ (entry p f b ∷ []))
  nodes_more h l s = held_more 0 ns ns' (flat_nodes es) (p ∷ f ∷ b ∷ []) (3 * length es) h (nodes_count es) l s ∙ ap (filled 0 (length ns')) (sym (nodes_end es p f b))

  -- the row stored last
  pub node_here : HoldsNodes ns' (es ++ (entry p f b ∷ [])) → entry_at ns' (length es) ≡ entry p f b
  node_here h' = λ t. entry (first t) (held_at 0 ns' (flat_nodes es) (p ∷ f ∷ b ∷ []) (3 * length es) 1 flat (nodes_count es) t) (held_at 0 ns' (flat_nodes es) (p ∷ f ∷ b ∷ []) (3 * length es) 2 flat (nodes_count es) t)
    where
      flat : ns' ≡ filled 0 (length ns') (flat_nodes es ++ (p ∷ f ∷ b ∷ []))
      flat = h' ∙ ap (filled 0 (length ns')) (nodes_end es p f b)

      first : get_or ns' (3 * length es) 0 ≡ p
      first = ap (λ i. get_or ns' i 0) {x = 3 * length es} {y = 3 * length es + 0} (omega arith) ∙ held_at 0 ns' (flat_nodes es) (p ∷ f ∷ b ∷ []) (3 * length es) 0 flat (nodes_count es)

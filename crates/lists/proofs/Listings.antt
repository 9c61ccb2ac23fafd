-- What a table of rows and a list of planes hold, and what is listed of them.
--     rows_held, number_held, planes_held   the rows, their plane numbers, and the planes
--     listed_planes, listed_rows            the planes that are kept, and the rows with their ranks
use mathlib.Core.Path.{◌≡◌, refl, sym, ap, subst, ◌∙◌}
use mathlib.Core.Bool.{Bool, false}
use mathlib.Core.List.{List, ◌++◌}
use Prim.Native.Nat.{ℕ, zero, suc, ◌-◌, ◌*◌, ◌/◌, ◌<◌}
use native.Mathlib.Omega.{arith}
use lib.IntN.{ℤ, pos}
use lib.ListN.{length, get_or, drop, replicate}
use lib.Seq.{drop_at}
use Rattle.whole.specs.Lists.{Each, Each.none, Each.◌and◌}
use Rattle.scope.specs.Planes.{Plane}
use Rattle.scope.specs.Solids.{Entry, entry}
use Rattle.scope.specs.Answers.{flat_planes, flat_nodes, filled}
use Rattle.theory.specs.Text.Renumber.{kept, rank, change}
use Rattle.theory.specs.Text.Filled.{planes_count, nodes_count, filled_length}
use Rattle.tables.specs.Rows.{entry_at, planes_to, entries_to}
use Rattle.lists.specs.Lists.{HoldsRows, number_below, used_by}
use Rattle.lists.specs.Steps.{marked, MarkTold, Ranks, Puts, Numbered}
use Rattle.lists.proofs.Rows.{planes_many, planes_back, entry_there, entries_back, change_same, change_length}
use Rattle.lists.proofs.Used.{marks_are, kept_length}

-- ---- no marks

pub none_at : (n k : ℕ) → get_or (replicate n false) k false ≡ false
none_at zero k = refl
none_at (suc n) zero = refl
none_at (suc n) (suc k) = none_at n k

each_at : {A : Type 0} {Q : A → Type 0} {l : List A} → Each Q l → (i : ℕ) (d : A) → i < length l → Q (get_or l i d)
each_at none i d h = absurd (omega arith)
each_at (q and e) zero d h = q
each_at (q and e) (suc i) d h = each_at e i d (omega arith)

-- ---- what the tables hold

module _ {joined : List ℤ} {ns : List ℕ} {m : ℕ} {ps : List Plane} {es : List Entry} (h : HoldsRows joined ns m ps es) where
  pub rows_held : entries_to ns m ≡ es
  rows_held = (λ t. entries_to (h.rows t) (sym h.count t)) ∙ entries_back es (replicate (length ns - length (flat_nodes es)) 0)

  pub number_held : (i : ℕ) → i < m → get_or ns (3 * i) 0 < length ps
  number_held i l =
      let k : i < length es = omega (arith, h.count, l) in
      let e = ap (λ l. entry_at l i) h.rows ∙ entry_there es (replicate (length ns - length (flat_nodes es)) 0) i (entry 0 0 0) k in
      subst (number_below (length ps)) (sym e) (each_at h.numbers i (entry 0 0 0) k)

  pub count_held : length joined / 4 ≡ length ps
  count_held = planes_many ps h.planes

  pub planes_held : planes_to joined (length joined / 4) ≡ ps
  planes_held = planes_back ps h.planes

  -- ---- what is listed

  module _ (used : List Bool) (told : MarkTold ns m used) where
    pub used_are : marked used ≡ used_by es
    used_are = marks_are used (used_by es) (λ k. told k ∙ ap (λ l. used_by l k) rows_held)

    pub listed_count : rank (marked used) 0 (length joined / 4) ≡ length (kept (used_by es) 0 ps)
    listed_count = ap (λ g. rank g 0 (length joined / 4)) used_are ∙ sym (kept_length (used_by es) ps (length joined / 4) (sym count_held))

    pub listed_planes : (xs : List ℤ) → Puts joined (length joined / 4) used xs → xs ≡ filled (pos 0) (length xs) (flat_planes (kept (used_by es) 0 ps))
    listed_planes xs p = p ∙ (λ t. filled (pos 0) (length xs) (flat_planes (kept (used_are t) 0 (planes_held t))))

    pub listed_rows : (ranks ns' : List ℕ) → Ranks used (length joined / 4) ranks → Numbered ns m ranks ns' → ns' ≡ filled 0 (length ns') (flat_nodes (change (rank (used_by es) 0) es))
    listed_rows ranks ns' r n = whole ∙ ap (λ j. filled 0 j (flat_nodes fresh)) (sym long)
      where
        fresh : List Entry
        fresh = change (rank (used_by es) 0) es

        -- as many numbers as before
        same : length (flat_nodes fresh) ≡ length (flat_nodes es)
        same = nodes_count fresh ∙ ap (λ j. 3 * j) (change_length (rank (used_by es) 0) es) ∙ sym (nodes_count es)

        rest : drop (3 * m) ns ≡ replicate (length ns - length (flat_nodes es)) 0
        rest = ap (drop (3 * m)) h.rows ∙ drop_at (flat_nodes es) (replicate (length ns - length (flat_nodes es)) 0) (3 * m) (nodes_count es ∙ ap (λ j. 3 * j) h.count)

        changed : change (λ k. get_or ranks k 0) (entries_to ns m) ≡ fresh
        changed = ap (change (λ k. get_or ranks k 0)) rows_held ∙ change_same (λ k. get_or ranks k 0) (rank (used_by es) 0) (length ps) (λ k l. r k (omega (arith, count_held, l)) ∙ ap (λ g. rank g 0 k) used_are) h.numbers

        whole : ns' ≡ filled 0 (length ns) (flat_nodes fresh)
        whole = n ∙ (λ t. flat_nodes (changed t) ++ rest t) ∙ ap (λ j. flat_nodes fresh ++ replicate (length ns - j) 0) (sym same)

        long : length ns' ≡ length ns
        long = ap length whole ∙ filled_length 0 (length ns) (flat_nodes fresh) (omega (arith, same, nodes_count es, h.count, h.room))

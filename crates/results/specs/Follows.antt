-- What follows from the promise of a call that gives a solid.
--     told_unique       no second answer, and no second table, meets the promise
--     told_refusal      a number is given only when it is right, and leaves every table all zeros
--     given_tree        tables that are given are those of the tree, and within the limits
--     tree_given        a solid that is given for a tree: its counts, and its rows in the lent tables
use Rattle.std.specs.Prelude.{◌≡◌, refl, List, Bool, true, false, cond, ℕ, ◌-◌, ◌≤◌, leb, ℤ, pos, length, replicate, Result, Ok, Err}
use Rattle.std.proofs.Common.{sym, ap, subst, ◌∙◌, arith, leb-true}
use Rattle.whole.specs.Tests.{◌and◌, and_true, differ}
use Rattle.scope.specs.Limits.{most_planes, most_nodes}
use Rattle.scope.specs.Solids.{Tree, rows, planes, ascending, Tables, tables, tables_of}
use Rattle.scope.specs.Judging.{Rooms}
use Rattle.scope.specs.Answers.{Answer, given, refused, plane_numbers, node_numbers, filled, left, fits_rooms, tree_answer}
use Rattle.tables.specs.declared.Solid.{Solid}
use Rattle.theory.specs.Answers.{merge_answer_unique, form_answer_unique}
use Rattle.results.specs.Results.{Asked, merge_of, form_of, Right, rooms, given_of, Told}

right_unique : (q : Asked) (work : ℕ) (s : Rooms) {a b : Answer Tables} → Right q work s a → Right q work s b → a ≡ b
right_unique (merge_of o A B) work s = merge_answer_unique s o A B
right_unique (form_of A) work s = form_answer_unique s A

module _ {q : Asked} {xs : List ℤ} {ns : List ℕ} {w : List ℤ} where
  pub told_unique : {xs' xs'' : List ℤ} {ns' ns'' : List ℕ} {w' w'' : List ℤ} {i j : Result Solid ℕ} → Told q xs xs' ns ns' w w' i → Told q xs xs'' ns ns'' w w'' j → (i ≡ j) × (xs' ≡ xs'') × (ns' ≡ ns'') × (w' ≡ w'')
  told_unique h k =
      let e : h.answer ≡ k.answer = right_unique q (length w) (rooms xs ns) h.exact k.exact in
      (h.told ∙ ap given_of e ∙ sym k.told, h.planes ∙ ap (left (pos 0) (length xs) plane_numbers) e ∙ sym k.planes, h.nodes ∙ ap (left 0 (length ns) node_numbers) e ∙ sym k.nodes, h.work ∙ sym k.work)

-- ---- a refusal

pub record Refusal (q : Asked) (xs xs' : List ℤ) (ns ns' : List ℕ) (w w' : List ℤ) (k : ℕ) : Type 0 where
  pub when : Right q (length w) (rooms xs ns) (refused k)
  pub planes : xs' ≡ replicate (length xs) (pos 0)
  pub nodes : ns' ≡ replicate (length ns) 0
  pub work : w' ≡ replicate (length w) (pos 0)

-- an answer that is told as a number is its refusal
pub refused_by : {r : Result Solid ℕ} {k : ℕ} (a : Answer Tables) → r ≡ Err k → r ≡ given_of a → a ≡ refused k
refused_by {r} {k} (given (tables ps es q)) e f = let d : Err k ≡ given_of (given (tables ps es q)) = sym e ∙ f in differ (cc)
refused_by {r} {k} (refused n) e f = let d : Err k ≡ Err n = sym e ∙ f in cc

module _ {q : Asked} {xs xs' : List ℤ} {ns ns' : List ℕ} {w w' : List ℤ} {k : ℕ} where
  pub told_refusal : Told q xs xs' ns ns' w w' (Err k) → Refusal q xs xs' ns ns' w w' k
  told_refusal h = record { when = subst (Right q (length w) (rooms xs ns)) is h.exact; planes = h.planes ∙ ap (left (pos 0) (length xs) plane_numbers) is ∙ zeros (pos 0) (length xs); nodes = h.nodes ∙ ap (left 0 (length ns) node_numbers) is ∙ zeros 0 (length ns); work = h.work }
    where
      is : h.answer ≡ refused k
      is = refused_by h.answer refl h.told

      zeros : {A : Type 0} (o : A) (n : ℕ) → replicate (n - 0) o ≡ replicate n o
      zeros o n = ap (λ n. replicate n o) {x = n - 0} {y = n} (omega arith)

-- ---- a solid that is given

-- tables that are given are those of the tree, which is small
pub given_tree : (s : Rooms) (t : Tree) (c : Tables) → tree_answer s t ≡ given c → (tables_of t ≡ c) × (rows t ≤ most_nodes) × (length (ascending (planes t)) ≤ most_planes)
given_tree s t c = by (fits_rooms s t) refl (leb (length (ascending (planes t))) most_planes) refl
  where
    by : (b : Bool) → fits_rooms s t ≡ b → (d : Bool) → leb (length (ascending (planes t))) most_planes ≡ d → cond b (cond d (given (tables_of t)) (refused 9)) (refused 8) ≡ given c → (tables_of t ≡ c) × (rows t ≤ most_nodes) × (length (ascending (planes t)) ≤ most_planes)
    by false eb d ed e = differ (cc)
    by true eb false ed e = differ (cc)
    by true eb true ed e = (cc, leb-true (rows t) most_nodes (and_true (leb (rows t) most_nodes) (leb (rows t) s.node_rows and leb (length (ascending (planes t))) s.plane_rows) eb).0, leb-true (length (ascending (planes t))) most_planes ed)

-- the tables of the tree t, as a call left them
pub record TreeGiven (t : Tree) (xs xs' : List ℤ) (ns ns' : List ℕ) (s : Solid) : Type 0 where
  pub counts : Ok s ≡ given_of (given (tables_of t))
  pub plane_rows : xs' ≡ filled (pos 0) (length xs) (plane_numbers (tables_of t))
  pub node_rows : ns' ≡ filled 0 (length ns) (node_numbers (tables_of t))

module _ {q : Asked} {xs xs' : List ℤ} {ns ns' : List ℕ} {w w' : List ℤ} {s : Solid} (h : Told q xs xs' ns ns' w w' (Ok s)) where
  pub not_refused : {k : ℕ} → h.answer ≡ refused k → ⊥
  not_refused {k} e = let d : Ok s ≡ Err k = h.told ∙ ap given_of e in differ (cc)

  pub tree_given : (t : Tree) → h.answer ≡ tree_answer (rooms xs ns) t → TreeGiven t xs xs' ns ns' s
  tree_given t e = by h.answer refl
    where
      by : (a : Answer Tables) → h.answer ≡ a → TreeGiven t xs xs' ns ns' s
      by (refused k) f = absurd (not_refused f)
      by (given c) f =
          let d = f ∙ ap given (sym (given_tree (rooms xs ns) t c (sym e ∙ f)).0) in
          record { counts = h.told ∙ ap given_of d; plane_rows = h.planes ∙ ap (left (pos 0) (length xs) plane_numbers) d; node_rows = h.nodes ∙ ap (left 0 (length ns) node_numbers) d }

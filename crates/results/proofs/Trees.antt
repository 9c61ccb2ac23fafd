-- The operands' tables, read through the joined list: at each code stands the tree that the tables are of.
--     stands_at         a subtree of a tree whose rows are in the table
--     stands_solid      the tree of a solid, at its root code
use mathlib.Core.Path.{◌≡◌, refl, sym, ap, subst, ◌∙◌}
use mathlib.Core.List.{List, [], ◌∷◌, ◌++◌, append_assoc, append-nil}
use mathlib.Core.Option.{some}
use Prim.Native.Nat.{ℕ, suc, ◌+◌, ◌*◌, ◌≤◌, ◌<◌}
use native.Mathlib.Omega.{arith}
use lib.IntN.{ℤ}
use lib.ListN.{length, length-append, get_or, get_elem?}
use Rattle.whole.specs.Members.{◌∈◌, here, there, in_left, in_right, elem_small}
use Rattle.scope.specs.Planes.{Plane}
use Rattle.scope.specs.Solids.{IN, OUT, Tree, leaf, node, rows, planes, code, number, Row, post, place, Entry, entry, entries, ascending, tables_of}
use Rattle.scope.specs.Answers.{flat_planes, flat_nodes}
use Rattle.theory.specs.Planes.Lists.{ascending_same, place_at}
use Rattle.theory.specs.Text.Filled.{planes_count, nodes_count}
use Rattle.theory.specs.Text.Rows.{post_length}
use Rattle.theory.specs.Text.Stacks.{last_row, entries_node, rows_length}
use Rattle.theory.specs.Text.Lent.{FlatParts}
use Rattle.tables.specs.Rows.{plane_at, entry_at}
use Rattle.tables.specs.Promises.{SolidOf}
use Rattle.tables.proofs.Flats.{flat_plane, flat_entry}
use Rattle.lists.proofs.Rows.{planes_back}
use Rattle.walks.specs.Standing.{plane_number, RowIs, Stands, at_mark, at_row}

-- ---- what stands

pub entries_size : (ps : List Plane) (n : ℕ) (t : Tree) → length (entries ps (post n t)) ≡ rows t
entries_size ps n t = count (post n t) ∙ post_length n t
  where
    count : (rs : List Row) → length (entries ps rs) ≡ length rs
    count [] = refl
    count (r ∷ rs) = ap suc (count rs)

-- the planes P of an operand, numbered by J from o on
pub record Numbered (P J : List Plane) (numbers : List ℕ) (o : ℕ) : Type 0 where
  pub room : o + length P ≤ length numbers
  pub sub : (p : Plane) → p ∈ P → p ∈ J
  pub number_is : (i : ℕ) (p : Plane) → get_elem? P i ≡ some p → get_or numbers (o + i) 0 ≡ place J p

-- a code of a subtree before row r
code_less : (n : ℕ) (u : Tree) (r : ℕ) → n + rows u ≤ r → number (code n u) < 65534 → number (code n u) < r
unfolding code rows
code_less n (leaf IN) r h l = absurd (omega (arith, l))
code_less n (leaf OUT) r h l = absurd (omega (arith, l))
code_less n (node p f b) r h l = omega (arith, h)

module _ (P J : List Plane) (numbers : List ℕ) (o : ℕ) (k : Numbered P J numbers o) {xs : List ℤ} (ex : xs ≡ flat_planes J) (es : List Entry) (few : length es ≤ 1000) where
  abbrev ns : List ℕ
  ns = flat_nodes es

  row_is : (r : ℕ) (p : Plane) (f b n : ℕ) (u v : Tree) (before after : List Entry) → es ≡ before ++ (entry (place P p) f b ∷ after) → length before ≡ r → p ∈ P → (f < 65534 → f < r) → (b < 65534 → b < r)
      → RowIs xs numbers ns o r p × (get_or ns (3 * r + 1) 0 ≡ f) × (get_or ns (3 * r + 2) 0 ≡ b)
  unfolding plane_number
  row_is r p f b n u v before after e c m lf lb = (
    record {
      inside = omega (arith, nodes_count es, small);
      few = omega (arith, few, small);
      numbered = omega (arith, k.room, first_is, elem_small P (place P p) {p = p} (place_at m));
      there = omega (arith, number_here, ap length ex, planes_count J, elem_small J (place J p) {p = p} (place_at (k.sub p m)));
      plane = ap (plane_at xs) number_here ∙ ap (λ l. plane_at l (place J p)) ex ∙ flat_plane J (place J p) p (place_at (k.sub p m));
      place = number_here ∙ ap (λ l. place l p) (sym (planes_back J ex));
      member = subst (λ l. p ∈ l) (sym (planes_back J ex)) (k.sub p m);
      front_less = subst (λ c. c < 65534 → c < r) (sym second_is) lf;
      back_less = subst (λ c. c < 65534 → c < r) (sym third_is) lb;
    },
    second_is,
    third_is,
  )
    where
      the_row : entry_at ns r ≡ entry (place P p) f b
      the_row = (λ i. entry_at (flat_nodes (e i)) (sym c i)) ∙ flat_entry before (entry (place P p) f b) after

      first_is : get_or ns (3 * r) 0 ≡ place P p
      first_is = let h = the_row in cc

      second_is : get_or ns (3 * r + 1) 0 ≡ f
      second_is = let h = the_row in cc

      third_is : get_or ns (3 * r + 2) 0 ≡ b
      third_is = let h = the_row in cc

      small : r < length es
      small = omega (arith, c, ap length e, length-append before (entry (place P p) f b ∷ after))

      number_here : get_or numbers (o + get_or ns (3 * r) 0) 0 ≡ place J p
      number_here = ap (λ i. get_or numbers (o + i) 0) first_is ∙ k.number_is (place P p) p (place_at m)

  pub stands_at : (u : Tree) (n : ℕ) (before after : List Entry) → es ≡ before ++ (entries P (post n u) ++ after) → length before ≡ n → ((p : Plane) → p ∈ planes u → p ∈ P) → Stands xs numbers ns o (number (code n u)) u
  unfolding code rows
  stands_at (leaf m) n before after e c s = at_mark m
  stands_at (node p f b) n before after e c s =
      let q = row_is (n + rows f + rows b) p (number (code n f)) (number (code (n + rows f) b)) n f b (before ++ (ef ++ eb)) after own index (s p (here refl)) (code_less n f (n + rows f + rows b) (omega arith)) (code_less (n + rows f) b (n + rows f + rows b) (omega arith)) in
      at_row q.0 (subst (λ c. Stands xs numbers ns o c f) (sym q.1) (stands_at f n before (eb ++ (last ∷ after)) front c (λ x m. s x (there (in_left (planes b) m)))))
      (subst (λ c. Stands xs numbers ns o c b) (sym q.2) (stands_at b (n + rows f) (before ++ ef) (last ∷ after) back (length-append before ef ∙ omega (arith, c, entries_size P n f)) (λ x m. s x (there (in_right (planes f) m)))))
    where
      ef : List Entry
      ef = entries P (post n f)

      eb : List Entry
      eb = entries P (post (n + rows f) b)

      last : Entry
      last = last_row P n p f b

      parts : es ≡ before ++ (((ef ++ eb) ++ (last ∷ [])) ++ after)
      parts = e ∙ ap (λ l. before ++ (l ++ after)) (entries_node P n p f b)

      own : es ≡ (before ++ (ef ++ eb)) ++ (last ∷ after)
      own = parts ∙ simp append_assoc

      front : es ≡ before ++ (ef ++ (eb ++ (last ∷ after)))
      front = parts ∙ simp append_assoc

      back : es ≡ (before ++ ef) ++ (eb ++ (last ∷ after))
      back = parts ∙ simp append_assoc

      index : length (before ++ (ef ++ eb)) ≡ n + rows f + rows b
      index = length-append before (ef ++ eb) ∙ omega (arith, c, length-append ef eb, entries_size P n f, entries_size P (n + rows f) b)

-- ---- a solid

module _ {ap : List ℤ} {an : List ℕ} {ar : ℕ} {t : Tree} (s : SolidOf ap an ar t) (J : List Plane) (numbers : List ℕ) (o : ℕ) {xs : List ℤ} (ex : xs ≡ flat_planes J) where
  flat : FlatParts (ascending (planes t)) (entries (ascending (planes t)) (post 0 t)) (number (code 0 t)) ap an ar
  unfolding tables_of
  flat = s.flat

  pub stands_solid : Numbered (ascending (planes t)) J numbers o → Stands xs numbers an o ar t
  stands_solid k =
      subst (λ c. Stands xs numbers an o c t) (sym flat.root) (subst (λ l. Stands xs numbers l o (number (code 0 t)) t) (sym flat.nodes)
      (stands_at (ascending (planes t)) J numbers o k ex (entries (ascending (planes t)) (post 0 t)) (omega (arith, rows_length (ascending (planes t)) t, s.lawful.few_rows)) t 0 [] [] (sym (append-nil (entries (ascending (planes t)) (post 0 t)))) refl (λ p m. (ascending_same (planes t)).to p m)))

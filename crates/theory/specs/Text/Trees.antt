-- Trees and tables: the tables of a lawful tree are lawful and have that tree, and lawful tables are those of their tree.
--     LawfulParts, LawfulTables       lawful tables: planes, rows and root code by the rules of document 01
--     tables_lawful, tree_tables      tree to tables and back
--     tree_lawful, tables_tree        tables to tree and back
use Rattle.std.specs.Prelude.{◌≡◌, refl, Bool, true, false, cond, List, [], ◌∷◌, ℕ, suc, ◌+◌, ◌≤◌, eqb, length}
use Rattle.std.proofs.Common.{sym, ◌∙◌, arith, eqb→eq}
use Rattle.std.proofs.Math.Path.{ap, subst}
use Rattle.std.proofs.Math.Option.{some}
use Rattle.std.proofs.Math.Dec.{T, eqb_refl}
use Rattle.std.proofs.Math.ListN.{get_elem?}
use Rattle.whole.specs.Members.{◌∈◌, in_left, elem_in, elem_small, elem_at, in_elem}
use Rattle.whole.specs.Tests.{◌or◌}
use Rattle.scope.specs.Planes.{Plane, Lawful}
use Rattle.scope.specs.Solids.{IN, OUT, Tree, leaf, node, rows, planes, code, post, Entry, Tables, tables, number, ascending, entries, tables_of, LawfulTree}
use Rattle.scope.specs.Judging.{Sub, sub, uses, all_used, one_tree, root_ok}
use Rattle.scope.specs.Limits.{most_planes, most_nodes}
use Rattle.theory.specs.Text.Build.{build, root_tree, root_of, tree_of}
use Rattle.theory.specs.Planes.Lists.{Ascending, ascending_one, ascending_law, ascending_same, place_at, place_of}
use Rattle.theory.specs.Text.Stacks.{Stands, stands_none, build_stands, push, build_tree, rows_length}
use Rattle.theory.specs.Text.Uses.{all_used_make, all_used_get, uses_post, post_uses}

-- rows that stand: plane numbers and child codes are by the rules, and the trees left are `stack`
pub record LawfulParts (ps : List Plane) (es : List Entry) (r : ℕ) : Type 0 where
  pub each : (p : Plane) → p ∈ ps → Lawful p
  pub strictly : Ascending ps
  pub few_planes : length ps ≤ most_planes
  pub few_rows : length es ≤ most_nodes
  pub stack : List Sub
  pub stands : build ps 0 [] es ≡ some stack
  pub one : T (one_tree stack)
  pub root : T (root_ok (length es) r)
  pub used : T (all_used (length ps) es)

abbrev pub LawfulTables : Tables → Type 0
LawfulTables (tables ps es r) = LawfulParts ps es r

-- ---- tables of a tree are lawful, and the tree of them is that tree

tree_push : (t : Tree) → root_tree (number (code 0 t)) (push t []) ≡ t
unfolding code
tree_push (leaf IN) = refl
tree_push (leaf OUT) = refl
tree_push (node p f b) = refl

one_push : (t : Tree) → T (one_tree (push t []))
one_push (leaf m) = tt
one_push (node p f b) = tt

root_push : (t : Tree) → T (root_ok (rows t) (number (code 0 t)))
unfolding root_ok code rows
root_push (leaf IN) = tt
root_push (leaf OUT) = tt
root_push (node p f b) = let e : 0 + rows f + rows b ≡ rows f + rows b = omega arith in rw e (eqb_refl (rows f + rows b))

module _ (t : Tree) (l : LawfulTree t) where
  built : build (ascending (planes t)) 0 [] (entries (ascending (planes t)) (post 0 t)) ≡ some (push t [])
  built = build_tree (ascending (planes t)) t l.few_rows (ascending_same (planes t)).to

  -- the tables of a lawful tree are lawful
  pub tables_lawful : LawfulTables (tables_of t)
  unfolding tables_of
  tables_lawful = record {
    each = λ p m. l.each p ((ascending_same (planes t)).from p m);
    strictly = ascending_law (planes t);
    few_planes = l.few_planes;
    few_rows = rw (rows_length (ascending (planes t)) t) l.few_rows;
    stack = push t [];
    stands = built;
    one = one_push t;
    root = rw (rows_length (ascending (planes t)) t) (root_push t);
    used = all_used_make (length (ascending (planes t))) (entries (ascending (planes t)) (post 0 t)) (λ k h. used k (elem_at (ascending (planes t)) k h));
  }
    where
      used : (k : ℕ) → (p : Plane) × (get_elem? (ascending (planes t)) k ≡ some p) → T (uses k (entries (ascending (planes t)) (post 0 t)))
      used k e = subst (λ i. T (uses i (entries (ascending (planes t)) (post 0 t)))) (place_of k (ascending_law (planes t)) e.1) (uses_post (ascending (planes t)) e.0 t 0 ((ascending_same (planes t)).from e.0 (elem_in (ascending (planes t)) k e.1)))

  -- and the tree of them is that tree
  pub tree_tables : tree_of (tables_of t) ≡ t
  unfolding tree_of tables_of
  tree_tables = ap (root_of (number (code 0 t))) built ∙ tree_push t

-- ---- lawful tables are the tables of the tree of them

record Rooted (ps : List Plane) (es : List Entry) (r : ℕ) (t : Tree) : Type 0 where
  rows_are : entries ps (post 0 t) ≡ es
  count : rows t ≡ length es
  is : number (code 0 t) ≡ r
  from : (p : Plane) → p ∈ planes t → p ∈ ps

rooted : (ps : List Plane) (es : List Entry) (r : ℕ) (st : List Sub) → Stands ps st es → T (one_tree st) → T (root_ok (length es) r) → Rooted ps es r (root_tree r st)
unfolding root_ok code rows post
rooted ps es r [] s o k = go (eqb r 65535) (eqb→eq r 65535) (eqb→eq r 65534) (rw (sym s.count) at k)
  where
    go : (b : Bool) → (T b → r ≡ 65535) → (T (eqb r 65534) → r ≡ 65534) → T (b or eqb r 65534) → Rooted ps es r (cond b (leaf IN) (leaf OUT))
    go true f g k = record { rows_are = s.rows_are; count = s.count; is = sym (f tt); from = λ p m. elim m [ ] }
    go false f g k = record { rows_are = s.rows_are; count = s.count; is = sym (g k); from = λ p m. elim m [ ] }
rooted ps es r (sub p f b ∷ []) s o k = record { rows_are = s.rows_are; count = n; is = let e = eqb→eq r (rows f + rows b) (rw (sym n) at k) in omega arith; from = λ q m. s.from q (in_left [] m) }
  where
    n : suc (rows f + rows b) ≡ length es
    n = let e : 0 + suc (rows f + rows b) ≡ length es = s.count in omega arith
rooted ps es r (t ∷ u ∷ st) s o k = absurd o

module _ (ps : List Plane) (es : List Entry) (r : ℕ) (l : LawfulParts ps es r) where
  the_tree : tree_of (tables ps es r) ≡ root_tree r l.stack
  unfolding tree_of
  the_tree = ap (root_of r) l.stands

  root_rooted : Rooted ps es r (root_tree r l.stack)
  root_rooted = rooted ps es r l.stack (build_stands ps [] l.stack [] es l.strictly (stands_none ps) l.stands) l.one l.root

  the_planes : (t : Tree) → Rooted ps es r t → ascending (planes t) ≡ ps
  the_planes t k = ascending_one (ascending_law (planes t)) l.strictly (record { to = λ p m. k.from p ((ascending_same (planes t)).from p m); from = λ p m. (ascending_same (planes t)).to p (used p m) })
    where
      used : (p : Plane) → p ∈ ps → p ∈ planes t
      used p m =
          let n = in_elem m in
          let u = post_uses ps t 0 n.0 (rw k.rows_are (all_used_get (length ps) es l.used n.0 (elem_small ps n.0 n.1))) in
          let e : get_elem? ps n.0 ≡ some u.by = subst (λ i. get_elem? ps i ≡ some u.by) u.at (place_at (k.from u.by u.member)) in
          let d : u.by ≡ p = cc n.1 in
          subst (λ q. q ∈ planes t) d u.member

  parts_tree : LawfulTree (tree_of (tables ps es r))
  parts_tree = rw the_tree (go (root_tree r l.stack) root_rooted)
    where
      go : (t : Tree) → Rooted ps es r t → LawfulTree t
      go t k = record { each = λ p m. l.each p (k.from p m); few_planes = rw (the_planes t k) l.few_planes; few_rows = rw k.count l.few_rows }

  parts_tables : tables_of (tree_of (tables ps es r)) ≡ tables ps es r
  unfolding tables_of
  parts_tables = ap tables_of the_tree ∙ go (root_tree r l.stack) root_rooted
    where
      go : (t : Tree) → Rooted ps es r t → tables (ascending (planes t)) (entries (ascending (planes t)) (post 0 t)) (number (code 0 t)) ≡ tables ps es r
      go t k = rw (the_planes t k, k.rows_are, k.is)

-- the tree of lawful tables is lawful
pub tree_lawful : (s : Tables) → LawfulTables s → LawfulTree (tree_of s)
tree_lawful (tables ps es r) l = parts_tree ps es r l

-- and the tables of it are those tables
pub tables_tree : (s : Tables) → LawfulTables s → tables_of (tree_of s) ≡ s
tables_tree (tables ps es r) l = parts_tables ps es r l

-- a tree whose tables are lawful is lawful
pub lawful_back : (t : Tree) → LawfulTables (tables_of t) → LawfulTree t
unfolding tables_of
lawful_back t l = record { each = λ p m. l.each p ((ascending_same (planes t)).to p m); few_planes = l.few_planes; few_rows = rw (rows_length (ascending (planes t)) t) at l.few_rows }

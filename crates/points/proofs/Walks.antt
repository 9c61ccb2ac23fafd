-- The walk of a point, row by row: the code met stands for a subtree whose rows are in the table, and whose reply is the tree's.
--     Below, top               the subtree that a code stands for
--     step_in, rank            what a step is given, and the measure of the walk
--     walk_on, walk_to, walk_less, walk_in, walk_out   the ways on and out
use mathlib.Core.Path.{◌≡◌, refl, sym, ap, subst, ◌∙◌}
use mathlib.Core.Bool.{cond}
use mathlib.Core.List.{List, [], ◌∷◌, ◌++◌, append_assoc, append-nil}
use mathlib.Core.Logic.{◌⊎◌, inl, inr}
use mathlib.Core.Option.{some}
use Prim.Native.Nat.{ℕ, suc, ◌+◌, ◌*◌, ◌≤◌, ◌<◌}
use native.Mathlib.Omega.{arith}
use lib.Dec.{ltb}
use lib.IntN.{ℤ}
use lib.ListN.{length, length-append, get_or, get_elem?}
use borrow.Author.Tests.{lt-ltb}
use Rattle.std.specs.Prelude.{Option, Some, None}
use Rattle.whole.specs.Tests.{differ, is_true}
use Rattle.whole.specs.Members.{◌∈◌, here, there, in_left, in_right, elem_small}
use Rattle.whole.specs.Sign.{Sign, minus, nought, plus}
use Rattle.scope.specs.Planes.{Plane, Point, side, in_range}
use Rattle.scope.specs.Solids.{Mark, IN, OUT, Tree, leaf, node, rows, planes, mark, code, number, Row, post, place, Entry, entry, entries, ascending, tables_of, marked, ON, choice, reply}
use Rattle.scope.specs.Answers.{flat_nodes}
use Rattle.theory.specs.Planes.Lists.{ascending_same, place_at}
use Rattle.theory.specs.Text.Rows.{post_length}
use Rattle.theory.specs.Text.Stacks.{last_row, entries_node, rows_length}
use Rattle.theory.specs.Text.Lent.{FlatParts}
use Rattle.planes.specs.Bounds.{PlaneIn, PointIn, in_range_in}
use Rattle.tables.specs.Rows.{plane_at, entry_at}
use Rattle.tables.specs.Promises.{SolidOf}
use Rattle.points.specs.Promises.{StepIn, went, stepped, told}
use Rattle.points.specs.declared.Place.TheVariants.{In, Out, On}
use Rattle.tables.proofs.Flats.{flat_planes_length, flat_nodes_length, flat_plane, flat_entry}

entries_size : (ps : List Plane) (n : ℕ) (t : Tree) → length (entries ps (post n t)) ≡ rows t
entries_size ps n t = count (post n t) ∙ post_length n t
  where
    count : (rs : List Row) → length (entries ps rs) ≡ length rs
    count [] = refl
    count (r ∷ rs) = ap suc (count rs)

-- the planes and the rows of a tree's tables
abbrev list : Tree → List Plane
list t = ascending (planes t)

abbrev table : Tree → List Entry
table t = entries (list t) (post 0 t)

-- a code of a row is one more than the row; a mark is 0
abbrev pub rank : ℕ → ℕ
rank c = cond (ltb c 65534) (suc c) 0

module _ (t : Tree) (X : Point) where
  pub record Below (c : ℕ) : Type 0 where
    tree : Tree
    base : ℕ
    before : List Entry
    after : List Entry
    rows_are : table t ≡ before ++ (entries (list t) (post base tree) ++ after)
    count : length before ≡ base
    is : c ≡ number (code base tree)
    same : reply t X ≡ reply tree X
    from : (p : Plane) → p ∈ planes tree → p ∈ planes t

  -- the root code stands for the tree
  pub top : Below (number (code 0 t))
  top = record { tree = t; base = 0; before = []; after = []; rows_are = sym (append-nil (table t)); count = refl; is = refl; same = refl; from = λ p m. m }

  -- a row: its plane, its codes, and where they lead
  record Parts (c : ℕ) : Type 0 where
    p : Plane
    F : ℕ
    B : ℕ
    member : p ∈ planes t
    small : c < rows t
    row : entry_at (flat_nodes (table t)) c ≡ entry (place (list t) p) F B
    on : side p X ≡ nought → reply t X ≡ ON
    front : side p X ≡ plus → Below F
    back : side p X ≡ minus → Below B
    front_less : rank F < rank c
    back_less : rank B < rank c

  rank_row : (c : ℕ) → c < 65534 → rank c ≡ suc c
  rank_row c h = rw (lt-ltb c 65534 h) refl

  -- a subtree of an earlier row
  rank_less : (n : ℕ) (u : Tree) (c : ℕ) → c < 65534 → n + rows u ≤ c → rank (number (code n u)) < rank c
  unfolding code rows
  rank_less n (leaf IN) c h k = let e = rank_row c h in omega arith
  rank_less n (leaf OUT) c h k = let e = rank_row c h in omega arith
  rank_less n (node p f b) c h k =
      let e = rank_row c h in
      let g = rank_row (n + rows f + rows b) (omega arith) in
      omega arith

  module _ (c : ℕ) (small : c < 65534) (base : ℕ) (before after : List Entry) (p : Plane) (f b : Tree) (rows_are : table t ≡ before ++ (entries (list t) (post base (node p f b)) ++ after)) (count : length before ≡ base)
      (is : c ≡ base + rows f + rows b) (same : reply t X ≡ choice (side p X) (reply f X) (reply b X)) (from : (q : Plane) → q ∈ planes (node p f b) → q ∈ planes t) where
    abbrev ef : List Entry
    ef = entries (list t) (post base f)

    abbrev eb : List Entry
    eb = entries (list t) (post (base + rows f) b)

    abbrev last : Entry
    last = last_row (list t) base p f b

    parts_are : table t ≡ before ++ (((ef ++ eb) ++ (last ∷ [])) ++ after)
    parts_are = rows_are ∙ ap (λ l. before ++ (l ++ after)) (entries_node (list t) base p f b)

    row_at : table t ≡ (before ++ (ef ++ eb)) ++ (last ∷ after)
    row_at = parts_are ∙ regroup before ef eb (last ∷ [])
      where
        regroup : (u v w x : List Entry) → u ++ (((v ++ w) ++ x) ++ after) ≡ (u ++ (v ++ w)) ++ (x ++ after)
        regroup u v w x = simp append_assoc

    front_at : table t ≡ before ++ (ef ++ (eb ++ (last ∷ after)))
    front_at = parts_are ∙ regroup before ef eb (last ∷ [])
      where
        regroup : (u v w x : List Entry) → u ++ (((v ++ w) ++ x) ++ after) ≡ u ++ (v ++ (w ++ (x ++ after)))
        regroup u v w x = simp append_assoc

    back_at : table t ≡ (before ++ ef) ++ (eb ++ (last ∷ after))
    back_at = parts_are ∙ regroup before ef eb (last ∷ [])
      where
        regroup : (u v w x : List Entry) → u ++ (((v ++ w) ++ x) ++ after) ≡ (u ++ v) ++ (w ++ (x ++ after))
        regroup u v w x = simp append_assoc

    index : length (before ++ (ef ++ eb)) ≡ c
    index = simp length-append (omega (arith, entries_size (list t) base f, entries_size (list t) (base + rows f) b))

    whole : rows t ≡ c + suc (length after)
    whole = sym (rows_length (list t) t) ∙ ap length row_at ∙ sum (before ++ (ef ++ eb)) index
      where
        sum : (l : List Entry) → length l ≡ c → length (l ++ (last ∷ after)) ≡ c + suc (length after)
        sum l e = simp length-append (omega arith)

    the_row : entry_at (flat_nodes (table t)) c ≡ last
    the_row = ap (λ l. entry_at (flat_nodes l) c) row_at ∙ ap (entry_at (flat_nodes ((before ++ (ef ++ eb)) ++ (last ∷ after)))) (sym index) ∙ flat_entry (before ++ (ef ++ eb)) last after

    node_parts : Parts c
    node_parts = record {
      p = p;
      F = number (code base f);
      B = number (code (base + rows f) b);
      member = from p (here refl);
      small = let e = whole in omega arith;
      row = the_row;
      on = λ s. same ∙ ap (λ s. choice s (reply f X) (reply b X)) s;
      front = λ s. record { tree = f; base = base; before = before; after = eb ++ (last ∷ after); rows_are = front_at; count = count; is = refl; same = same ∙ ap (λ s. choice s (reply f X) (reply b X)) s; from = λ q m. from q (there (in_left (planes b) m)) };
      back = λ s. record { tree = b; base = base + rows f; before = before ++ ef; after = last ∷ after; rows_are = back_at; count = simp length-append (omega (arith, entries_size (list t) base f)); is = refl; same = same ∙ ap (λ s. choice s (reply f X) (reply b X)) s; from = λ q m. from q (there (in_right (planes f) m)) };
      front_less = rank_less base f c small (omega arith);
      back_less = rank_less (base + rows f) b c small (omega arith);
    }

  -- a row's number is below the count of rows
  within_table : (c base : ℕ) (before after : List Entry) (p : Plane) (f b : Tree) → table t ≡ before ++ (entries (list t) (post base (node p f b)) ++ after) → length before ≡ base → c ≡ base + rows f + rows b → c < rows t
  unfolding rows
  within_table c base before after p f b e k i =
      let h : rows t ≡ length (before ++ (entries (list t) (post base (node p f b)) ++ after)) = sym (rows_length (list t) t) ∙ ap length e in
      let g = simp length-append at h in
      omega (arith, entries_size (list t) base (node p f b))

  parts : (c : ℕ) → c < 65534 → Below c → Parts c
  unfolding code reply
  parts c h w = go w.tree w.rows_are w.is w.same w.from
    where
      go : (u : Tree) → table t ≡ w.before ++ (entries (list t) (post w.base u) ++ w.after) → c ≡ number (code w.base u) → reply t X ≡ reply u X → ((q : Plane) → q ∈ planes u → q ∈ planes t) → Parts c
      go (leaf IN) r i s f = absurd (omega arith)
      go (leaf OUT) r i s f = absurd (omega arith)
      go (node p F B) r i s f = node_parts c h w.base w.before w.after p F B r w.count i s f

-- ---- with the tables

module _ {xs : List ℤ} {ns : List ℕ} {r : ℕ} {t : Tree} (X : Point) (s : SolidOf xs ns r t) where
  flat : FlatParts (list t) (table t) (number (code 0 t)) xs ns r
  unfolding tables_of
  flat = s.flat

  pub begin : Below t X r
  begin = subst (Below t X) (sym flat.root) (top t X)

  module _ {c : ℕ} (q : Parts t X c) where
    place_is : get_elem? (list t) (place (list t) q.p) ≡ some q.p
    place_is = place_at ((ascending_same (planes t)).to q.p q.member)

    row_is : entry_at ns c ≡ entry (place (list t) q.p) q.F q.B
    row_is = ap (λ l. entry_at l c) flat.nodes ∙ q.row

    number_is : get_or ns (3 * c) 0 ≡ place (list t) q.p
    number_is = let e = row_is in cc

    plane_is : plane_at xs (get_or ns (3 * c) 0) ≡ q.p
    plane_is = ap (plane_at xs) number_is ∙ ap (λ l. plane_at l (place (list t) q.p)) flat.planes ∙ flat_plane (list t) (place (list t) q.p) q.p place_is

    plane_limits : PlaneIn q.p.x q.p.y q.p.z q.p.w
    plane_limits = in_range_in (is_true (in_range q.p) (s.lawful.each q.p q.member).range)

    parts_in : PointIn X.x X.y X.z X.w → StepIn xs ns c X
    parts_in h = record {
      row = let e = ap length flat.nodes in let k = q.small in omega (arith, flat_nodes_length (table t), rows_length (list t) t);
      side_in = record {
        inside = let e = ap length flat.planes in let k = number_is in omega (arith, flat_planes_length (list t), elem_small (list t) (place (list t) q.p) {p = q.p} place_is);
        plane_in = subst (λ u. PlaneIn u.x u.y u.z u.w) (sym plane_is) plane_limits;
        point_in = h;
      };
    }

    stepped_is : stepped xs ns c X ≡ went (side q.p X) q.F q.B
    stepped_is = let e = row_is in let f : get_or ns (3 * c + 1) 0 ≡ q.F = cc in let g : get_or ns (3 * c + 2) 0 ≡ q.B = cc in λ i. went (side (plane_is i) X) (f i) (g i)

  module _ {c : ℕ} (low : c < 65534) (b : Below t X c) where
    pub step_in : PointIn X.x X.y X.z X.w → StepIn xs ns c X
    step_in = parts_in (parts t X c low b)

    module _ {j : Option ℕ} (h : j ≡ stepped xs ns c X) where
      pub walk_on : j ≡ None → On ≡ told (reply t X)
      walk_on e = let q = parts t X c low b in go q (side q.p X) refl (sym e ∙ h ∙ stepped_is q)
        where
          go : (q : Parts t X c) (σ : Sign) → side q.p X ≡ σ → None ≡ went σ q.F q.B → On ≡ told (reply t X)
          go q plus f g = differ (cc)
          go q nought f g = sym (ap told (q.on f))
          go q minus f g = differ (cc)

      module _ {d : ℕ} (e : j ≡ Some d) where
        goes : (q : Parts t X c) → ((side q.p X ≡ plus) × (q.F ≡ d)) ⊎ ((side q.p X ≡ minus) × (q.B ≡ d))
        goes q = go (side q.p X) refl (sym e ∙ h ∙ stepped_is q)
          where
            go : (σ : Sign) → side q.p X ≡ σ → Some d ≡ went σ q.F q.B → ((side q.p X ≡ plus) × (q.F ≡ d)) ⊎ ((side q.p X ≡ minus) × (q.B ≡ d))
            go plus f g = inl (f, cc)
            go nought f g = differ (cc)
            go minus f g = inr (f, cc)

        pub walk_to : Below t X d
        walk_to = let q = parts t X c low b in elim (goes q) [ inl g ↦ subst (Below t X) g.1 (q.front g.0) | inr g ↦ subst (Below t X) g.1 (q.back g.0) ]

        pub walk_less : rank d < rank c
        walk_less = let q = parts t X c low b in elim (goes q) [ inl g ↦ subst (λ i. rank i < rank c) g.1 q.front_less | inr g ↦ subst (λ i. rank i < rank c) g.1 q.back_less ]

  -- ---- at a mark

  module _ {c : ℕ} (high : 65534 ≤ c) (b : Below t X c) where
    at_mark : (m : Mark) × (c ≡ number (mark m)) × (reply t X ≡ marked m)
    unfolding code reply rows
    at_mark = go b.tree b.rows_are b.is b.same
      where
        go : (u : Tree) → table t ≡ b.before ++ (entries (list t) (post b.base u) ++ b.after) → c ≡ number (code b.base u) → reply t X ≡ reply u X → (m : Mark) × (c ≡ number (mark m)) × (reply t X ≡ marked m)
        go (leaf m) k i e = (m, i, e)
        go (node p F B) k i e = absurd (omega (arith, within_table t X c b.base b.before b.after p F B k b.count i, s.lawful.few_rows))

    pub walk_in : c ≡ 65535 → In ≡ told (reply t X)
    walk_in e = go at_mark.0 at_mark.1 at_mark.2
      where
        go : (m : Mark) → c ≡ number (mark m) → reply t X ≡ marked m → In ≡ told (reply t X)
        go IN i f = sym (ap told f)
        go OUT i f = absurd (omega arith)

    pub walk_out : (c ≡ 65535 → ⊥) → Out ≡ told (reply t X)
    walk_out n = go at_mark.0 at_mark.1 at_mark.2
      where
        go : (m : Mark) → c ≡ number (mark m) → reply t X ≡ marked m → Out ≡ told (reply t X)
        go IN i f = absurd (n i)
        go OUT i f = sym (ap told f)

-- The walks on a plane of a node and of a side: what each call is given, and what comes of its answer. One lemma for both sides of a node.
--     node_row, node_deep, node_asked, plane_ranged   the row, and room for one more half-space on the path
--     front_in, front_less, back_in, back_less        the walks of its sides: what they are given, and that they are lower
--     back_asked                      the path behind the row, as it was
--     node_front, node_back           the node's walk, from the answers of its sides
--     meets_same                      a plane and a cell, where the path's rows are as they were
--     pass_in, both_in, code_in, walk_in  what the calls of a side's walk are given
--     side_both, side_code, side_end, side_walk      the side's walk, from the answers of these
use mathlib.Core.Path.{◌≡◌, refl, sym, ap, subst, ◌∙◌}
use mathlib.Core.Bool.{Bool, true, false}
use mathlib.Core.List.{List, ◌∷◌}
use mathlib.Core.Option.{Option, none, some}
use Prim.Native.Nat.{ℕ, suc, ◌+◌, ◌*◌, ◌≤◌, ◌<◌}
use native.Mathlib.Omega.{arith}
use lib.IntN.{ℤ}
use lib.ListN.{length, get_or}
use Rattle.std.specs.Prelude as std
use Rattle.std.specs.Prelude.{Decides, Some, None}
use Rattle.whole.specs.Members.{◌∈◌}
use Rattle.whole.specs.Tests.{is_true}
use Rattle.scope.specs.Planes.{Plane, flip, in_range}
use Rattle.scope.specs.Solids.{Mark, Tree, node}
use Rattle.scope.specs.Cells.{Cuts, Operation, operate}
use Rattle.theory.specs.Cells.Sides.{half}
use Rattle.theory.specs.Cells.Path.{OnKept, on_take, on_kept_few}
use Rattle.planes.specs.Values.{plane}
use Rattle.planes.specs.Bounds.{PlaneIn, in_range_in}
use Rattle.planes.specs.declared.Plane as struct
use Rattle.tables.specs.Rows.{plane_at}
use Rattle.cells.specs.Paths.{PathIn, Pushed}
use Rattle.cells.proofs.Paths.{links_same}
use Rattle.walks.specs.declared.rows.Operands.{Operands}
use Rattle.walks.specs.declared.operations.Mark as marks
use Rattle.walks.specs.Standing.{offset, list, walked, Stands}
use Rattle.walks.specs.Marks.{operation_of, mark_of, above_of, mark_code}
use Rattle.walks.specs.Walks.{StandsIn}
use Rattle.walks.proofs.Rank.{rank, rank_below}
use Rattle.walks.proofs.Ways.{RowAt, as_row, as_leaf, code_small}
use Rattle.walks.proofs.Cycle.{child, front_falls, back_falls}
use Rattle.walks.specs.Walks.{Ground}
use Rattle.borders.specs.declared.Stage.{Stage}
use Rattle.borders.specs.declared.Next.{Next}
use Rattle.borders.specs.declared.Next.TheVariants.{Walk, Done}
use Rattle.borders.specs.Bounded.{PairIs}
use Rattle.borders.specs.Sides.{cell_at, Kept, nowhere, taken, After, Differs, plane_of, Passes, PassIn, PassTold, staged, Follows, to_b, to_backs, at_end, Meets, Here, SideIn, NodeIn, Did}
use Rattle.borders.proofs.Paths.{kept_fewer, kept_both, same_rows, cell_same, Laid, laid, laid_first, laid_cell, laid_links, keep_asked}
use Rattle.borders.proofs.Turns.{leaf_told, front_told, both_told, Leads, leads, leads_falls, left, walk_falls}

-- the path is as long as it was
ground_in : {xs path path' : List ℤ} → Ground xs path → length path' ≡ length path → Ground xs path'
ground_in g e = record { lawful = g.lawful; few = g.few; path_room = omega (arith, e, g.path_room) }

-- a row's tree in front, or behind
abbrev pub side_of : {xs : List ℤ} {numbers ns : List ℕ} {o r : ℕ} {w : Tree} → Bool → RowAt xs numbers ns o r w → Tree
side_of true q = q.front
side_of false q = q.back

side_stands : {xs : List ℤ} {numbers ns : List ℕ} {o r : ℕ} {w : Tree} (s : Bool) (q : RowAt xs numbers ns o r w) → Stands xs numbers ns o (get_or ns (3 * r + child s) 0) (side_of s q)
side_stands true q = q.front_stands
side_stands false q = q.back_stands

-- the tree that a code stands for, in the operand that is walked
at_tree : {o : Operands} {t : Stage} {r c : ℕ} (h : Here o t r) (w : Tree) → StandsIn o t.above c w → Here o t c
at_tree h w st = record { tree_a = h.tree_a; tree_b = h.tree_b; pair_is = h.pair_is; tree = w; stands = st }

-- ---- a node

module _ {o : Operands} {t : Stage} {path : List ℤ} {depth r : ℕ} (h : NodeIn o t path depth r) where
  abbrev ns : List ℕ
  ns = walked o t.above

  abbrev xs : List ℤ
  xs = o.planes.now

  abbrev q : Operation
  q = operation_of t.pair.op

  abbrev f : Option Mark
  f = above_of t.front

  abbrev j : Option Mark
  j = above_of t.above

  abbrev own : Plane
  own = plane_at xs t.plane

  abbrev other : Plane
  other = plane_of o t r

  pub node_row : RowAt xs o.numbers.now ns (offset t.above) r h.side.here.tree
  node_row = as_row h.row h.side.here.stands

  other_member : other ∈ list xs
  other_member = subst (λ p. p ∈ list xs) (sym node_row.row.plane) node_row.row.member

  -- one half-space more
  half_on : (s : Bool) → OnKept own (list xs) (half s other ∷ cell_at path depth) (suc depth)
  half_on s = on_take s other other_member h.other h.front_cuts h.back_cuts h.side.meets.on

  half_cuts : (s : Bool) → Cuts own (half s other ∷ cell_at path depth)
  half_cuts true = h.front_cuts
  half_cuts false = h.back_cuts

  pub node_deep : depth < 128
  node_deep = omega (arith, on_kept_few h.side.meets.own.member (half_on true), h.side.meets.grounds.few)

  node_room : depth * 9 + 9 ≤ length path
  node_room = omega (arith, node_deep, h.side.meets.grounds.path_room)

  pub node_asked : PathIn path depth × (depth * 9 + 9 ≤ length path)
  node_asked = keep_asked same_rows refl node_deep h.side.meets.links node_room

  pub plane_ranged : {p : struct.Plane} → plane p ≡ other → PlaneIn p.a p.b p.c p.d
  plane_ranged {p} e = subst (λ q. PlaneIn q.x q.y q.z q.w) (sym e) (in_range_in (is_true (in_range other) (h.side.meets.grounds.lawful other other_member).range))

  module _ (s : Bool) {path' : List ℤ} (k : Laid path path' depth (half s other)) {c : ℕ} (e : c ≡ get_or ns (3 * r + child s) 0) where
    side_in : SideIn o t path' (depth + 1) c
    side_in =
        let n : suc depth ≡ depth + 1 = omega arith in
        record {
          meets = record {
            grounds = ground_in h.side.meets.grounds k.long;
            own = h.side.meets.own;
            on = subst (λ c. OnKept own (list xs) c (depth + 1)) (sym (laid_cell k)) (subst (OnKept own (list xs) (half s other ∷ cell_at path depth)) n (half_on s));
            links = laid_links k h.side.meets.links;
            cuts = subst (Cuts own) (sym (laid_cell k)) (half_cuts s);
          };
          here = at_tree h.side.here (side_of s node_row) (subst (λ c. StandsIn o t.above c (side_of s node_row)) (sym e) (side_stands s node_row));
        }

    module _ {path'' : List ℤ} {z : Bool} (d : Did o t path' path'' (depth + 1) c z) where
      -- the rows of the path before this one are still as they were
      side_kept : Kept path path'' depth
      side_kept = kept_both k.before (kept_fewer (omega arith) d.kept)

      -- one side of the row's tree
      side_told : (A B w : Tree) → PairIs o t.pair A B → (st : StandsIn o t.above r w) → Decides z (Differs q own A B f j (half s other ∷ cell_at path depth) (side_of s (as_row h.row st)))
      side_told A B w pi st =
          let u = as_row h.row st in
          subst (λ c. Decides z (Differs q own A B f j c (side_of s u))) (laid_cell k) (d.told A B (side_of s u) pi (subst (λ c. StandsIn o t.above c (side_of s u)) (sym e) (side_stands s u)))

  -- the tree is a node of the row's plane
  as_node : {w : Tree} (st : StandsIn o t.above r w) → node other (as_row h.row st).front (as_row h.row st).back ≡ w
  as_node st = let u = as_row h.row st in sym (u.is ∙ ap (λ p. node p u.front u.back) (sym u.row.plane))

  -- in front of the row
  module _ {p : struct.Plane} (ep : plane p ≡ other) {path₁ : List ℤ} (k₁ : Pushed path path₁ depth p nowhere) (l₁ : length path₁ ≡ length path) {c₁ : ℕ} (e₁ : c₁ ≡ get_or ns (3 * r + 1) 0) where
    front_laid : Laid path path₁ depth other
    front_laid = laid_first {h = p} k₁ l₁ ep node_room

    pub front_in : SideIn o t path₁ (depth + 1) c₁
    front_in = side_in true front_laid e₁

    pub front_less : rank c₁ < r * 2 + 1
    front_less = rank_below c₁ r (front_falls node_row.row e₁)

    module _ {path₂ : List ℤ} {z₁ : Bool} (d₁ : Did o t path₁ path₂ (depth + 1) c₁ z₁) where
      pub node_front : z₁ ≡ true → Did o t path path₂ depth r true
      node_front g = record {
        kept = side_kept true front_laid e₁ d₁;
        told = λ A B w pi st.
            subst (λ w. Decides true (Differs q own A B f j (cell_at path depth) w)) (as_node st)
            (front_told own (taken f) (After (operate q) own A B f j) h.other h.front_cuts h.back_cuts (side_told true front_laid e₁ d₁ A B w pi st) g);
      }

      -- behind it
      module _ (l₂ : length path₂ ≡ length path₁) where
        pub back_asked : PathIn path₂ depth × (depth * 9 + 9 ≤ length path₂)
        back_asked = keep_asked (side_kept true front_laid e₁ d₁) (l₂ ∙ l₁) node_deep h.side.meets.links node_room

        module _ {b : struct.Plane} (eb : plane b ≡ flip (plane p)) {path₃ : List ℤ} (k₃ : Pushed path₂ path₃ depth b nowhere) (l₃ : length path₃ ≡ length path₂) {c₂ : ℕ} (e₂ : c₂ ≡ get_or ns (3 * r + 2) 0) where
          back_laid : Laid path path₃ depth (flip other)
          back_laid = laid {h = b} (side_kept true front_laid e₁ d₁) (l₂ ∙ l₁) k₃ l₃ (eb ∙ ap flip ep) node_room

          pub back_in : SideIn o t path₃ (depth + 1) c₂
          back_in = side_in false back_laid e₂

          pub back_less : rank c₂ < r * 2 + 1
          back_less = rank_below c₂ r (back_falls node_row.row e₂)

          pub node_back : z₁ ≡ false → {path₄ : List ℤ} {z₂ : Bool} → Did o t path₃ path₄ (depth + 1) c₂ z₂ → Did o t path path₄ depth r z₂
          node_back g {path₄} {z₂} d₂ = record {
            kept = side_kept false back_laid e₂ d₂;
            told = λ A B w pi st.
                subst (λ w. Decides z₂ (Differs q own A B f j (cell_at path depth) w)) (as_node st)
                (both_told own (taken f) (After (operate q) own A B f j) h.other h.front_cuts h.back_cuts (side_told true front_laid e₁ d₁ A B w pi st) g (side_told false back_laid e₂ d₂ A B w pi st));
          }

-- ---- a side

meets_same : {xs : List ℤ} {n : ℕ} {path path' : List ℤ} {d : ℕ} → Meets xs n path d → Kept path path' d → length path' ≡ length path → Meets xs n path' d
meets_same {xs} {n} {d = d} m k l =
    let e = sym (cell_same k) in
    record { grounds = ground_in m.grounds l; own = m.own; on = subst (λ c. OnKept (plane_at xs n) (list xs) c d) e m.on; links = links_same k.rows m.links; cuts = subst (Cuts (plane_at xs n)) e m.cuts }

module _ {o : Operands} {t : Stage} {path : List ℤ} {depth c : ℕ} (h : SideIn o t path depth c) where
  abbrev ys : List ℤ
  ys = o.planes.now

  abbrev its : Plane
  its = plane_at ys t.plane

  abbrev q' : Operation
  q' = operation_of t.pair.op

  abbrev f' : Option Mark
  f' = above_of t.front

  abbrev j' : Option Mark
  j' = above_of t.above

  -- at a row
  module _ (low : c < 65534) where
    abbrev front : ℕ
    front = get_or (walked o t.above) (3 * c + 1) 0

    abbrev back : ℕ
    back = get_or (walked o t.above) (3 * c + 2) 0

    side_row : RowAt ys o.numbers.now (walked o t.above) (offset t.above) c h.here.tree
    side_row = as_row low h.here.stands

    pub pass_in : PassIn o t path depth c
    pass_in = record { meets = h.meets; plane = side_row.plane; row = side_row.row }

    module _ {path' : List ℤ} {y : std.Option ℕ} (d : PassTold o t path path' depth c y) where
      same_cell : cell_at path depth ≡ cell_at path' depth
      same_cell = sym (cell_same d.kept)

      passed : {x : std.Option ℕ} → y ≡ x → Passes its (plane_of o t c) (taken (above_of t.front)) (cell_at path depth) front back x
      passed e = subst (Passes its (plane_of o t c) (taken (above_of t.front)) (cell_at path depth) front back) e d.passes

      pub both_in : y ≡ None → length path' ≡ length path → NodeIn o t path' depth c
      both_in e l = by (passed e)
        where
          by : {f g : ℕ} → Passes its (plane_of o t c) (taken (above_of t.front)) (cell_at path depth) f g None → NodeIn o t path' depth c
          by (Passes.both n i j) = record {
            side = record { meets = meets_same h.meets d.kept l; here = h.here };
            row = low;
            other = n;
            front_cuts = subst (λ e. Cuts its (plane_of o t c ∷ e)) same_cell i;
            back_cuts = subst (λ e. Cuts its (half false (plane_of o t c) ∷ e)) same_cell j;
          }

      pub side_both : {path'' : List ℤ} {z : Bool} → Did o t path' path'' depth c z → Did o t path path'' depth c z
      side_both {path''} {z} k = record {
        kept = kept_both d.kept k.kept;
        told = λ A B w pi st. subst (λ e. Decides z (Differs q' its A B f' j' e w)) (sym same_cell) (k.told A B w pi st);
      }

      module _ {e : ℕ} (g : y ≡ Some e) where
        -- the code's tree, and what it tells of the row's
        onto : (A B : Tree) {w : Tree} (st : StandsIn o t.above c w)
            → Leads ys o.numbers.now (walked o t.above) (offset t.above) its (plane_of o t c) (taken f') (After (operate q') its A B f' j') (cell_at path depth) (as_row low st).front (as_row low st).back e
        onto A B st = let u = as_row low st in leads (After (operate q') its A B f' j') u.front_stands u.back_stands (passed g)

        pub code_falls : e < 65534 → e < c
        code_falls = leads_falls (passed g) side_row.row.front_less side_row.row.back_less

        pub code_in : length path' ≡ length path → SideIn o t path' depth e
        code_in l =
            let i = h.here in
            let u = onto i.tree_a i.tree_b i.stands in
            record { meets = meets_same h.meets d.kept l; here = at_tree i u.tree u.stands }

        pub side_code : {path'' : List ℤ} {z : Bool} → Did o t path' path'' depth e z → Did o t path path'' depth c z
        side_code {path''} {z} k = record {
          kept = kept_both d.kept k.kept;
          told = λ A B w pi st.
              let r = as_row low st in
              let u = onto A B st in
              subst (λ w. Decides z (Differs q' its A B f' j' (cell_at path depth) w)) (sym (r.is ∙ ap (λ p. node p r.front r.back) (sym r.row.plane)))
              (u.told (subst (λ e. Decides z (Differs q' its A B f' j' e u.tree)) (sym same_cell) (k.told A B u.tree pi u.stands)));
        }

  -- at a mark
  module _ (m : marks.Mark) (is : c ≡ mark_code m) where
    -- a leaf is told by what follows it
    told_leaf : {z : Bool} (A B w : Tree) → StandsIn o t.above c w → Decides z (After (operate q') its A B f' j' (cell_at path depth) (mark_of m)) → Decides z (Differs q' its A B f' j' (cell_at path depth) w)
    told_leaf {z} A B w st k = subst (λ w. Decides z (Differs q' its A B f' j' (cell_at path depth) w)) (sym (as_leaf m is st)) (leaf_told its (taken f') (After (operate q') its A B f' j') k)

    module _ {y : Next} (g : Follows t m y) where
      pub side_end : {z : Bool} → y ≡ Done z → Did o t path path depth c z
      side_end {z} e = record { kept = same_rows; told = λ A B w pi st. told_leaf A B w st (by A B (subst (Follows t m) e g)) }
        where
          by : (A B : Tree) → Follows t m (Done z) → Decides z (After (operate q') its A B f' j' (cell_at path depth) (mark_of m))
          by A B (at_end {a = a} {f = v} ea ef k) =
              subst (λ j. Decides z (After (operate q') its A B f' j (cell_at path depth) (mark_of m))) (sym (ap above_of ea))
              (subst (λ f. Decides z (After (operate q') its A B f (some (mark_of a)) (cell_at path depth) (mark_of m))) (sym (ap above_of ef)) k)

      module _ {u : Stage} {root : ℕ} (e : y ≡ Walk u root) where
        walks : Follows t m (Walk u root)
        walks = subst (Follows t m) e g

        pub walk_in : SideIn o u path depth root
        walk_in = by walks
          where
            by : {u : Stage} {root : ℕ} → Follows t m (Walk u root) → SideIn o u path depth root
            by (to_b i) = let h' = h.here in record { meets = h.meets; here = record { tree_a = h'.tree_a; tree_b = h'.tree_b; pair_is = h'.pair_is; tree = h'.tree_b; stands = h'.pair_is.second_stands } }
            by (to_backs ea ef ev) = let h' = h.here in record { meets = h.meets; here = record { tree_a = h'.tree_a; tree_b = h'.tree_b; pair_is = h'.pair_is; tree = h'.tree_a; stands = h'.pair_is.first_stands } }

        pub next_falls : left u + rank root < left t
        next_falls = walk_falls (code_small walk_in.here.stands) walks

        pub side_walk : {path' : List ℤ} {z : Bool} → Did o u path path' depth root z → Did o t path path' depth c z
        side_walk {path'} {z} d = record { kept = d.kept; told = λ A B w pi st. told_leaf A B w st (by A B pi d walks) }
          where
            by : {u : Stage} {root : ℕ} (A B : Tree) → PairIs o t.pair A B → Did o u path path' depth root z → Follows t m (Walk u root) → Decides z (After (operate q') its A B f' j' (cell_at path depth) (mark_of m))
            by A B pi d (to_b i) = subst (λ j. Decides z (After (operate q') its A B f' j (cell_at path depth) (mark_of m))) (sym (ap above_of i)) (below t.front d)
              where
                below : (f : std.Option marks.Mark) → Did o (staged t (Some m) f) path path' depth t.pair.br z → Decides z (After (operate q') its A B (above_of f) none (cell_at path depth) (mark_of m))
                below None d = d.told A B B pi pi.second_stands
                below (Some f) d = d.told A B B pi pi.second_stands
            by A B pi d (to_backs {a = a} {v = v} ea ef ev) =
                subst (λ j. Decides z (After (operate q') its A B f' j (cell_at path depth) (mark_of m))) (sym (ap above_of ea))
                (subst (λ f. Decides z (After (operate q') its A B f (some (mark_of a)) (cell_at path depth) (mark_of m))) (sym (ap above_of ef))
                (subst (λ n. Decides z (Differs q' its A B (some n) none (cell_at path depth) A)) ev (d.told A B A pi pi.first_stands)))

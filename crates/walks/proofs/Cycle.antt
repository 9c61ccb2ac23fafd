-- The node's walk and the side's walk: what each call is given, and what comes of its answer. One lemma for both sides of a node.
--     node_row, node_deep              the row, and room for one more half-space on the path
--     Pushed, front_pushed, back_pushed    a half-space of the row on the path
--     side_in, side_kept, side_emits    a side: what its walk is given, what it leaves of the path, and the rows that it put out
--     node_front, node_back, node_closed        the node's walk, from the answers of its sides
--     cut_in, code_in, below_in    what the calls of a side's walk are given
--     side_code, side_mark, side_b                  the side's walk, from the answers of these
use mathlib.Core.Path.{◌≡◌, refl, sym, ap, subst, ◌∙◌}
use mathlib.Core.Bool.{Bool, true, false}
use mathlib.Core.List.{List, ◌∷◌}
use mathlib.Core.Option.{Option}
use Prim.Native.Nat.{ℕ, suc, ◌+◌, ◌*◌, ◌≤◌, ◌<◌}
use native.Mathlib.Decide.{dec_le}
use native.Mathlib.Omega.{arith}
use lib.Dec.{eqb}
use borrow.Author.Tests.{eqb-true, eqb-false}
use lib.IntN.{ℤ, pos}
use lib.ListN.{length, get_or}
use Rattle.whole.specs.Tests.{is_true}
use Rattle.scope.specs.Planes.{Plane, flip, in_range}
use Rattle.scope.specs.Solids.{Mark, Tree, leaf, node, place}
use Rattle.scope.specs.Cells.{Cuts, end, join, Operation, operate}
use Rattle.walks.specs.declared.operations.Mark as marks
use Rattle.theory.specs.Cells.Sides.{half}
use Rattle.theory.specs.Cells.Path.{take, kept_few}
use Rattle.std.specs.Prelude.{Ok, Err, Option as Maybe, Some, None}
use Rattle.planes.specs.Values.{plane, meeting}
use Rattle.planes.specs.Bounds.{PlaneIn, in_range_in}
use Rattle.planes.specs.declared.Plane as struct
use Rattle.planes.specs.declared.Meeting.{Meeting}
use Rattle.tables.specs.Rows.{plane_at}
use Rattle.cells.specs.Paths as paths
use Rattle.cells.specs.Paths.{OnPath, PathIn, Witness}
use Rattle.cells.proofs.Paths.{on_rows, on_kept, on_links, links_same, on_same, pushed_before, on_push}
use Rattle.walks.specs.declared.Turn.{Turn}
use Rattle.walks.specs.declared.rows.Operands.{Operands}
use Rattle.walks.specs.declared.Reached as Reached
use Rattle.walks.specs.Standing.{offset, list, walked, number_at, RowIs, Stands}
use Rattle.walks.specs.Putting.{Walked as Answer, Room, Closed, Emitted}
use Rattle.walks.specs.Marks.{operation_of, mark_of, above_of, mark_code, EndsAs, in_b, alone}
use Rattle.walks.specs.Walks.{In, Ends, WalkedIn, Ground, StandsIn, Here, SideIn, NodeIn, ToCode, Leads, StepTold, Did}
use Rattle.walks.proofs.Marks.{asked_in_a}
use Rattle.walks.proofs.Emits.{room?, room_same, no_rows, done_same, got, mark_done, closed, front_lost, back_lost}
use Rattle.walks.proofs.Ways.{RowAt, as_row, as_leaf, code_small, BothSides, walk_cut, second_alone}

-- a path leads to one cell
cell_one : {Q : Plane → Type 0} {path : List ℤ} {d : ℕ} {c e : List Plane} → OnPath Q path d c → OnPath Q path d e → c ≡ e
cell_one h k = on_rows h ∙ sym (on_rows k)

-- a row's child: its code is the second entry for the front, the third for the back
abbrev pub child : Bool → ℕ
child true = 1
child false = 2

-- the result of one side of a node's walk
abbrev result : {J : Plane → Tree → Tree → Tree} {L : List Plane → Mark → Tree → Type 0} {c : List Plane} {p : Plane} {f b S : Tree} → Bool → BothSides J L c p f b S → Tree
result true bs = bs.front
result false bs = bs.back

-- a node that is closed has room for the rows that it says
closed_placed : {o₂ o₃ : List ℕ} {n₂ n f g : ℕ} {z : Answer} {e m : ℕ} → Closed o₂ o₃ n₂ n f g z → Room o₂ n₂ → z ≡ Ok (e, m) → Room o₂ m
closed_placed {o₂} {n₂ = n₂} {f = f} {g = g} {m = m} c w d = go (eqb f g) refl (dec_le 65534 f)
  where
    put : (f ≡ g → f < 65534) → Dec (Room o₂ (suc n₂)) → Room o₂ m
    put k (yes r) = subst (Room o₂) (sym (done_same d ((c.row k).fits r).0).1) r
    put k (no r) = absurd (no_rows ((c.row k).over r) d)

    go : (b : Bool) → eqb f g ≡ b → Dec (65534 ≤ f) → Room o₂ m
    go true i (yes l) = subst (Room o₂) (sym (done_same d (c.same (eqb-true f g i) l).0).1) w
    go true i (no l) = put (λ k. omega (arith, l)) (room? o₂ (suc n₂))
    go false i l = put (λ k. absurd (eqb-false f g i k)) (room? o₂ (suc n₂))

-- a child's code is a mark or an earlier row
pub front_falls : {xs : List ℤ} {numbers ns : List ℕ} {o r : ℕ} {p : Plane} {c : ℕ} → RowIs xs numbers ns o r p → c ≡ get_or ns (3 * r + 1) 0 → c < 65534 → c < r
front_falls {r = r} h e = subst (λ c. c < 65534 → c < r) (sym e) h.front_less

pub back_falls : {xs : List ℤ} {numbers ns : List ℕ} {o r : ℕ} {p : Plane} {c : ℕ} → RowIs xs numbers ns o r p → c ≡ get_or ns (3 * r + 2) 0 → c < 65534 → c < r
back_falls {r = r} h e = subst (λ c. c < 65534 → c < r) (sym e) h.back_less

-- ---- a node

module _ {o : Operands} {t : Turn} {path₀ : List ℤ} {depth : ℕ} {out₀ : List ℕ} {next r : ℕ} {x : Meeting} (h : NodeIn o t path₀ depth out₀ next r x) where
  abbrev ns : List ℕ
  ns = walked o t.above

  abbrev place_of : ℕ
  place_of = number_at o t.above r

  abbrev the_plane : Plane
  the_plane = plane_at o.planes.now place_of

  pub node_row : RowAt o.planes.now o.numbers.now ns (offset t.above) r h.side.here.tree
  node_row = as_row h.row h.side.here.stands

  own : RowIs o.planes.now o.numbers.now ns (offset t.above) r node_row.plane
  own = node_row.row

  plane_in : In o.planes.now the_plane
  plane_in = subst (In o.planes.now) (sym own.plane) (record { lawful = h.side.grounds.lawful node_row.plane own.member; member = own.member })

  cuts : Cuts the_plane h.side.here.cell
  cuts = record { point = meeting x; on = h.witness.on; inside = h.witness.inside }

  -- the plane's numbers are within the limits
  pub plane_ranged : {p : struct.Plane} → plane p ≡ the_plane → PlaneIn p.a p.b p.c p.d
  plane_ranged {p} e = subst (λ q. PlaneIn q.x q.y q.z q.w) (sym e) (in_range_in (is_true (in_range the_plane) plane_in.lawful.range))

  pub node_deep : depth < 128
  node_deep = omega (arith, kept_few (take true the_plane plane_in.member cuts (on_kept (λ p q. q.member) h.side.here.on)), h.side.grounds.few)

  pub node_room : depth * 9 + 9 ≤ length path₀
  node_room = omega (arith, node_deep, h.side.grounds.path_room)

  -- what a push is given, where the rows before are as they were
  pub push_asked : {path : List ℤ} → ((i : ℕ) → i < depth * 9 → get_or path i (pos 0) ≡ get_or path₀ i (pos 0)) → length path ≡ length path₀ → PathIn path depth × (depth * 9 + 9 ≤ length path)
  push_asked f l = (record { few = omega (arith, node_deep); room = omega (arith, l, node_room); links = links_same f (on_links h.side.here.on) }, omega (arith, l, node_room))

  -- a half-space of the row's plane stands in row `depth` of the path, and the rows before it are as they were
  pub record Pushed (s : Bool) (path path' : List ℤ) : Type 0 where
    pub half_space : struct.Plane
    pub is : plane half_space ≡ half s the_plane
    pub before : (i : ℕ) → i < depth * 9 → get_or path i (pos 0) ≡ get_or path₀ i (pos 0)
    pub long : length path ≡ length path₀
    pub table : paths.Pushed path path' depth half_space x
    pub long' : length path' ≡ length path

  -- its front first, and then its back
  module _ {p : struct.Plane} (e : plane p ≡ the_plane) where
    pub front_pushed : {path' : List ℤ} → paths.Pushed path₀ path' depth p x → length path' ≡ length path₀ → Pushed true path₀ path'
    front_pushed {path'} k l = record { half_space = p; is = e; before = λ i l. refl; long = refl; table = k; long' = l }

    pub back_pushed : {path path' : List ℤ} {b : struct.Plane} → plane b ≡ flip (plane p) → ((i : ℕ) → i < depth * 9 → get_or path i (pos 0) ≡ get_or path₀ i (pos 0)) → length path ≡ length path₀ → paths.Pushed path path' depth b x → length path' ≡ length path → Pushed false path path'
    back_pushed {b = b} f before long k l = record { half_space = b; is = f ∙ ap flip e; before = before; long = long; table = k; long' = l }

  module _ (s : Bool) {path path' : List ℤ} (k : Pushed s path path') where
    -- on the path is the half of the cell
    on_half : {c : List Plane} → OnPath (In o.planes.now) path₀ depth c → OnPath (In o.planes.now) path' (depth + 1) (half s the_plane ∷ c)
    on_half {c} on =
        let d : suc depth ≡ depth + 1 = omega arith in
        subst (λ d. OnPath (In o.planes.now) path' d (half s the_plane ∷ c)) d
        (on_push k.table (omega (arith, k.long, node_room)) (on_same on k.before) s the_plane plane_in k.is (subst (λ c. Witness the_plane c (meeting x)) (cell_one h.side.here.on on) h.witness))

    pub side_in : {out : List ℕ} {m c : ℕ} → c ≡ get_or ns (3 * r + child s) 0 → Room out m → SideIn o t path' (depth + 1) out m c
    side_in {out} {m} {c} e w = record {
      grounds = record { lawful = g.lawful; few = g.few; path_room = omega (arith, k.long, k.long', g.path_room) };
      here = record { tree = tree s; stands = subst (λ c. StandsIn o t.above c (tree s)) (sym e) (stands s); second = i.second; second_stands = i.second_stands; cell = half s the_plane ∷ i.cell; on = on_half i.on };
      room = w;
    }
      where
        g : Ground o.planes.now path₀
        g = h.side.grounds

        i : Here o t path₀ depth r
        i = h.side.here

        tree : Bool → Tree
        tree true = node_row.front
        tree false = node_row.back

        stands : (s : Bool) → StandsIn o t.above (get_or ns (3 * r + child s) 0) (tree s)
        stands true = node_row.front_stands
        stands false = node_row.back_stands

    module _ {path'' : List ℤ} {out out' : List ℕ} {m c : ℕ} {z : Answer} (e : c ≡ get_or ns (3 * r + child s) 0) (d : Did o t path' path'' (depth + 1) out out' m c z) where
      -- the rows of the path before this one are still as they were
      pub side_kept : (i : ℕ) → i < depth * 9 → get_or path'' i (pos 0) ≡ get_or path₀ i (pos 0)
      side_kept i l = d.kept i (omega (arith, l)) ∙ pushed_before k.table (omega (arith, k.long, node_room)) i l ∙ k.before i l

      module _ (w B S : Tree) (cell : List Plane) (st : StandsIn o t.above r w) (sb : Stands o.planes.now o.numbers.now o.b.now 64 t.root B) (on : OnPath (In o.planes.now) path₀ depth cell) where
        abbrev here : RowAt o.planes.now o.numbers.now ns (offset t.above) r w
        here = as_row h.row st

        -- one side of the walk of a node of the row's plane
        pub side_emits : (bs : BothSides join (Ends (operate (operation_of t.op)) B (above_of t.above)) cell the_plane here.front here.back S) → Emitted (list o.planes.now) out out' m (result s bs) z
        side_emits bs = d.emitted (tree s) B (result s bs) (half s the_plane ∷ cell) (subst (λ c. StandsIn o t.above c (tree s)) (sym e) (stands s)) sb (on_half on) (walk s)
          where
            tree : Bool → Tree
            tree true = here.front
            tree false = here.back

            stands : (s : Bool) → StandsIn o t.above (get_or ns (3 * r + child s) 0) (tree s)
            stands true = here.front_stands
            stands false = here.back_stands

            walk : (s : Bool) → WalkedIn (operation_of t.op) B (above_of t.above) (half s the_plane ∷ cell) (tree s) (result s bs)
            walk true = bs.front_walk
            walk false = bs.back_walk

  -- the two sides of the walk
  module _ (w B S : Tree) (cell : List Plane) (st : StandsIn o t.above r w) (on : OnPath (In o.planes.now) path₀ depth cell) where
    sides : WalkedIn (operation_of t.op) B (above_of t.above) cell w S → BothSides join (Ends (operate (operation_of t.op)) B (above_of t.above)) cell the_plane (as_row h.row st).front (as_row h.row st).back S
    sides W =
        let at = as_row h.row st in
        walk_cut (subst (Cuts the_plane) (cell_one h.side.here.on on) cuts) (subst (λ u. WalkedIn (operation_of t.op) B (above_of t.above) cell u S) (at.is ∙ ap (λ p. node p at.front at.back) (sym at.row.plane)) W)

  -- ---- the answers

  module _ {path₁ path₂ : List ℤ} {out₁ : List ℕ} {c₁ : ℕ} {z₁ : Answer} (k₁ : Pushed true path₀ path₁) (e₁ : c₁ ≡ get_or ns (3 * r + 1) 0) (d₁ : Did o t path₁ path₂ (depth + 1) out₀ out₁ next c₁ z₁) where
    pub node_front : {j : ℕ} → z₁ ≡ Err j → Did o t path₀ path₂ depth out₀ out₁ next r (Err j)
    node_front {j = i} f = record {
      kept = side_kept true k₁ e₁ d₁;
      placed = λ e m g. absurd (no_rows refl g);
      emitted = λ w B S cell st sb on W.
          let bs = sides w B S cell st on W in
          subst (λ S. Emitted (list o.planes.now) out₀ out₁ next S (Err i)) (sym bs.is) (front_lost the_plane bs.front bs.back f (side_emits true k₁ e₁ d₁ w B S cell st sb on bs));
    }

    module _ {f n₁ : ℕ} (g₁ : z₁ ≡ Ok (f, n₁)) (l₁ : length out₁ ≡ length out₀) {path₃ path₄ : List ℤ} {out₂ : List ℕ} {c₂ : ℕ} {z₂ : Answer} (k₂ : Pushed false path₂ path₃) (e₂ : c₂ ≡ get_or ns (3 * r + 2) 0) (d₂ : Did o t path₃ path₄ (depth + 1) out₁ out₂ n₁ c₂ z₂) where
      pub node_back : {j : ℕ} → z₂ ≡ Err j → Did o t path₀ path₄ depth out₀ out₂ next r (Err j)
      node_back {j = i} f = record {
        kept = side_kept false k₂ e₂ d₂;
        placed = λ e m g. absurd (no_rows refl g);
        emitted = λ w B S cell st sb on W.
            let bs = sides w B S cell st on W in
            subst (λ S. Emitted (list o.planes.now) out₀ out₂ next S (Err i)) (sym bs.is) (back_lost the_plane bs.front bs.back f (got g₁ (side_emits true k₁ e₁ d₁ w B S cell st sb on bs)) (side_emits false k₂ e₂ d₂ w B S cell st sb on bs));
      }

      module _ {g n₂ n : ℕ} (g₂ : z₂ ≡ Ok (g, n₂)) (l₂ : length out₂ ≡ length out₁) (en : n ≡ place_of) {out₃ : List ℕ} {z : Answer} (c : Closed out₂ out₃ n₂ n f g z) where
        own_place : n ≡ place (list o.planes.now) the_plane
        own_place = en ∙ own.place ∙ ap (place (list o.planes.now)) (sym own.plane)

        pub node_closed : Did o t path₀ path₄ depth out₀ out₃ next r z
        node_closed = record {
          kept = side_kept false k₂ e₂ d₂;
          placed = λ e m i. room_same (sym (l₂ ∙ l₁)) (closed_placed c (room_same l₂ (d₂.placed g n₂ g₂)) i);
          emitted = λ w B S cell st sb on W.
              let bs = sides w B S cell st on W in
              subst (λ S. Emitted (list o.planes.now) out₀ out₃ next S z) (sym bs.is)
              (closed the_plane (got g₁ (side_emits true k₁ e₁ d₁ w B S cell st sb on bs)) (got g₂ (side_emits false k₂ e₂ d₂ w B S cell st sb on bs)) (subst (λ n. Closed out₂ out₃ n₂ n f g z) own_place c));
        }

-- ---- a side

module _ {o : Operands} {t : Turn} {path : List ℤ} {depth : ℕ} {out : List ℕ} {next c : ℕ} (h : SideIn o t path depth out next c) where
  -- at a row
  module _ (low : c < 65534) where
    module _ {y : Reached.Reached} (d : StepTold o t.above path depth c y) where
      pub cut_in : {x : Meeting} → y ≡ Reached.TheVariants.Cut x → NodeIn o t path depth out next c x
      cut_in e =
          let i = h.here in
          record { side = record { grounds = h.grounds; here = i; room = h.room }; row = low; witness = subst (Leads o t.above c i.cell i.tree) e (d.leads i.cell i.tree i.on i.stands) }

      module _ {e : ℕ} (f : y ≡ Reached.TheVariants.Code e) where
        leads : (cell : List Plane) (w : Tree) → OnPath (In o.planes.now) path depth cell → StandsIn o t.above c w → ToCode o t.above cell w e
        leads cell w on st = subst (Leads o t.above c cell w) f (d.leads cell w on st)

        pub code_in : SideIn o t path depth out next e
        code_in =
            let i = h.here in
            let to = leads i.cell i.tree i.on i.stands in
            record {
              grounds = h.grounds;
              here = record { tree = to.tree; stands = to.stands; second = i.second; second_stands = i.second_stands; cell = i.cell; on = i.on };
              room = h.room;
            }

        pub side_code : {path' : List ℤ} {out' : List ℕ} {z : Answer} → Did o t path path' depth out out' next e z → Did o t path path' depth out out' next c z
        side_code k = record {
          kept = k.kept;
          placed = k.placed;
          emitted = λ w B S cell st sb on W. let to = leads cell w on st in k.emitted to.tree B S cell to.stands sb on (to.walk (operation_of t.op) B (above_of t.above) S W);
        }

  -- at a mark
  module _ (m : marks.Mark) (is : c ≡ mark_code m) where
    -- the walk of a leaf is the end of its mark
    ends_at : (w B S : Tree) (cell : List Plane) → StandsIn o t.above c w → WalkedIn (operation_of t.op) B (above_of t.above) cell w S → Ends (operate (operation_of t.op)) B (above_of t.above) cell (mark_of m) S
    ends_at w B S cell st W = by (subst (λ u. WalkedIn (operation_of t.op) B (above_of t.above) cell u S) (as_leaf m is st) W)
      where
        by : {x : Mark} → WalkedIn (operation_of t.op) B (above_of t.above) cell (leaf x) S → Ends (operate (operation_of t.op)) B (above_of t.above) cell x S
        by (end l) = l

    module _ {k : Maybe marks.Mark} (g : EndsAs (operation_of t.op) (above_of t.above) (mark_of m) k) where
      pub side_mark : {v : marks.Mark} {n : ℕ} → k ≡ Some v → n ≡ mark_code v → Did o t path path depth out out next c (Ok (n, next))
      side_mark {v} {n} f e = record {
        kept = λ i l. refl;
        placed = λ v' n i. subst (Room out) (done_same refl i).1 h.room;
        emitted = λ w B S cell st sb on W. subst (λ n. Emitted (list o.planes.now) out out next S (Ok (n, next))) (sym e) (by (operation_of t.op) B cell (ends_at w B S cell st W) (subst (EndsAs (operation_of t.op) (above_of t.above) (mark_of m)) f g));
      }
        where
          by : (q : Operation) (B : Tree) (cell : List Plane) {j : Option Mark} {x : Mark} {S : Tree} → Ends (operate q) B j cell x S → EndsAs q j x (Some v) → Emitted (list o.planes.now) out out next S (Ok (mark_code v, next))
          by q B cell {S = S} l (in_b i) = subst (λ S. Emitted (list o.planes.now) out out next S (Ok (mark_code v, next))) (sym (l ∙ ap leaf (sym i))) (mark_done (list o.planes.now) out next (mark_of v) h.room)
          by q B cell {S = S} l (alone i) = subst (λ S. Emitted (list o.planes.now) out out next S (Ok (mark_code v, next))) (sym (second_alone i l)) (mark_done (list o.planes.now) out next (mark_of v) h.room)

      -- B is walked from its root
      module _ (f : k ≡ None) where
        abbrev below : Turn
        below = record { op = t.op; root = t.root; above = Some m }

        pub in_a : t.above ≡ None
        in_a = asked_in_a (subst (EndsAs (operation_of t.op) (above_of t.above) (mark_of m)) f g)

        pub below_in : SideIn o below path depth out next t.root
        below_in =
            let i = h.here in
            record {
              grounds = h.grounds;
              here = record { tree = i.second; stands = i.second_stands; second = i.second; second_stands = i.second_stands; cell = i.cell; on = i.on };
              room = h.room;
            }

        pub root_low : t.root < 65534 → t.root < 1000
        root_low = code_small h.here.second_stands

        pub side_b : {path' : List ℤ} {out' : List ℕ} {z : Answer} → Did o below path path' depth out out' next t.root z → Did o t path path' depth out out' next c z
        side_b k = record {
          kept = k.kept;
          placed = k.placed;
          emitted = λ w B S cell st sb on W. k.emitted B B S cell sb sb on (subst (λ j. Ends (operate (operation_of t.op)) B (above_of j) cell (mark_of m) S) in_a (ends_at w B S cell st W));
        }

-- The halves of a cell: what each call is given, and what comes of its answer. One lemma for both halves.
--     listed_there, plane_ranged                the plane that splits the cell stands in the table, within the limits
--     halves_deep, push_front, push_back        room for one more half-space on the path
--     front_in, back_in                         the forms of the halves: what they are given
--     halves_front, halves_back, halves_put     the node, from the answers of its halves
use mathlib.Core.Path.{◌≡◌, refl, sym, ap, subst, ◌∙◌}
use mathlib.Core.Bool.{Bool, true, false}
use mathlib.Core.List.{List, ◌∷◌}
use Prim.Native.Nat.{ℕ, suc, ◌+◌, ◌*◌, ◌≤◌, ◌<◌}
use native.Mathlib.Omega.{arith}
use lib.IntN.{ℤ}
use lib.ListN.{length, get_or}
use Rattle.std.specs.Prelude.{Ok, Err}
use Rattle.whole.specs.Tests.{is_true}
use Rattle.scope.specs.Planes.{Plane, flip, in_range}
use Rattle.scope.specs.Solids.{Mark, Tree}
use Rattle.scope.specs.Cells.{Cuts}
use Rattle.scope.specs.Normal.{Normal, Uniform}
use Rattle.theory.specs.Cells.Sides.{half}
use Rattle.theory.specs.Cells.Path.{take, kept_few}
use Rattle.planes.specs.Values.{plane, meeting}
use Rattle.planes.specs.Bounds.{PlaneIn, in_range_in}
use Rattle.planes.specs.declared.Plane as struct
use Rattle.cells.specs.Paths.{OnPath, PathIn, Pushed, Witness}
use Rattle.cells.proofs.Paths.{on_rows, on_kept, on_links, on_same, pushed_before, on_push}
use Rattle.walks.specs.declared.rows.Operands.{Operands}
use Rattle.walks.specs.Standing.{list}
use Rattle.walks.specs.Putting.{Walked as Answer, Room, Put, Emitted}
use Rattle.walks.specs.Walks.{In}
use Rattle.walks.proofs.Emits.{room_same, no_rows, got}
use Rattle.borders.specs.declared.Pair.{Pair}
use Rattle.borders.specs.Bounded.{pair_space, listed}
use Rattle.borders.specs.Sides.{Kept, Own}
use Rattle.borders.proofs.Paths.{kept_fewer, kept_both, same_rows, keep_asked}
use Rattle.borders.proofs.Rows.{own_row}
use Rattle.splits.specs.declared.First.{First}
use Rattle.splits.specs.Splits.{Given, CellIn, Formed, HalvesIn, Halved}
use Rattle.splits.proofs.Rests.{rest_half}
use Rattle.splits.proofs.Shapes.{halves_differ}
use Rattle.splits.proofs.Nodes.{Apart, node_put, front_lost, back_lost, put_placed}

module _ {o : Operands} {bs : List ℕ} {t : Pair} {path₀ : List ℤ} {depth : ℕ} {out₀ : List ℕ} {next : ℕ} {f : First} (h : HalvesIn o bs t path₀ depth out₀ next f) where
  abbrev xs : List ℤ
  xs = o.planes.now

  abbrev the_plane : Plane
  the_plane = listed xs bs f.place

  own : Own xs (get_or bs f.place 0)
  own = own_row h.whole.ordered (get_or bs f.place 0) (h.whole.given.bounded.are f.place h.inside).0

  pub listed_there : 4 * get_or bs f.place 0 + 3 < length xs
  listed_there = own.there

  plane_in : In xs the_plane
  plane_in = record { lawful = h.whole.grounds.lawful the_plane own.member; member = own.member }

  cuts : Cuts the_plane h.whole.cell
  cuts = record { point = meeting f.point; on = h.witness.on; inside = h.witness.inside }

  pub halves_deep : depth < 128
  halves_deep = omega (arith, kept_few (take true the_plane plane_in.member cuts (on_kept (λ p q. q.member) h.whole.given.stood.on)), h.whole.grounds.few)

  halves_room : depth * 9 + 9 ≤ length path₀
  halves_room = omega (arith, halves_deep, h.whole.grounds.path_room)

  -- what a push is given, where the rows before are as they were
  push_asked : {path : List ℤ} → Kept path₀ path depth → length path ≡ length path₀ → PathIn path depth × (depth * 9 + 9 ≤ length path)
  push_asked k l = keep_asked k l halves_deep (on_links h.whole.given.stood.on) halves_room

  -- the forms of the halves of a cell that is not uniform are not one mark
  apart : (A B x y : Tree) (c : List Plane) → Given o bs t path₀ depth f.place A B c → ((m : Mark) → ¬ Uniform (pair_space t A B) c m) → Normal (pair_space t A B) (half true the_plane ∷ c) x → Normal (pair_space t A B) (half false the_plane ∷ c) y → Apart x y
  apart A B x y c i n v w = halves_differ {S = pair_space t A B} {c = c} {p = the_plane} (i.bounded.are f.place h.inside).1.member n v w

  -- a half-space of the listed plane stands in row `depth` of the path, and the rows before it are as they were
  module _ (s : Bool) {path path' : List ℤ} (k : Kept path₀ path depth) (l : length path ≡ length path₀) {p : struct.Plane} (e : plane p ≡ half s the_plane) (u : Pushed path path' depth p f.point) where
    room : depth * 9 + 9 ≤ length path
    room = omega (arith, l, halves_room)

    -- on the path is the half of the cell
    on_half : {c : List Plane} → OnPath (In xs) path₀ depth c → OnPath (In xs) path' (depth + 1) (half s the_plane ∷ c)
    on_half {c} on =
        let d : suc depth ≡ depth + 1 = omega arith in
        subst (λ d. OnPath (In xs) path' d (half s the_plane ∷ c)) d
        (on_push u room (on_same on k.rows) s the_plane plane_in e (subst (λ c. Witness the_plane c (meeting f.point)) (on_rows h.whole.given.stood.on ∙ sym (on_rows on)) h.witness))

    half_given : {A B : Tree} {c : List Plane} → Given o bs t path₀ depth f.place A B c → Given o bs t path' (depth + 1) (f.place + 1) A B (half s the_plane ∷ c)
    half_given g = record {
      stood = record { pair = g.stood.pair; on = on_half g.stood.on };
      bounded = g.bounded;
      rest = rest_half g.rest s;
    }

    half_in : length path' ≡ length path → {out : List ℕ} {m : ℕ} → Room out m → CellIn o bs t path' (depth + 1) out m (f.place + 1)
    half_in l' r =
        let g = h.whole.grounds in
        record {
          grounds = record { lawful = g.lawful; few = g.few; path_room = omega (arith, l, l', g.path_room) };
          ordered = h.whole.ordered;
          tree_a = h.whole.tree_a;
          tree_b = h.whole.tree_b;
          cell = half s the_plane ∷ h.whole.cell;
          given = half_given h.whole.given;
          room = r;
        }

    module _ {path'' : List ℤ} {out out' : List ℕ} {m : ℕ} {z : Answer} (d : Formed o bs t path' path'' (depth + 1) out out' m (f.place + 1) z) where
      -- the rows of the path before this one are still as they were
      half_kept : Kept path₀ path'' depth
      half_kept = kept_both k (kept_both (record { rows = pushed_before u room }) (kept_fewer (omega arith) d.kept))

      half_emits : (A B x : Tree) (c : List Plane) → Given o bs t path₀ depth f.place A B c → Normal (pair_space t A B) (half s the_plane ∷ c) x → Emitted (list xs) out out' m x z
      half_emits A B x c g n = d.emitted A B x (half s the_plane ∷ c) (half_given g) n

  -- ---- the halves

  pub push_front : PathIn path₀ depth × (depth * 9 + 9 ≤ length path₀)
  push_front = push_asked same_rows refl

  -- in front of the plane
  module _ {p : struct.Plane} (e : plane p ≡ the_plane) where
    -- the plane's numbers are within the limits
    pub plane_ranged : PlaneIn p.a p.b p.c p.d
    plane_ranged = subst (λ q. PlaneIn q.x q.y q.z q.w) (sym e) (in_range_in (is_true (in_range the_plane) plane_in.lawful.range))

    module _ {path₁ : List ℤ} (u₁ : Pushed path₀ path₁ depth p f.point) (l₁ : length path₁ ≡ length path₀) where
      pub front_in : CellIn o bs t path₁ (depth + 1) out₀ next (f.place + 1)
      front_in = half_in true same_rows refl {p = p} e u₁ l₁ h.whole.room

      module _ {path₂ : List ℤ} {out₁ : List ℕ} {z₁ : Answer} (d₁ : Formed o bs t path₁ path₂ (depth + 1) out₀ out₁ next (f.place + 1) z₁) where
        front_kept : Kept path₀ path₂ depth
        front_kept = half_kept true same_rows refl {p = p} e u₁ d₁

        pub halves_front : {j : ℕ} → z₁ ≡ Err j → Halved o bs t path₀ path₂ depth out₀ out₁ next f.place (Err j)
        halves_front i = record {
          kept = front_kept;
          placed = λ c m g. absurd (no_rows refl g);
          emitted = λ A B x y c g n v w. front_lost the_plane x y (apart A B x y c g n v w) i (half_emits true same_rows refl {p = p} e u₁ d₁ A B x c g v);
        }

        -- behind it
        module _ (l₂ : length path₂ ≡ length path₁) where
          pub push_back : PathIn path₂ depth × (depth * 9 + 9 ≤ length path₂)
          push_back = push_asked front_kept (l₂ ∙ l₁)

          module _ {fc n₁ : ℕ} (g₁ : z₁ ≡ Ok (fc, n₁)) (m₁ : length out₁ ≡ length out₀) {b : struct.Plane} (eb : plane b ≡ flip (plane p)) {path₃ : List ℤ} (u₃ : Pushed path₂ path₃ depth b f.point) (l₃ : length path₃ ≡ length path₂) where
            pub back_in : CellIn o bs t path₃ (depth + 1) out₁ n₁ (f.place + 1)
            back_in = half_in false front_kept (l₂ ∙ l₁) {p = b} (eb ∙ ap flip e) u₃ l₃ (room_same m₁ (d₁.placed fc n₁ g₁))

            module _ {path₄ : List ℤ} {out₂ : List ℕ} {z₂ : Answer} (d₂ : Formed o bs t path₃ path₄ (depth + 1) out₁ out₂ n₁ (f.place + 1) z₂) where
              back_kept : Kept path₀ path₄ depth
              back_kept = half_kept false front_kept (l₂ ∙ l₁) {p = b} (eb ∙ ap flip e) u₃ d₂

              front_emits : (A B x : Tree) (c : List Plane) → Given o bs t path₀ depth f.place A B c → Normal (pair_space t A B) (half true the_plane ∷ c) x → Emitted (list xs) out₀ out₁ next x z₁
              front_emits = half_emits true same_rows refl {p = p} e u₁ d₁

              back_emits : (A B y : Tree) (c : List Plane) → Given o bs t path₀ depth f.place A B c → Normal (pair_space t A B) (half false the_plane ∷ c) y → Emitted (list xs) out₁ out₂ n₁ y z₂
              back_emits = half_emits false front_kept (l₂ ∙ l₁) {p = b} (eb ∙ ap flip e) u₃ d₂

              pub halves_back : {j : ℕ} → z₂ ≡ Err j → Halved o bs t path₀ path₄ depth out₀ out₂ next f.place (Err j)
              halves_back i = record {
                kept = back_kept;
                placed = λ c m g. absurd (no_rows refl g);
                emitted = λ A B x y c g n v w. back_lost the_plane x y (apart A B x y c g n v w) i (got g₁ (front_emits A B x c g v)) (back_emits A B y c g w);
              }

              pub halves_put : {bc n₂ : ℕ} → z₂ ≡ Ok (bc, n₂) → length out₂ ≡ length out₁ → {n : ℕ} → n ≡ get_or bs f.place 0 → {out₃ : List ℕ} {z : Answer} → Put out₂ out₃ n₂ n fc bc z → Halved o bs t path₀ path₄ depth out₀ out₃ next f.place z
              halves_put {bc} {n₂} g₂ m₂ {n} en {out₃} {z} i = record {
                kept = back_kept;
                placed = λ c m g. room_same (sym (m₂ ∙ m₁)) (put_placed i g);
                emitted = λ A B x y c g k v w. node_put the_plane (apart A B x y c g k v w) (got g₁ (front_emits A B x c g v)) (got g₂ (back_emits A B y c g w)) (subst (λ n. Put out₂ out₃ n₂ n fc bc z) (en ∙ sym own.place) i);
              }

-- The form of a cell: what each call is given, and what comes of its answer.
--     scan_in, later, halves_in                 what the calls are given
--     form_uniform, form_split, form_nothing    the cell's form, from their answers; that no plane cuts is never answered
use mathlib.Core.Path.{◌≡◌, refl, sym, subst}
use mathlib.Core.List.{List}
use Prim.Native.Nat.{ℕ, ◌≤◌, ◌<◌}
use native.Mathlib.Omega.{arith}
use lib.IntN.{ℤ}
use lib.ListN.{length}
use Rattle.std.specs.Prelude.{Option, Some, None, Ok}
use Rattle.scope.specs.Planes.{Plane}
use Rattle.scope.specs.Solids.{Mark, Tree, mark, number}
use Rattle.scope.specs.Cells.{Cuts}
use Rattle.scope.specs.Normal as normal
use Rattle.scope.specs.Normal.{Space, both, Normal}
use Rattle.theory.specs.Cells.Uniform as theory
use Rattle.theory.specs.Planes.General.{General}
use Rattle.planes.specs.Values.{meeting}
use Rattle.cells.specs.Paths.{OnPath, Witness}
use Rattle.cells.proofs.Paths.{on_same}
use Rattle.walks.specs.declared.rows.Operands.{Operands}
use Rattle.walks.specs.Standing.{list}
use Rattle.walks.specs.Putting.{Walked as Answer, Room, Emitted}
use Rattle.walks.specs.Walks.{In}
use Rattle.walks.proofs.Emits.{done_same, mark_done}
use Rattle.walks.proofs.Ways.{on_inside}
use Rattle.walks.specs.Walks.{Ground}
use Rattle.borders.specs.declared.Pair.{Pair}
use Rattle.borders.specs.Bounded.{pair_space, listed}
use Rattle.borders.proofs.Paths.{kept_both}
use Rattle.borders.proofs.Rows.{both_general}
use Rattle.splits.specs.declared.First.{First}
use Rattle.splits.specs.Splits.{Stood, Given, MarkIs, is_uniform, is_mixed, MarkTold, ScanIn, FirstIs, first_at, nowhere, FirstTold, CellIn, Formed, HalvesIn, Halved}
use Rattle.splits.proofs.CellMarks.{on_within}
use Rattle.splits.proofs.Rests.{rest_on, listed_first, some_cuts}
use Rattle.splits.proofs.Shapes.{not_uniform, formed_leaf, Halves, formed_node}

module _ {o : Operands} {bs : List ℕ} {t : Pair} {path : List ℤ} {depth : ℕ} {out : List ℕ} {next k : ℕ} (h : CellIn o bs t path depth out next k) where
  abbrev xs : List ℤ
  xs = o.planes.now

  -- the planes of A and B are in general position
  space_general : {A B : Tree} {c : List Plane} → Stood o t path depth A B c → General (pair_space t A B).list
  space_general s = both_general h.grounds.lawful s.pair.first_stands s.pair.second_stands

  module _ {path' : List ℤ} {y : Option ℕ} (d : MarkTold o t path path' depth y) where
    -- a uniform cell is a leaf
    pub form_uniform : {m : ℕ} → y ≡ Some m → Formed o bs t path path' depth out out next k (Ok (m, next))
    form_uniform {m} e = record {
      kept = d.kept;
      placed = λ c n i. subst (Room out) (done_same {z = Ok (m, next)} refl i).1 h.room;
      emitted = λ A B s c g n. by A B s c g n (subst (MarkIs (pair_space t A B) c) e (d.told A B c g.stood));
    }
      where
        by : (A B s : Tree) (c : List Plane) → Given o bs t path depth k A B c → Normal (pair_space t A B) c s → {m : ℕ} → MarkIs (pair_space t A B) c (Some m) → Emitted (list xs) out out next s (Ok (m, next))
        by A B s c g n (is_uniform m u) = subst (λ s. Emitted (list xs) out out next s (Ok (number (mark m), next))) (sym (formed_leaf (space_general g.stood) (on_inside g.stood.on).1 u n)) (mark_done (list xs) out next m h.room)

    -- any other is not
    module _ (e : y ≡ None) where
      mixed : (A B : Tree) (c : List Plane) → Given o bs t path depth k A B c → theory.Mixed (pair_space t A B) c
      mixed A B c g = by (subst (MarkIs (pair_space t A B) c) e (d.told A B c g.stood))
        where
          by : {S : Space} → MarkIs S c None → theory.Mixed S c
          by (is_mixed m) = m

      kept_on : {c : List Plane} → OnPath (In xs) path depth c → OnPath (In xs) path' depth c
      kept_on on = on_same on d.kept.rows

      module _ (l : length path' ≡ length path) where
        ground_in : Ground xs path'
        ground_in = record { lawful = h.grounds.lawful; few = h.grounds.few; path_room = omega (arith, l, h.grounds.path_room) }

        pub scan_in : ScanIn xs bs path' depth
        scan_in = record { grounds = ground_in; places = λ i n. (h.given.bounded.are i n).0; cell = h.cell; on = kept_on h.given.stood.on }

      module _ {r : Option First} (w : FirstTold xs bs path' depth k (length bs) r) where
        -- some listed plane cuts a mixed cell
        pub form_nothing : r ≡ None → ⊥
        form_nothing e = by (subst (FirstIs xs bs h.cell k (length bs)) e (w h.cell (kept_on h.given.stood.on)))
          where
            by : FirstIs xs bs h.cell k (length bs) None → ⊥
            by (nowhere n) = some_cuts h.given.rest (space_general h.given.stood) (on_within h.given.stood.on) (mixed h.tree_a h.tree_b h.cell h.given) n

        module _ {f : First} (e' : r ≡ Some f) where
          -- the first listed plane that cuts a cell
          record Found (c : List Plane) : Type 0 where
            late : k ≤ f.place
            inside : f.place < length bs
            witness : Witness (listed xs bs f.place) c (meeting f.point)
            none : (j : ℕ) → k ≤ j → j < f.place → ¬ Cuts (listed xs bs j) c

          found : {c : List Plane} → OnPath (In xs) path depth c → Found c
          found {c} on = by (subst (FirstIs xs bs c k (length bs)) e' (w c (kept_on on)))
            where
              by : FirstIs xs bs c k (length bs) (Some f) → Found c
              by (first_at u v w n) = record { late = u; inside = v; witness = w; none = n }

          pub later : k ≤ f.place
          later = (found h.given.stood.on).late

          given_on : {A B : Tree} {c : List Plane} → Given o bs t path depth k A B c → Given o bs t path' depth f.place A B c
          given_on g = record {
            stood = record { pair = g.stood.pair; on = kept_on g.stood.on };
            bounded = g.bounded;
            rest = rest_on g.rest (found g.stood.on).none;
          }

          pub halves_in : length path' ≡ length path → HalvesIn o bs t path' depth out next f
          halves_in l = record {
            whole = record { grounds = ground_in l; ordered = h.ordered; tree_a = h.tree_a; tree_b = h.tree_b; cell = h.cell; given = given_on h.given; room = h.room };
            inside = (found h.given.stood.on).inside;
            witness = (found h.given.stood.on).witness;
          }

          pub form_split : {path'' : List ℤ} {out' : List ℕ} {z : Answer} → Halved o bs t path' path'' depth out out' next f.place z → Formed o bs t path path'' depth out out' next k z
          form_split {path''} {out'} {z} u = record { kept = kept_both d.kept u.kept; placed = u.placed; emitted = λ A B s c g n. by A B s c g (not_uniform (mixed A B c g)) (found g.stood.on) n }
            where
              by : (A B s : Tree) (c : List Plane) → Given o bs t path depth k A B c → ((m : Mark) → ¬ normal.Uniform (pair_space t A B) c m) → Found c → Normal (pair_space t A B) c s → Emitted (list xs) out out' next s z
              by A B s c g v r n = put (formed_node v (listed_first (given_on g).rest h.ordered g.bounded r.inside (record { point = meeting f.point; on = r.witness.on; inside = r.witness.inside })) n)
                where
                  put : Halves (pair_space t A B) c (listed xs bs f.place) s → Emitted (list xs) out out' next s z
                  put p = subst (λ s. Emitted (list xs) out out' next s z) (sym p.is) (u.emitted A B p.front p.back c (given_on g) v p.front_form p.back_form)

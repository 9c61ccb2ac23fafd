-- The rows of a tree as the tables of a solid, from the answers of the parts.
--     put_refused                 what comes of a walk that has no room
--     list_in                     what the listing is given
--     put_listed, put_not_listed  what comes of the listing, after a walk that has room
use mathlib.Core.Path.{◌≡◌, refl, sym, ap, subst, ◌∙◌}
use mathlib.Core.Bool.{Bool, true, false, cond}
use mathlib.Core.List.{List, []}
use Prim.Native.Nat.{ℕ, ◌+◌, ◌-◌, ◌*◌, ◌/◌, ◌≤◌}
use native.Mathlib.Omega.{arith}
use lib.Dec.{leb}
use borrow.Author.Tests.{le-leb, lt-leb, leb-true}
use lib.IntN.{ℤ, pos}
use lib.ListN.{length, replicate}
use lib.Seq.{sets}
use Rattle.std.specs.Prelude.{Ok, Err}
use Rattle.whole.specs.Tests.{◌and◌, differ}
use Rattle.whole.specs.Lists.{Each, each_app}
use Rattle.whole.specs.Lists as lists
use Rattle.whole.specs.Members.{◌∈◌, here, there, in_left, in_right, elem_small}
use Rattle.scope.specs.Limits.{most_planes, most_nodes}
use Rattle.scope.specs.Planes.{Plane}
use Rattle.scope.specs.Solids.{Tree, leaf, node, rows, planes, code, number, post, place, Entry, entries, ascending, Tables, tables, tables_of}
use Rattle.scope.specs.Judging.{Rooms}
use Rattle.scope.specs.Answers.{given, refused, flat_planes, flat_nodes, filled, fits_rooms, tree_answer}
use Rattle.theory.specs.Planes.Lists.{place_at}
use Rattle.theory.specs.Text.Filled.{filled_more}
use Rattle.theory.specs.Text.Renumber.{kept, kept_used, entries_renumbered}
use Rattle.theory.specs.Text.Stacks.{entries_node}
use Rattle.lists.specs.Lists.{number_below, HoldsRows, ListIn, ListedAs, used_by, TooMany, no_room, over_64, ListTold}
use Rattle.walks.specs.Standing.{list}
use Rattle.walks.specs.Putting.{Walked, Room, rows_flat}
use Rattle.walks.proofs.Emits.{Got, got, lost, rows_flat_length}
use Rattle.results.specs.Results.{rooms, given_of, Held, Outcome}
use Rattle.results.specs.Putting.{RowsOf, PutIn}
use Rattle.results.proofs.Trees.{entries_size}

-- ---- the answers of document 01

module _ (a : Rooms) (s : Tree) where
  abbrev used : ℕ
  used = length (ascending (planes s))

  no_fit : fits_rooms a s ≡ false → tree_answer a s ≡ refused 8
  no_fit e = ap (λ b. cond b (cond (leb used most_planes) (given (tables_of s)) (refused 9)) (refused 8)) e

  fit : rows s ≤ most_nodes → rows s ≤ a.node_rows → used ≤ a.plane_rows → tree_answer a s ≡ cond (leb used most_planes) (given (tables_of s)) (refused 9)
  fit h k l = ap (λ b. cond b (cond (leb used most_planes) (given (tables_of s)) (refused 9)) (refused 8)) (λ i. le-leb (rows s) most_nodes h i and le-leb (rows s) a.node_rows k i and le-leb used a.plane_rows l i)

-- ---- rows with the numbers of a list

number_each : (J : List Plane) (t : Tree) (k : ℕ) → ((p : Plane) → p ∈ planes t → p ∈ J) → Each (number_below (length J)) (entries J (post k t))
unfolding post
number_each J (leaf m) k s = lists.Each.none
number_each J (node p f b) k s = subst (Each (number_below (length J))) (sym (entries_node J k p f b)) (each_app (each_app (number_each J f k (λ q m. s q (there (in_left (planes b) m)))) (number_each J b (k + rows f) (λ q m. s q (there (in_right (planes f) m))))) (lists.Each.◌and◌ (elem_small J (place J p) {p = p} (place_at (s p (here refl)))) lists.Each.none))

module _ {xs : List ℤ} {blank nodes : List ℕ} {z : Walked} {s : Tree} (h : RowsOf xs blank nodes z s) where
  -- ---- a walk that has no room

  pub put_refused : (planes₀ : List ℤ) {planes₁ : List ℤ} {k : ℕ} → z ≡ Err k → Outcome (tree_answer (rooms planes₀ blank) s) planes₁ nodes (Err k)
  put_refused planes₀ {planes₁} {k} e = record { told = ap Err k_is ∙ ap given_of (sym no); held = λ a f. let q : refused 8 ≡ given a = sym no ∙ f in differ (cc) }
    where
      k_is : k ≡ 8
      k_is = let d : Err k ≡ Err 8 = sym e ∙ h.emitted.over (lost e h.emitted) in cc

      room_of : rows s ≤ most_nodes → rows s ≤ length blank / 3 → Room blank (0 + rows s)
      room_of a b = record { rows = omega (arith, b); few = omega (arith, a) }

      no : tree_answer (rooms planes₀ blank) s ≡ refused 8
      no = no_fit (rooms planes₀ blank) s (by (leb (rows s) most_nodes) refl (leb (rows s) (length blank / 3)) refl)
        where
          by : (b : Bool) → leb (rows s) most_nodes ≡ b → (c : Bool) → leb (rows s) (length blank / 3) ≡ c → fits_rooms (rooms planes₀ blank) s ≡ false
          by false eb c ec = λ i. eb i and leb (rows s) (length blank / 3) and leb (length (ascending (planes s))) (length planes₀ / 4)
          by true eb false ec = λ i. eb i and ec i and leb (length (ascending (planes s))) (length planes₀ / 4)
          by true eb true ec = absurd (lost e h.emitted (room_of (leb-true (rows s) most_nodes eb) (leb-true (rows s) (length blank / 3) ec)))

  -- ---- a walk that is done

  abbrev J : List Plane
  J = list xs

  module _ {root m : ℕ} (g : Got J blank nodes 0 s root m) where
    abbrev es : List Entry
    es = entries J (post 0 s)

    rows_are : m ≡ rows s
    rows_are = g.next_is ∙ omega arith

    table : nodes ≡ filled 0 (length nodes) (flat_nodes es)
    table =
        g.table ∙ ap (λ l. sets l (3 * 0) (rows_flat J 0 s)) (h.zero ∙ ap (λ k. replicate {A = ℕ} k 0) {x = length blank} {y = length blank - 0} (omega arith))
        ∙ ap (λ k. sets (filled 0 (length blank) []) k (rows_flat J 0 s)) {x = 3 * 0} {y = 0} (omega arith)
        ∙ filled_more 0 (length blank) [] (rows_flat J 0 s) (omega (arith, g.within.rows, rows_flat_length J 0 s))
        ∙ ap (λ k. filled 0 k (flat_nodes es)) (sym h.long)

    holds_rows : HoldsRows xs nodes m J es
    holds_rows = record {
      planes = h.in_order.table;
      few = h.in_order.few;
      rows = table;
      room = omega (arith, g.within.rows, h.long, g.next_is);
      count = entries_size J 0 s ∙ sym rows_are;
      few_rows = omega (arith, g.within.few, g.next_is);
      numbers = number_each J s 0 h.sub;
    }

    -- ---- what becomes of the listing

    used_list : kept (used_by es) 0 J ≡ ascending (planes s)
    used_list = kept_used h.in_order.order s h.sub

    used_count : length (kept (used_by es) 0 J) ≡ length (ascending (planes s))
    used_count = ap length used_list

    module _ (planes₀ planes₁ : List ℤ) (nodes'' : List ℕ) (lp : length planes₁ ≡ length planes₀) where
      rows_fit : (rows s ≤ most_nodes) × (rows s ≤ length blank / 3)
      rows_fit = (omega (arith, g.within.few), omega (arith, g.within.rows))

      pub put_listed : {c : ℕ} → ListTold xs planes₀ planes₁ nodes nodes'' m (Ok c) → Outcome (tree_answer (rooms planes₀ blank) s) planes₁ nodes'' (Ok (record { planes = c; nodes = m; root = root }))
      unfolding tables_of
      put_listed {c} t = record {
        told = (λ i. Ok (record { planes = (q.count ∙ used_count) i; nodes = (sym holds_rows.count ∙ counted) i; root = g.code_is i })) ∙ ap given_of (sym all);
        held = λ a f. subst (λ a. Held a planes₁ nodes'') (same a f) here_held;
      }
        where
          q : ListedAs J es planes₁ nodes'' c
          q = t J es holds_rows

          counted : length es ≡ length (entries (ascending (planes s)) (post 0 s))
          counted = entries_size J 0 s ∙ sym (entries_size (ascending (planes s)) 0 s)

          all : tree_answer (rooms planes₀ blank) s ≡ given (tables (ascending (planes s)) (entries (ascending (planes s)) (post 0 s)) (number (code 0 s)))
          all = fit (rooms planes₀ blank) s rows_fit.0 rows_fit.1 (omega (arith, q.room, q.count, used_count, lp)) ∙ ap (λ b. cond b (given (tables_of s)) (refused 9)) (le-leb (length (ascending (planes s))) most_planes (omega (arith, q.few, q.count, used_count)))

          same : (a : Tables) → tree_answer (rooms planes₀ blank) s ≡ given a → tables (ascending (planes s)) (entries (ascending (planes s)) (post 0 s)) (number (code 0 s)) ≡ a
          same a f = let k : given (tables (ascending (planes s)) (entries (ascending (planes s)) (post 0 s)) (number (code 0 s))) ≡ given a = sym all ∙ f in cc

          here_held : Held (tables (ascending (planes s)) (entries (ascending (planes s)) (post 0 s)) (number (code 0 s))) planes₁ nodes''
          here_held = record {
            planes = q.planes ∙ ap (λ k. filled (pos 0) (length planes₁) (flat_planes k)) used_list;
            nodes = q.rows ∙ ap (λ k. filled 0 (length nodes'') (flat_nodes k)) (entries_renumbered h.in_order.order s h.sub);
          }

      pub put_not_listed : {k : ℕ} → ListTold xs planes₀ planes₁ nodes nodes'' m (Err k) → Outcome (tree_answer (rooms planes₀ blank) s) planes₁ nodes'' (Err k)
      put_not_listed {k} t = let n = no (t J es holds_rows) in record { told = ap given_of (sym n); held = λ a f. let d : refused k ≡ given a = sym n ∙ f in differ (cc) }
        where
          no : {k : ℕ} → TooMany J es planes₀ k → tree_answer (rooms planes₀ blank) s ≡ refused k
          no (no_room u) = no_fit (rooms planes₀ blank) s ((λ i. le-leb (rows s) most_nodes rows_fit.0 i and le-leb (rows s) (length blank / 3) rows_fit.1 i and leb (length (ascending (planes s))) (length planes₀ / 4)) ∙ lt-leb (length (ascending (planes s))) (length planes₀ / 4) (omega (arith, u, used_count)))
          no (over_64 v u) = fit (rooms planes₀ blank) s rows_fit.0 rows_fit.1 (omega (arith, v, used_count)) ∙ ap (λ b. cond b (given (tables_of s)) (refused 9)) (lt-leb (length (ascending (planes s))) most_planes (omega (arith, u, used_count)))

-- ---- what the listing is given

pub list_in : {xs ps : List ℤ} {ns : List ℕ} {w : Walked} {root m : ℕ} → PutIn xs ps ns w → w ≡ Ok (root, m) → ListIn xs ps ns m
list_in {xs} h e = record { list = list xs; entries = _; held = holds_rows h.rows (got e h.rows.emitted); zeros = h.zeros }

-- The rows of a tree put out one after the other: those of the front, those of the back, and the node's own.
--     room?, room_less              whether there is room, and for fewer rows too
--     rows_flat_length              three numbers a row
--     no_rows, done_same            a refusal is no answer with rows, and such an answer is one
--     Got, got, lost                what an answer says of the tree whose rows were put out
--     row_put, closed               a node, of the rows of its two sides: its row is put out, or it is closed
--     front_lost, back_lost         a side whose rows have no room
--     mark_done                     a mark has no rows
use mathlib.Core.Path.{◌≡◌, refl, sym, ap, ◌∙◌}
use mathlib.Core.List.{List, [], ◌∷◌, ◌++◌}
use Prim.Native.Nat.{ℕ, suc, ◌+◌, ◌*◌, ◌≤◌, ◌<◌}
use native.Mathlib.Decide.{dec_le}
use native.Mathlib.Omega.{arith}
use lib.ListN.{length, length-append, set}
use lib.Seq.{sets, length-sets}
use Rattle.whole.specs.Tests.{differ}
use Rattle.scope.specs.Planes.{Plane}
use Rattle.scope.specs.Solids.{Mark, IN, OUT, Tree, leaf, node, rows, mark, code, number, post, place, Row, Entry, entry, entries}
use Rattle.scope.specs.Cells.{join}
use Rattle.scope.specs.Answers.{flat_nodes}
use Rattle.theory.specs.Text.Filled.{nodes_count}
use Rattle.theory.specs.Text.Rows.{post_length}
use Rattle.theory.specs.Text.Stacks.{last_row, entries_node}
use Rattle.std.specs.Prelude.{Ok, Err}
use Rattle.walks.specs.Putting.{Walked, Room, Put, Closed, rows_flat, Emitted}

-- ---- room

pub room? : (o : List ℕ) (n : ℕ) → Dec (Room o n)
room? o n = go (dec_le (3 * n) (length o)) (dec_le n 1000)
  where
    go : Dec (3 * n ≤ length o) → Dec (n ≤ 1000) → Dec (Room o n)
    go (yes p) (yes q) = yes (record { rows = p; few = q })
    go (yes p) (no q) = no (λ r. q r.few)
    go (no p) d = no (λ r. p r.rows)

pub room_less : {o : List ℕ} {n m : ℕ} → Room o n → m ≤ n → Room o m
room_less r h = record { rows = omega (arith, r.rows, h); few = omega (arith, r.few, h) }

pub room_same : {o u : List ℕ} {n : ℕ} → length u ≡ length o → Room o n → Room u n
room_same e r = record { rows = omega (arith, e, r.rows); few = r.few }

-- ---- stores, one after the other

sets_append : (xs l : List ℕ) (i : ℕ) (ys : List ℕ) → sets (sets l i xs) (i + length xs) ys ≡ sets l i (xs ++ ys)
sets_append [] l i ys = ap (λ n. sets l n ys) {x = i + 0} {y = i} (omega arith)
sets_append (x ∷ xs) l i ys = ap (λ n. sets (sets (set l i x) (suc i) xs) n ys) {x = i + suc (length xs)} {y = suc i + length xs} (omega arith) ∙ sets_append xs (set l i x) (suc i) ys

flat_append : (es ds : List Entry) → flat_nodes (es ++ ds) ≡ flat_nodes es ++ flat_nodes ds
unfolding flat_nodes
flat_append [] ds = refl
flat_append (entry n f b ∷ es) ds = ap (λ l. n ∷ f ∷ b ∷ l) (flat_append es ds)

entries_size : (J : List Plane) (rs : List Row) → length (entries J rs) ≡ length rs
entries_size J [] = refl
entries_size J (r ∷ rs) = ap suc (entries_size J rs)

pub rows_flat_length : (J : List Plane) (n : ℕ) (t : Tree) → length (rows_flat J n t) ≡ 3 * rows t
rows_flat_length J n t = nodes_count (entries J (post n t)) ∙ ap (λ k. 3 * k) (entries_size J (post n t) ∙ post_length n t)

rows_flat_node : (J : List Plane) (n : ℕ) (p : Plane) (f b : Tree) → rows_flat J n (node p f b) ≡ (rows_flat J n f ++ rows_flat J (n + rows f) b) ++ (place J p ∷ number (code n f) ∷ number (code (n + rows f) b) ∷ [])
unfolding flat_nodes
rows_flat_node J n p f b = ap flat_nodes (entries_node J n p f b) ∙ flat_append (entries J (post n f) ++ entries J (post (n + rows f) b)) (last_row J n p f b ∷ []) ∙ ap (λ l. l ++ (place J p ∷ number (code n f) ∷ number (code (n + rows f) b) ∷ [])) (flat_append (entries J (post n f)) (entries J (post (n + rows f) b)))

-- ---- what an answer says

-- an answer that is a refusal gives no rows, and one that is none gives one code and one number of rows
pub no_rows : {z : Walked} {j e m : ℕ} → z ≡ Err j → z ≡ Ok (e, m) → ⊥
no_rows {z} {j} {e} {m} f g = let d : ◌≡◌ {A = Walked} (Err j) (Ok (e, m)) = sym f ∙ g in differ (cc)

pub done_same : {z : Walked} {c m d n : ℕ} → z ≡ Ok (c, m) → z ≡ Ok (d, n) → (c ≡ d) × (m ≡ n)
done_same {z} {c} {m} {d} {n} f g = let e : ◌≡◌ {A = Walked} (Ok (c, m)) (Ok (d, n)) = sym f ∙ g in (ap (λ r. (of r).0) e, ap (λ r. (of r).1) e)
  where
    of : Walked → ℕ × ℕ
    of (Ok p) = p
    of (Err k) = (0, 0)

pub record Got (J : List Plane) (o₀ o₁ : List ℕ) (n : ℕ) (t : Tree) (c m : ℕ) : Type 0 where
  pub within : Room o₀ (n + rows t)
  pub code_is : c ≡ number (code n t)
  pub next_is : m ≡ n + rows t
  pub table : o₁ ≡ sets o₀ (3 * n) (rows_flat J n t)

pub got : {J : List Plane} {o₀ o₁ : List ℕ} {n : ℕ} {t : Tree} {r : Walked} {c m : ℕ} → r ≡ Ok (c, m) → Emitted J o₀ o₁ n t r → Got J o₀ o₁ n t c m
got {J} {o₀} {o₁} {n} {t} {r} {c} {m} e h = go (room? o₀ (n + rows t))
  where
    go : Dec (Room o₀ (n + rows t)) → Got J o₀ o₁ n t c m
    go (yes p) = let d = done_same e (h.fits p).0 in record { within = p; code_is = d.0; next_is = d.1; table = (h.fits p).1 }
    go (no q) = absurd (no_rows (h.over q) e)

pub lost : {J : List Plane} {o₀ o₁ : List ℕ} {n : ℕ} {t : Tree} {r : Walked} {k : ℕ} → r ≡ Err k → Emitted J o₀ o₁ n t r → ¬ Room o₀ (n + rows t)
lost e h p = no_rows e (h.fits p).0

got_length : {J : List Plane} {o₀ o₁ : List ℕ} {n : ℕ} {t : Tree} {c m : ℕ} → Got J o₀ o₁ n t c m → length o₁ ≡ length o₀
got_length {J} {o₀} {n = n} {t = t} g = ap length g.table ∙ length-sets o₀ (3 * n) (rows_flat J n t)

pub mark_done : (J : List Plane) (o : List ℕ) (n : ℕ) (m : Mark) → Room o n → Emitted J o o n (leaf m) (Ok (number (mark m), n))
unfolding code rows post flat_nodes
mark_done J o n m h = let e : n ≡ n + 0 = omega arith in record { fits = λ w. (ap (λ k. Ok (number (mark m), k)) e, refl); over = λ w. absurd (w (room_less h (omega arith))) }

-- ---- a node

row_small : {J : List Plane} {o₀ o₁ : List ℕ} {n : ℕ} {p : Plane} {f b : Tree} {c m : ℕ} → Got J o₀ o₁ n (node p f b) c m → c < 65534
unfolding code rows
row_small g = omega (arith, g.within.few, g.code_is)

module _ {J : List Plane} {o₀ o₁ o₂ o₃ : List ℕ} {n fc bc n₁ n₂ : ℕ} {r : Walked} (p : Plane) where
  -- a row is put out
  pub row_put : {x y : Tree} → Got J o₀ o₁ n x fc n₁ → Got J o₁ o₂ n₁ y bc n₂ → Put o₂ o₃ n₂ (place J p) fc bc r → Emitted J o₀ o₃ n (node p x y) r
  unfolding code rows
  row_put {x} {y} g h e = record { fits = fits; over = λ w. e.over (λ k. w (room_same (sym long) (room_less k (omega (arith, g.next_is, h.next_is))))) }
    where
      long : length o₂ ≡ length o₀
      long = got_length h ∙ got_length g

      end : n₂ ≡ n + rows x + rows y
      end = omega (arith, g.next_is, h.next_is)

      own : List ℕ
      own = place J p ∷ fc ∷ bc ∷ []

      both : sets o₂ (3 * n₂) own ≡ sets o₀ (3 * n) ((rows_flat J n x ++ rows_flat J n₁ y) ++ own)
      both =
          ap (λ o. sets o (3 * n₂) own) (h.table ∙ ap (λ o. sets o (3 * n₁) (rows_flat J n₁ y)) g.table ∙ ap (λ i. sets (sets o₀ (3 * n) (rows_flat J n x)) i (rows_flat J n₁ y)) {x = 3 * n₁} {y = 3 * n + length (rows_flat J n x)} (omega (arith, g.next_is, rows_flat_length J n x)) ∙ sets_append (rows_flat J n x) o₀ (3 * n) (rows_flat J n₁ y))
          ∙ ap (λ i. sets (sets o₀ (3 * n) (rows_flat J n x ++ rows_flat J n₁ y)) i own) {x = 3 * n₂} {y = 3 * n + length (rows_flat J n x ++ rows_flat J n₁ y)} (omega (arith, g.next_is, h.next_is, rows_flat_length J n x, rows_flat_length J n₁ y, length-append (rows_flat J n x) (rows_flat J n₁ y)))
          ∙ sets_append (rows_flat J n x ++ rows_flat J n₁ y) o₀ (3 * n) own

      fits : Room o₀ (n + suc (rows x + rows y)) → (r ≡ Ok (n + rows x + rows y, n + suc (rows x + rows y))) × (o₃ ≡ sets o₀ (3 * n) (rows_flat J n (node p x y)))
      fits w =
          let q = e.fits (room_same long (room_less w (omega (arith, end)))) in
          let s : suc n₂ ≡ n + suc (rows x + rows y) = omega (arith, end) in (
            q.0 ∙ (λ i. Ok (end i, s i)),
            q.1 ∙ both ∙ (λ i. sets o₀ (3 * n) ((rows_flat J n x ++ rows_flat J (g.next_is i) y) ++ (place J p ∷ g.code_is i ∷ (h.code_is ∙ ap (λ k. number (code k y)) g.next_is) i ∷ []))) ∙ ap (sets o₀ (3 * n)) (sym (rows_flat_node J n p x y)),
          )

  -- two equal marks
  joined : (m : Mark) → Got J o₀ o₁ n (leaf m) fc n₁ → Got J o₁ o₂ n₁ (leaf m) bc n₂ → Closed o₂ o₃ n₂ (place J p) fc bc r → Emitted J o₀ o₃ n (leaf m) r
  unfolding code rows post flat_nodes
  joined m g h e =
      let q = e.same (g.code_is ∙ sym h.code_is) (high m g.code_is) in
      let s : n₂ ≡ n + 0 = omega (arith, g.next_is, h.next_is) in
      record { fits = λ w. (q.0 ∙ (λ i. Ok (g.code_is i, s i)), q.1 ∙ h.table ∙ g.table); over = λ w. absurd (w g.within) }
    where
      high : (m : Mark) → fc ≡ number (mark m) → 65534 ≤ fc
      high IN e = omega (arith, e)
      high OUT e = omega (arith, e)

  -- a node is closed
  pub closed : {x y : Tree} → Got J o₀ o₁ n x fc n₁ → Got J o₁ o₂ n₁ y bc n₂ → Closed o₂ o₃ n₂ (place J p) fc bc r → Emitted J o₀ o₃ n (join p x y) r
  unfolding join code
  closed {x = leaf IN} {y = leaf IN} g h e = joined IN g h e
  closed {x = leaf IN} {y = leaf OUT} g h e = row_put g h (e.row (λ d. absurd (omega (arith, d, g.code_is, h.code_is))))
  closed {x = leaf OUT} {y = leaf IN} g h e = row_put g h (e.row (λ d. absurd (omega (arith, d, g.code_is, h.code_is))))
  closed {x = leaf OUT} {y = leaf OUT} g h e = joined OUT g h e
  closed {x = leaf m} {y = node q f b} g h e = row_put g h (e.row (λ d. omega (arith, d, row_small h)))
  closed {x = node q f b} {y = y} g h e = row_put g h (e.row (λ d. row_small g))

-- ---- no room

join_rows : (p : Plane) (x y : Tree) → rows x + rows y ≤ rows (join p x y)
unfolding join rows
join_rows p (leaf IN) (leaf IN) = omega arith
join_rows p (leaf IN) (leaf OUT) = omega arith
join_rows p (leaf OUT) (leaf IN) = omega arith
join_rows p (leaf OUT) (leaf OUT) = omega arith
join_rows p (leaf m) (node q f b) = omega arith
join_rows p (node q f b) y = omega arith

module _ {J : List Plane} {o₀ o₁ : List ℕ} {n k : ℕ} {r : Walked} (p : Plane) (x y : Tree) (e : r ≡ Err k) where
  pub front_lost : Emitted J o₀ o₁ n x r → Emitted J o₀ o₁ n (join p x y) (Err k)
  front_lost h = let l = lost e h in record { fits = λ w. absurd (l (room_less w (omega (arith, join_rows p x y)))); over = λ w. sym e ∙ h.over l }

  pub back_lost : {o₂ : List ℕ} {c n₁ : ℕ} → Got J o₀ o₁ n x c n₁ → Emitted J o₁ o₂ n₁ y r → Emitted J o₀ o₂ n (join p x y) (Err k)
  back_lost g h =
      let l = lost e h in
      record { fits = λ w. absurd (l (room_same (got_length g) (room_less w (omega (arith, g.next_is, join_rows p x y))))); over = λ w. sym e ∙ h.over l }

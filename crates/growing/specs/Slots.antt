-- The form that is begun, in its table: what a slot holds, the row in it with its two slots, and what a change below a slot did.
--     Slot, slot_tree, slot_mark     the tree in a slot; its code tells whether it is a row or a mark
--     Grew, grew_..                  a change below a slot: rows only become more
--     field_of, rows_of              the field and the row numbers of a side; a side's tree is Begun's child
--     RowIn, slot_row, row_slot      the row in a slot, and the slots of its halves
--     put_row, put_side              a half of it has grown: the row, and the slot above it
--     made_slot                      a leaf has become a row
use Rattle.std.specs.Prelude.{◌≡◌, Bool, List, [], ◌∷◌, ◌++◌, ℕ, suc, ◌+◌, ◌*◌, ◌≤◌, ◌<◌, get_or}
use Rattle.std.proofs.Math.Path.{refl}
use Rattle.std.proofs.Common.{sym, subst, inl, inr, arith}
use Rattle.std.proofs.Math.Bool.{true, false}
use Rattle.std.proofs.Math.Option.{some}
use Rattle.std.proofs.Math.ListN.{get_elem?}
use Rattle.whole.specs.Members.{◌∈◌, here, there, in_left, in_right, in_either}
use Rattle.scope.specs.Planes.{Plane, flip}
use Rattle.scope.specs.Solids.{Mark, IN, OUT, Tree, leaf, node, rows, mark, number}
use Rattle.scope.specs.Normal.{Space, First}
use Rattle.theory.specs.Cells.Sides.{half}
use Rattle.theory.specs.Cells.Uniform.{Mixed}
use Rattle.growing.specs.Begun.{Right, Begun, a_leaf, child, Under, stays, grows, under_none, under_then}
use Rattle.growing.specs.Table.{Holds, a_mark, holds_rows, Effect, effect_none, effect_then, effect_front, effect_back, More, more_none, more_then, more_front, more_back}
use Rattle.growing.specs.Table.{Made, made_holds, made_effect, made_more, RowAt, row_holds, holds_row, put_front, put_back}

-- ---- slots

module _ (S : Space) (ls : List Plane) where
  -- m rows and row 0 stand; field k of row u holds the tree t, begun in the cell c, whose rows are rs
  pub record Slot (ns : List ℕ) (m u k : ℕ) (c : List Plane) (t : Tree) (rs : List ℕ) : Type 0 where
    pub field : k < 3
    pub row : u < suc m
    pub low : (x : ℕ) → x ∈ rs → x < suc m
    pub holds : Holds ls ns u k t rs
    pub begun : Begun S c t

mark_large : (m : Mark) → 65534 ≤ number (mark m)
mark_large IN = omega arith
mark_large OUT = omega arith

module _ {S : Space} {ls : List Plane} {ns : List ℕ} {m u k : ℕ} {c : List Plane} {t : Tree} {rs : List ℕ} (s : Slot S ls ns m u k c t rs) where
  pub slot_tree : get_or ns (3 * u + k) 0 < 65534 → (q : Plane) × (f : Tree) × (b : Tree) × (t ≡ node q f b)
  slot_tree l = go l s.holds
    where
      go : {t : Tree} {rs : List ℕ} → get_or ns (3 * u + k) 0 < 65534 → Holds ls ns u k t rs → (q : Plane) × (f : Tree) × (b : Tree) × (t ≡ node q f b)
      go l (a_mark i e) = absurd (omega (arith, mark_large i))
      go l (Holds.a_row {p = p} {f = f} {b = b} e h j g x y d) = (p, f, b, refl)

  pub slot_mark : 65534 ≤ get_or ns (3 * u + k) 0 → (i : Mark) × (t ≡ leaf i) × (rs ≡ [])
  slot_mark l = go l s.holds
    where
      go : {t : Tree} {rs : List ℕ} → 65534 ≤ get_or ns (3 * u + k) 0 → Holds ls ns u k t rs → (i : Mark) × (t ≡ leaf i) × (rs ≡ [])
      go l (a_mark i e) = (i, refl, refl)
      go l (Holds.a_row e h j g x y d) = absurd (omega arith)

-- ---- what a change below a slot did

pub record Grew (ns ns' : List ℕ) (m m' u k : ℕ) (t t' : Tree) (rs rs' : List ℕ) : Type 0 where
  pub more : More rs rs' (suc m) (suc m')
  pub effect : Effect ns ns' (suc m) (suc m') u k rs
  pub under : Under t t'

pub grew_none : (ns : List ℕ) (m u k : ℕ) (t : Tree) (rs : List ℕ) → Grew ns ns m m u k t t rs rs
grew_none ns m u k t rs = record { more = more_none rs (suc m); effect = effect_none ns (suc m) u k rs; under = under_none t }

module _ {ns ns' : List ℕ} {m m' u k : ℕ} {t t' : Tree} {rs rs' : List ℕ} (g : Grew ns ns' m m' u k t t' rs rs') where
  pub grew_then : {ns'' : List ℕ} {m'' : ℕ} {t'' : Tree} {rs'' : List ℕ} → Grew ns' ns'' m' m'' u k t' t'' rs' rs'' → Grew ns ns'' m m'' u k t t'' rs rs''
  grew_then h = record { more = more_then g.effect.more h.effect.more g.more h.more; effect = effect_then g.more g.effect h.effect; under = under_then g.under h.under }

  -- new rows are the tree's
  pub grew_count : {ls : List Plane} → Holds ls ns u k t rs → Holds ls ns' u k t' rs' → m' + rows t ≡ m + rows t'
  grew_count h h' = omega (arith, g.more.count, holds_rows h, holds_rows h')

-- ---- the row in a slot

-- the field of a row that holds its front, or its back
abbrev pub field_of : Bool → ℕ
field_of true = 1
field_of false = 2

abbrev pub rows_of : Bool → List ℕ → List ℕ → List ℕ
rows_of true fs bs = fs
rows_of false fs bs = bs

pub record RowIn (S : Space) (ls : List Plane) (ns : List ℕ) (m u k : ℕ) (c : List Plane) (q : Plane) (f b : Tree) (rs : List ℕ) : Type 0 where
  pub r : ℕ
  pub fs : List ℕ
  pub bs : List ℕ
  pub rows_are : rs ≡ r ∷ (fs ++ bs)
  pub code : get_or ns (3 * u + k) 0 ≡ r
  pub field : k < 3
  pub few : r < 65534
  pub positive : u < r
  pub low : r < suc m
  pub place : get_elem? ls (get_or ns (3 * r) 0) ≡ some q
  pub mixed : Mixed S c
  pub first : First S c q
  pub side : (s : Bool) → Slot S ls ns m r (field_of s) (half s q ∷ c) (child s f b) (rows_of s fs bs)
  pub apart : (x : ℕ) → x ∈ fs → ¬ (x ∈ bs)

module _ {S : Space} {ls : List Plane} {ns : List ℕ} {m u k : ℕ} {c : List Plane} {q : Plane} {f b : Tree} where
  row_made : {r : ℕ} (fs bs : List ℕ) → k < 3 → RowAt ls ns (suc m) u k r q f b fs bs → Mixed S c → First S c q → Begun S (q ∷ c) f → Begun S (flip q ∷ c) b → RowIn S ls ns m u k c q f b (r ∷ (fs ++ bs))
  row_made {r} fs bs kk w x y v v' = record {
    r = r;
    fs = fs;
    bs = bs;
    rows_are = refl;
    code = w.code;
    field = kk;
    few = w.few;
    positive = w.later;
    low = w.low r (here refl);
    place = w.place;
    mixed = x;
    first = y;
    side = side;
    apart = w.apart;
  }
    where
      side : (s : Bool) → Slot S ls ns m r (field_of s) (half s q ∷ c) (child s f b) (rows_of s fs bs)
      side true = record { field = omega arith; row = w.low r (here refl); low = λ x i. w.low x (there (in_left bs i)); holds = w.front; begun = v }
      side false = record { field = omega arith; row = w.low r (here refl); low = λ x i. w.low x (there (in_right fs i)); holds = w.back; begun = v' }

  pub slot_row : {rs : List ℕ} → Slot S ls ns m u k c (node q f b) rs → RowIn S ls ns m u k c q f b rs
  slot_row {rs} s = go s.begun
    where
      go : Begun S c (node q f b) → RowIn S ls ns m u k c q f b rs
      go (Begun.a_row x y v v') = let w = holds_row s.low s.holds in subst (RowIn S ls ns m u k c q f b) (sym w.rows_are) (row_made w.fs w.bs s.field w.row x y v v')

  module _ {rs : List ℕ} (w : RowIn S ls ns m u k c q f b rs) where
    row_at : RowAt ls ns (suc m) u k w.r q f b w.fs w.bs
    row_at = record {
      code = w.code;
      later = w.positive;
      few = w.few;
      place = w.place;
      front = (w.side true).holds;
      back = (w.side false).holds;
      apart = w.apart;
      low = λ x i. low x i;
    }
      where
        low : (x : ℕ) → x ∈ (w.r ∷ (w.fs ++ w.bs)) → x < suc m
        low x (here e) = subst (λ y. y < suc m) (sym e) w.low
        low x (there i) = elim (in_either w.fs w.bs i) [ inl j ↦ (w.side true).low x j | inr j ↦ (w.side false).low x j ]

    pub row_slot : Slot S ls ns m u k c (node q f b) rs
    row_slot = record {
      field = w.field;
      row = omega (arith, w.positive, w.low);
      low = λ x i. row_at.low x (subst (λ xs. x ∈ xs) w.rows_are i);
      holds = subst (Holds ls ns u k (node q f b)) (sym w.rows_are) (row_holds w.fs w.bs row_at);
      begun = Begun.a_row w.mixed w.first (w.side true).begun (w.side false).begun;
    }

-- a half of the row r has grown: the row as it stands then, of the same number, and what was done below the slot above it
pub record Put (S : Space) (ls : List Plane) (ns ns' : List ℕ) (m m' u k r : ℕ) (c : List Plane) (q : Plane) (f b f' b' : Tree) (rs : List ℕ) : Type 0 where
  pub numbers : List ℕ
  pub row : RowIn S ls ns' m' u k c q f' b' numbers
  pub same : row.r ≡ r
  pub grew : Grew ns ns' m m' u k (node q f b) (node q f' b') rs numbers

module _ {S : Space} {ls : List Plane} {ns ns' : List ℕ} {m m' u k : ℕ} {c : List Plane} {q : Plane} {f b x : Tree} {rs xs : List ℕ} (w : RowIn S ls ns m u k c q f b rs) where
  -- what the call for the half on side s gave
  put_made : (s : Bool) → Slot S ls ns' m' w.r (field_of s) (half s q ∷ c) x xs → Grew ns ns' m m' w.r (field_of s) (child s f b) x (rows_of s w.fs w.bs) xs
      → Put S ls ns ns' m m' u k w.r c q f b (child s x f) (child s b x) (w.r ∷ (w.fs ++ w.bs))
  unfolding row_made
  put_made true h g = record {
    numbers = w.r ∷ (xs ++ w.bs);
    row = row_made xs w.bs w.field (put_front (row_at w) w.field g.effect g.more h.holds) w.mixed w.first h.begun (w.side false).begun;
    same = refl;
    grew = record { more = more_front w.fs w.bs xs g.more; effect = effect_front w.fs w.bs g.effect; under = grows refl g.under (under_none b) };
  }
  put_made false h g = record {
    numbers = w.r ∷ (w.fs ++ xs);
    row = row_made w.fs xs w.field (put_back (row_at w) w.field g.effect g.more h.holds) w.mixed w.first (w.side true).begun h.begun;
    same = refl;
    grew = record { more = more_back w.fs w.bs xs g.more; effect = effect_back w.fs w.bs g.effect; under = grows refl (under_none f) g.under };
  }

  module _ (s : Bool) (h : Slot S ls ns' m' w.r (field_of s) (half s q ∷ c) x xs) (g : Grew ns ns' m m' w.r (field_of s) (child s f b) x (rows_of s w.fs w.bs) xs) where
    pub put_row : Put S ls ns ns' m m' u k w.r c q f b (child s x f) (child s b x) rs
    put_row = subst (Put S ls ns ns' m m' u k w.r c q f b (child s x f) (child s b x)) (sym w.rows_are) (put_made s h g)

    pub put_side : (rs' : List ℕ) × Slot S ls ns' m' u k c (node q (child s x f) (child s b x)) rs' × Grew ns ns' m m' u k (node q f b) (node q (child s x f) (child s b x)) rs rs'
    put_side = (put_row.numbers, row_slot put_row.row, put_row.grew)

-- ---- a leaf has become a row

pub made_slot : {S : Space} {ls : List Plane} {ns ns' : List ℕ} {m u k : ℕ} {c : List Plane} {q : Plane} {i a b : Mark} → Slot S ls ns m u k c (leaf i) [] → suc m < 65534 → Mixed S c → First S c q
    → Right S (q ∷ c) a → Right S (flip q ∷ c) b → Made ls ns ns' (suc m) u k q a b
    → Slot S ls ns' (suc m) u k c (node q (leaf a) (leaf b)) (suc m ∷ []) × Grew ns ns' m (suc m) u k (leaf i) (node q (leaf a) (leaf b)) [] (suc m ∷ [])
made_slot {m = m} s l x f v w d = (
  record {
    field = s.field;
    row = omega (arith, s.row);
    low = λ y i. elim i [ here e ↦ omega arith | there j ↦ elim j [ ] ];
    holds = made_holds d s.row l;
    begun = Begun.a_row x f (a_leaf v) (a_leaf w);
  },
  record { more = made_more (suc m); effect = made_effect d; under = stays },
)

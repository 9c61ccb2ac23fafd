-- What the steps of joining and of listing promise.
--     Half, Joining                a list taken up to row i, and the joined list so far
--     NextIn, Sooner               which plane comes next
--     TakeIn, TakeTold             one plane more
--     marked                       which planes a table of marks has
--     MarkIn and below             marking, ranking, putting, and numbering by ranks
use Rattle.std.specs.Prelude.{◌≡◌, Bool, false, List, ◌++◌, ℕ, ◌+◌, ◌*◌, ◌/◌, ◌≤◌, ◌<◌, ℤ, pos, length, get_or, take, drop, replicate}
use Rattle.whole.specs.Members.{◌∈◌}
use Rattle.scope.specs.Planes.{Plane}
use Rattle.scope.specs.Solids.{place}
use Rattle.scope.specs.Judging.{uses}
use Rattle.scope.specs.Answers.{flat_planes, flat_nodes, filled}
use Rattle.theory.specs.Planes.Order.{Before}
use Rattle.theory.specs.Planes.Lists.{Ascending}
use Rattle.theory.specs.Text.Renumber.{kept, rank, change}
use Rattle.std.specs.declared.cmp.Ordering.{Ordering}
use Rattle.std.specs.declared.cmp.Ordering.TheVariants.{Less, Equal, Greater}
use Rattle.tables.specs.Rows.{plane_at, planes_to, entries_to}
use Rattle.lists.specs.declared.JoinedList.{JoinedList}
use Rattle.lists.specs.declared.Taken.{Taken}

-- ---- joining

-- of n rows those before row i are in the list, each with its number there, and row i comes after the list
pub record Half (row : ℕ → Plane) (n i : ℕ) (list : List Plane) (number : ℕ → ℕ) : Type 0 where
  pub inside : i ≤ n
  pub taken : (x : ℕ) → x < i → row x ∈ list
  pub later : i < n → (p : Plane) → p ∈ list → Before p (row i)
  pub numbers : (x : ℕ) → x < i → number x ≡ place list (row x)

-- the rows of a table of planes, and those of two tables
abbrev pub rows_of : List ℤ → List Plane
rows_of a = planes_to a (length a / 4)

abbrev pub rows_of_both : List ℤ → List ℤ → List Plane
rows_of_both a b = rows_of a ++ rows_of b

-- the planes are joined, those of A before row i and those of B before row j
pub record Joining (a b : List ℤ) (l : JoinedList) (i j : ℕ) : Type 0 where
  pub long : length l.planes ≡ 512
  pub wide : length l.numbers ≡ 128
  pub list : List Plane
  pub count : length list ≡ l.count
  pub few : l.count ≤ i + j
  pub table : take (4 * l.count) l.planes ≡ flat_planes list
  pub order : Ascending list
  pub from : (p : Plane) → p ∈ list → p ∈ rows_of_both a b
  pub first : Half (plane_at a) (length a / 4) i list (λ x. get_or l.numbers x 0)
  pub second : Half (plane_at b) (length b / 4) j list (λ x. get_or l.numbers (64 + x) 0)

-- a plane is left, of A or of B
pub record NextIn (a b : List ℤ) (t : Taken) : Type 0 where
  pub inside : t.a ≤ length a / 4
  pub more : t.a + t.b < length a / 4 + length b / 4

-- the row of A comes next, both do, or the row of B does
pub record FirstNext (a : List ℤ) (i : ℕ) (b : List ℤ) (j : ℕ) : Type 0 where
  pub here : i < length a / 4
  pub sooner : j < length b / 4 → Before (plane_at a i) (plane_at b j)

pub record BothNext (a : List ℤ) (i : ℕ) (b : List ℤ) (j : ℕ) : Type 0 where
  pub here : i < length a / 4
  pub there : j < length b / 4
  pub same : plane_at a i ≡ plane_at b j

abbrev pub Sooner : List ℤ → List ℤ → Taken → Ordering → Type 0
Sooner a b t Less = FirstNext a t.a b t.b
Sooner a b t Equal = BothNext a t.a b t.b
Sooner a b t Greater = FirstNext b t.b a t.a

-- rows in ascending order
abbrev pub Rising : List ℤ → Type 0
Rising a = (x : ℕ) → x + 1 < length a / 4 → Before (plane_at a x) (plane_at a (x + 1))

pub record TakeIn (a b : List ℤ) (l : JoinedList) (t : Taken) : Type 0 where
  pub so_far : Joining a b l t.a t.b
  pub more : t.a + t.b < length a / 4 + length b / 4
  pub first_rising : Rising a
  pub second_rising : Rising b
  pub first_few : length a / 4 ≤ 64
  pub second_few : length b / 4 ≤ 64

pub record TakeTold (a b : List ℤ) (l : JoinedList) (t r : Taken) : Type 0 where
  pub so_far : Joining a b l r.a r.b
  pub on : t.a + t.b < r.a + r.b

-- ---- marks

-- which planes are marked
abbrev pub marked : List Bool → ℕ → Bool
marked used k = get_or used k false

pub record MarkIn (ns : List ℕ) (m : ℕ) (used : List Bool) : Type 0 where
  pub rows : 3 * m ≤ length ns
  pub numbers : (i : ℕ) → i < m → get_or ns (3 * i) 0 < length used
  pub none : (k : ℕ) → get_or used k false ≡ false

abbrev pub MarkTold : List ℕ → ℕ → List Bool → Type 0
MarkTold ns m used = (k : ℕ) → get_or used k false ≡ uses k (entries_to ns m)

-- ---- ranks

pub record RankIn (used : List Bool) (n : ℕ) (ranks : List ℕ) : Type 0 where
  pub marks : n ≤ length used
  pub room : n ≤ length ranks
  pub few : n ≤ 128

-- the rank of each of n planes
abbrev pub Ranks : List Bool → ℕ → List ℕ → Type 0
Ranks used n ranks = (k : ℕ) → k < n → get_or ranks k 0 ≡ rank (marked used) 0 k

pub record RankTold (used : List Bool) (n : ℕ) (ranks : List ℕ) (r : ℕ) : Type 0 where
  pub count : r ≡ rank (marked used) 0 n
  pub each : Ranks used n ranks

-- ---- planes put at their ranks

pub record PutIn (joined : List ℤ) (used : List Bool) (ranks : List ℕ) (planes : List ℤ) : Type 0 where
  pub marks : length joined / 4 ≤ length used
  pub places : length joined / 4 ≤ length ranks
  pub each : Ranks used (length joined / 4) ranks
  pub room : 4 * rank (marked used) 0 (length joined / 4) ≤ length planes
  pub zeros : planes ≡ replicate (length planes) (pos 0)

abbrev pub Puts : List ℤ → ℕ → List Bool → List ℤ → Type 0
Puts joined n used planes = planes ≡ filled (pos 0) (length planes) (flat_planes (kept (marked used) 0 (planes_to joined n)))

-- ---- rows numbered by ranks

pub record NumberIn (ns : List ℕ) (m : ℕ) (ranks : List ℕ) : Type 0 where
  pub rows : 3 * m ≤ length ns
  pub numbers : (i : ℕ) → i < m → get_or ns (3 * i) 0 < length ranks

-- m rows are changed, and the rest is as it was
abbrev pub Numbered : List ℕ → ℕ → List ℕ → List ℕ → Type 0
Numbered ns m ranks ns' = ns' ≡ flat_nodes (change (λ k. get_or ranks k 0) (entries_to ns m)) ++ drop (3 * m) ns

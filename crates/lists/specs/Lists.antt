-- What joining and listing promise.
--     JoinIn, JoinTold    two ascending lists of planes, joined; the number of each plane in the joined list
--     ListIn, ListTold    rows numbered by a list; the planes that they use, and the rows numbered by these
use Rattle.std.specs.Prelude.{◌≡◌, Bool, List, ◌++◌, ℕ, ◌+◌, ◌*◌, ◌/◌, ◌≤◌, ◌<◌, ℤ, pos, length, get_or, take, replicate, Result, Ok, Err}
use Rattle.std.proofs.Math.Option.{some}
use Rattle.std.proofs.Math.ListN.{get_elem?}
use Rattle.whole.specs.Lists.{Each}
use Rattle.scope.specs.Planes.{Plane}
use Rattle.scope.specs.Solids.{Entry, entry, ascending, place}
use Rattle.scope.specs.Judging.{uses}
use Rattle.scope.specs.Answers.{flat_planes, flat_nodes, filled}
use Rattle.theory.specs.Planes.Lists.{Ascending}
use Rattle.theory.specs.Text.Renumber.{kept, rank, change}
use Rattle.lists.specs.declared.JoinedList.{JoinedList}

-- ---- joining

-- a table holds an ascending list of at most 64 planes
pub record HoldsList (xs : List ℤ) (ps : List Plane) : Type 0 where
  pub table : xs ≡ flat_planes ps
  pub order : Ascending ps
  pub few : length ps ≤ 64

pub record JoinIn (a b : List ℤ) : Type 0 where
  pub first : List Plane
  pub second : List Plane
  pub first_held : HoldsList a first
  pub second_held : HoldsList b second

-- the joined list of P and Q stands in the table, and each plane's number in `numbers`
pub record Joined (ps qs : List Plane) (l : JoinedList) : Type 0 where
  pub count : l.count ≡ length (ascending (ps ++ qs))
  pub few : l.count ≤ 128
  pub table : take (4 * l.count) l.planes ≡ flat_planes (ascending (ps ++ qs))
  pub wide : 128 ≤ length l.numbers
  pub first_numbers : (i : ℕ) (p : Plane) → get_elem? ps i ≡ some p → get_or l.numbers i 0 ≡ place (ascending (ps ++ qs)) p
  pub second_numbers : (i : ℕ) (p : Plane) → get_elem? qs i ≡ some p → get_or l.numbers (64 + i) 0 ≡ place (ascending (ps ++ qs)) p

abbrev pub JoinTold : List ℤ → List ℤ → JoinedList → Type 0
JoinTold a b l = (ps qs : List Plane) → HoldsList a ps → HoldsList b qs → Joined ps qs l

-- ---- what is used

abbrev pub number_below : ℕ → Entry → Type 0
number_below n (entry k f b) = k < n

-- the table holds m rows, whose plane numbers are those of the joined list, and then zeros
pub record HoldsRows (joined : List ℤ) (ns : List ℕ) (m : ℕ) (ps : List Plane) (es : List Entry) : Type 0 where
  pub planes : joined ≡ flat_planes ps
  pub few : length ps ≤ 128
  pub rows : ns ≡ filled 0 (length ns) (flat_nodes es)
  pub room : 3 * m ≤ length ns
  pub count : length es ≡ m
  pub few_rows : m ≤ 1000
  pub numbers : Each (number_below (length ps)) es

pub record ListIn (joined planes : List ℤ) (ns : List ℕ) (m : ℕ) : Type 0 where
  pub list : List Plane
  pub entries : List Entry
  pub held : HoldsRows joined ns m list entries
  pub zeros : planes ≡ replicate (length planes) (pos 0)

-- which numbers the rows use
abbrev pub used_by : List Entry → ℕ → Bool
used_by es k = uses k es

-- how many planes the rows use, the planes in order, and the rows with their numbers
pub record ListedAs (ps : List Plane) (es : List Entry) (planes' : List ℤ) (ns' : List ℕ) (c : ℕ) : Type 0 where
  pub count : c ≡ length (kept (used_by es) 0 ps)
  pub few : c ≤ 64
  pub planes : planes' ≡ filled (pos 0) (length planes') (flat_planes (kept (used_by es) 0 ps))
  pub rows : ns' ≡ filled 0 (length ns') (flat_nodes (change (rank (used_by es) 0) es))
  pub room : 4 * c ≤ length planes'

-- the refusal, and why
pub data TooMany (ps : List Plane) (es : List Entry) (planes : List ℤ) : ℕ → Type 0 where
  no_room : length planes / 4 < length (kept (used_by es) 0 ps) → TooMany ps es planes 8
  over_64 : length (kept (used_by es) 0 ps) ≤ length planes / 4 → 64 < length (kept (used_by es) 0 ps) → TooMany ps es planes 9

abbrev pub Listing : List Plane → List Entry → List ℤ → List ℤ → List ℕ → Result ℕ ℕ → Type 0
Listing ps es planes planes' ns' (Ok c) = ListedAs ps es planes' ns' c
Listing ps es planes planes' ns' (Err k) = TooMany ps es planes k

abbrev pub ListTold : List ℤ → List ℤ → List ℤ → List ℕ → List ℕ → ℕ → Result ℕ ℕ → Type 0
ListTold joined planes planes' ns ns' m r = (ps : List Plane) (es : List Entry) → HoldsRows joined ns m ps es → Listing ps es planes planes' ns' r

-- What reading promises, by scope's `read_solid`: what is left to judge after the lines that were read, or the refusal.
--     HoldsPlanes, HoldsNodes     a table holds rows, then zeros
--     Blank                       tables of zeros
--     PlanesSoFar, NodesOver      i lines of planes, or of nodes, were taken
--     PlanesIn, NodesIn, RowsIn   what the functions are given
--     RowsRead, WholeSolid        the rows below a head were read, and a whole solid was
--     PlanesTold, NodesTold, RowsTold, SolidTold   the answers, case by case
use Rattle.std.specs.Prelude.{◌≡◌, List, [], ℕ, ◌+◌, ◌*◌, ◌/◌, ◌≤◌, ◌<◌, ℤ, pos, length, drop, replicate, Result, Ok, Err}
use Rattle.std.proofs.Math.Option.{Option, none}
use Rattle.scope.specs.Planes.{Plane}
use Rattle.scope.specs.Solids.{Entry, Tables, tables}
use Rattle.scope.specs.Text.{frames}
use Rattle.scope.specs.Judging.{Rooms, Sub, busy, fresh, uses, read, refused, read_solid}
use Rattle.scope.specs.Answers.{flat_planes, flat_nodes, plane_numbers, node_numbers, filled}
use Rattle.theory.specs.Text.Counts.{sizes}
use Rattle.tables.specs.Rows.{last_before}
use Rattle.tables.specs.Work.{stack, marked}
use Rattle.tables.specs.declared.Solid.{Solid}
use Rattle.lines.specs.declared.Place.{Place}
use Rattle.lines.specs.declared.SolidRead.{SolidRead}

-- ---- tables

abbrev pub HoldsPlanes : List ℤ → List Plane → Type 0
HoldsPlanes xs ps = xs ≡ filled (pos 0) (length xs) (flat_planes ps)

abbrev pub HoldsNodes : List ℕ → List Entry → Type 0
HoldsNodes ns es = ns ≡ filled 0 (length ns) (flat_nodes es)

-- tables of zeros
pub record Blank (xs : List ℤ) (ns : List ℕ) (w : List ℤ) : Type 0 where
  pub planes : xs ≡ replicate (length xs) (pos 0)
  pub nodes : ns ≡ replicate (length ns) 0
  pub work : w ≡ replicate (length w) (pos 0)

-- ---- planes

-- what is given: a table of zeros with room for n planes
pub record PlanesIn (t : List ℕ) (from l n : ℕ) (xs : List ℤ) : Type 0 where
  pub inside : from ≤ length t
  pub line : l ≤ 100000
  pub few : n ≤ 64
  pub room : 4 * n ≤ length xs
  pub blank : xs ≡ replicate (length xs) (pos 0)

-- of n planes from `from` on, where line l is, i were taken; the text is read up to `at`
pub record PlanesSoFar (t : List ℕ) (from l n : ℕ) (xs : List ℤ) (i at : ℕ) : Type 0 where
  pub planes : List Plane
  pub count : length planes ≡ i
  pub table : HoldsPlanes xs planes
  pub inside : at ≤ length t
  pub goes : (s : Rooms) (m r rest : ℕ) → rest + i ≡ n → read_solid s (busy n m r none [] [] []) l (frames (drop from t)) ≡ read_solid s (busy rest m r (last_before xs i) planes [] []) (l + i) (frames (drop at t))

abbrev pub PlanesTold : List ℕ → ℕ → ℕ → ℕ → List ℤ → Result Place (ℕ × ℕ) → Type 0
PlanesTold t from l n xs (Ok p) = PlanesSoFar t from l n xs n p.cursor.at × (p.line ≡ l + n)
PlanesTold t from l n xs (Err (k, j)) = (s : Rooms) (m r : ℕ) → read_solid s (busy n m r none [] [] []) l (frames (drop from t)) ≡ refused k j

-- ---- nodes

-- what is given: a table of zeros with room for m nodes, and a work table of zeros
pub record NodesIn (t : List ℕ) (from l n m : ℕ) (ns : List ℕ) (w : List ℤ) : Type 0 where
  pub inside : from ≤ length t
  pub line : l ≤ 100064
  pub few_planes : n ≤ 64
  pub few : m ≤ 1000
  pub room : 3 * m ≤ length ns
  pub blank : ns ≡ replicate (length ns) 0
  pub work_room : 1064 ≤ length w
  pub work : w ≡ replicate (length w) (pos 0)

-- over the planes ps, of m nodes from `from` on, where line l is, i were taken
pub record NodesOver (ps : List Plane) (t : List ℕ) (from l m : ℕ) (ns : List ℕ) (w : List ℤ) (i at d : ℕ) : Type 0 where
  pub entries : List Entry
  pub trees : List Sub
  pub count : length entries ≡ i
  pub table : HoldsNodes ns entries
  pub stands : sizes trees ≡ stack w d
  pub marks : (k : ℕ) → k < 64 → marked w k ≡ uses k entries
  pub goes : (s : Rooms) (r rest : ℕ) (q : Option Plane) → rest + i ≡ m → read_solid s (busy 0 m r q ps [] []) l (frames (drop from t)) ≡ read_solid s (busy 0 rest r q ps entries trees) (l + i) (frames (drop at t))

abbrev pub NodesTold : List ℕ → ℕ → ℕ → ℕ → ℕ → List ℕ → List ℤ → Result (Place × ℕ) (ℕ × ℕ) → Type 0
NodesTold t from l n m ns w (Ok (p, d)) = (p.cursor.at ≤ length t) × (p.line ≡ l + m) × ((ps : List Plane) → length ps ≡ n → NodesOver ps t from l m ns w m p.cursor.at d)
NodesTold t from l n m ns w (Err (k, j)) = (ps : List Plane) → length ps ≡ n → (s : Rooms) (r : ℕ) (q : Option Plane) → read_solid s (busy 0 m r q ps [] []) l (frames (drop from t)) ≡ refused k j

-- ---- a solid

-- what is given: tables of zeros with room for the counts of a head that was taken
pub record RowsIn (t : List ℕ) (from l : ℕ) (s : Solid) (xs : List ℤ) (ns : List ℕ) (w : List ℤ) : Type 0 where
  pub inside : from ≤ length t
  pub line : l ≤ 100000
  pub few_planes : s.planes ≤ 64
  pub few_nodes : s.nodes ≤ 1000
  pub plane_room : 4 * s.planes ≤ length xs
  pub node_room : 3 * s.nodes ≤ length ns
  pub work_room : 1064 ≤ length w
  pub blank : Blank xs ns w

-- the rows below a head, and the end
pub record RowsRead (t : List ℕ) (from l : ℕ) (s : Solid) (xs : List ℤ) (ns : List ℕ) (next j : ℕ) : Type 0 where
  pub planes : List Plane
  pub entries : List Entry
  pub plane_count : length planes ≡ s.planes
  pub node_count : length entries ≡ s.nodes
  pub plane_table : HoldsPlanes xs planes
  pub node_table : HoldsNodes ns entries
  pub inside : next ≤ length t
  pub line : j ≡ l + s.planes + s.nodes + 1
  pub reading : (a : Rooms) → read_solid a (busy s.planes s.nodes s.root none [] [] []) l (frames (drop from t)) ≡ read (tables planes entries s.root) j (frames (drop next t))

abbrev pub RowsTold : List ℕ → ℕ → ℕ → Solid → List ℤ → List ℕ → Result Place (ℕ × ℕ) → Type 0
RowsTold t from l s xs ns (Ok p) = RowsRead t from l s xs ns p.cursor.at p.line
RowsTold t from l s xs ns (Err (k, j)) = (a : Rooms) → read_solid a (busy s.planes s.nodes s.root none [] [] []) l (frames (drop from t)) ≡ refused k j

-- the rows lent for planes and nodes
abbrev pub rooms : List ℤ → List ℕ → Rooms
rooms xs ns = record { plane_rows = length xs / 4; node_rows = length ns / 3 }

-- the counts of tables
abbrev pub solid_of : Tables → Solid
solid_of (tables ps es r) = record { planes = length ps; nodes = length es; root = r }

pub record WholeSolid (t : List ℕ) (from l : ℕ) (a : Rooms) (s : Solid) (xs : List ℤ) (ns : List ℕ) (next j : ℕ) : Type 0 where
  pub is : Tables
  pub counts : s ≡ solid_of is
  pub plane_table : xs ≡ filled (pos 0) (length xs) (plane_numbers is)
  pub node_table : ns ≡ filled 0 (length ns) (node_numbers is)
  pub inside : next ≤ length t
  pub near : j ≤ l + 1066
  pub reading : read_solid a fresh l (frames (drop from t)) ≡ read is j (frames (drop next t))

abbrev pub SolidTold : List ℕ → ℕ → ℕ → Rooms → List ℤ → List ℕ → Result SolidRead (ℕ × ℕ) → Type 0
SolidTold t from l a xs ns (Ok r) = WholeSolid t from l a r.solid xs ns r.next.cursor.at r.next.line
SolidTold t from l a xs ns (Err (k, j)) = read_solid a fresh l (frames (drop from t)) ≡ refused k j

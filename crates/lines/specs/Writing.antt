-- What writing promises: the lines of the rows, one after the other.
--     PlanesFit, NodesFit      the numbers of each row fit their bytes
--     plane_lines, node_lines  the lines of the first rows of a table
--     Writes                   what `put_solid` is given
use Rattle.std.specs.Prelude.{List, [], ℕ, ◌+◌, ◌*◌, ◌≤◌, ◌<◌, ℤ, length}
use Rattle.scope.specs.Solids.{Tables, tables}
use Rattle.scope.specs.Text.{head, plane, node_row, plane_frames, node_frames, written}
use Rattle.theory.specs.Text.Frames.{Fits}
use Rattle.tables.specs.Rows.{plane_at, entry_at, planes_to, entries_to}
use Rattle.tables.specs.declared.Solid.{Solid}

abbrev pub plane_lines : List ℤ → ℕ → List ℕ
plane_lines xs n = written (plane_frames (planes_to xs n) [])

abbrev pub node_lines : List ℕ → ℕ → List ℕ
node_lines ns m = written (node_frames (entries_to ns m) [])

-- n rows stand in the table, and their numbers fit their bytes
pub record PlanesFit (xs : List ℤ) (n : ℕ) : Type 0 where
  pub rows : 4 * n ≤ length xs
  pub few : n ≤ 64
  pub fits : (i : ℕ) → i < n → Fits (plane (plane_at xs i))

pub record NodesFit (ns : List ℕ) (m : ℕ) : Type 0 where
  pub rows : 3 * m ≤ length ns
  pub few : m ≤ 1000
  pub fits : (i : ℕ) → i < m → Fits (node_row (entry_at ns i))

-- tables whose rows fit, and room for their text
pub record Writes (xs : List ℤ) (ns : List ℕ) (s : Solid) (t : List ℕ) : Type 0 where
  pub planes_fit : PlanesFit xs s.planes
  pub nodes_fit : NodesFit ns s.nodes
  pub head_fits : Fits (head s.planes s.nodes s.root)
  pub room : 16 + 23 * s.planes + 13 * s.nodes ≤ length t

-- the tables that stand in flat tables
abbrev pub tables_in : List ℤ → List ℕ → Solid → Tables
tables_in xs ns s = tables (planes_to xs s.planes) (entries_to ns s.nodes) s.root

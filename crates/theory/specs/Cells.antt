-- Cells, walks and merges: points are moved (Move, Clear), a plane and a cell (Sides), the walk of a tree in a cell (Walk), paths of kept half-spaces (Path), the side of a missed plane (Classify),
-- uniform cells (Uniform). The theorems stand on the page Theorems.
pub mod Reached
pub mod Move
pub mod Box
pub mod Sides
pub mod Walk
pub mod Clear
pub mod Path
pub mod Classify
pub mod Uniform

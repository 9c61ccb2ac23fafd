pub mod CellMarks
pub mod Scans
pub mod Rests
pub mod Shapes
pub mod Nodes
pub mod Halves
pub mod Forms

mod Lines
pub mod Tables
mod Planes
mod Nodes
pub mod Whole
mod Heads
pub mod TextLines
mod Glue

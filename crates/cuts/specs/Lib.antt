pub mod Paths
pub mod Blocks

pub mod Marks
pub mod Emits
pub mod Rank
pub mod Ways
pub mod Cycle

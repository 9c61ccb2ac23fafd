pub mod Walks
pub mod Points

pub mod Standing
pub mod Putting
pub mod Marks
pub mod Walks

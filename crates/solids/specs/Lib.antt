pub mod Finish
pub mod Reading
pub mod Writing
pub mod Follows

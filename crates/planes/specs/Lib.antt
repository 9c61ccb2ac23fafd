pub mod Values
pub mod Bounds
pub mod Promises
pub mod Only
pub mod Follows

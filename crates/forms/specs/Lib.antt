pub mod Promises
pub mod Follows

pub mod Bytes
pub mod Promises
pub mod Follows
pub mod Only

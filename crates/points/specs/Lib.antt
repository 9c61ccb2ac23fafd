pub mod Promises
pub mod Only

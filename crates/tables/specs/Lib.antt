pub mod Rows
pub mod Work
pub mod Promises
pub mod Only

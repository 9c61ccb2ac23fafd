pub mod Values
pub mod Asked
pub mod Promises
pub mod Follows

pub mod Numbers
pub mod Exports
pub mod Follows
pub mod Zero

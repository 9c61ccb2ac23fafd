pub mod Results
pub mod Putting
pub mod Operands
pub mod Follows

pub mod Trees
pub mod Operands
pub mod PutOut
pub mod Calls

pub mod Digits
pub mod Lines
pub mod Shapes
pub mod Numbers
pub mod Writing
pub mod Told

pub mod Heads
pub mod Stacks
pub mod Turn
pub mod Lent
pub mod Stages
pub mod Flats
pub mod Soundness

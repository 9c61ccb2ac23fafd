pub mod Pairs
pub mod Singles

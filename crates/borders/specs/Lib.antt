pub mod Bounded
pub mod Sides
pub mod Borders

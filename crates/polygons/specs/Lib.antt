pub mod Values
pub mod Tables
pub mod Asked
pub mod Lines

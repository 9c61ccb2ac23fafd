pub mod Asking
pub mod Cuts
pub mod Halves
pub mod Axes

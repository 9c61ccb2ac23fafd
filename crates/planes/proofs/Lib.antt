pub mod Laws
pub mod Box
pub mod Sorted
pub mod Meets
pub mod Told

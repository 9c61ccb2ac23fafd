pub mod Sound
pub mod Told

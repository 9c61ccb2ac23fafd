pub mod Told
mod Fitted

pub mod Calls
pub mod TextMerge
pub mod TextForm

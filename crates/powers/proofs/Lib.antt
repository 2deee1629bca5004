pub mod Weight
pub mod Entries

pub mod Chain
pub mod Cited

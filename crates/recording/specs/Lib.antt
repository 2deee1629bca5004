pub mod Recording
pub mod Cited

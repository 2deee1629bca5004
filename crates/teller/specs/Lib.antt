pub mod Telling
pub mod Cited

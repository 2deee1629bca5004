pub mod Telling
pub mod Prints
pub mod Examples
pub mod Cited

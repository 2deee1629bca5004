pub mod Telling
pub mod Pump
pub mod Cited

pub mod Over
pub mod Puts

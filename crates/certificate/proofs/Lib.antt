pub mod Passes
pub mod Listed

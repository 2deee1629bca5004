pub mod Hindsight
pub mod Examples

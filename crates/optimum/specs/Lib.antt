pub mod Optimum
pub mod Cited
pub mod Examples

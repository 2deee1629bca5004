pub mod Method
pub mod Cited
pub mod Examples

pub mod Limits
pub mod Allotment
pub mod Most
pub mod Cited

pub mod Month
pub mod Pairs
pub mod Promises
pub mod Cited

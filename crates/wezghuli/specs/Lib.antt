pub mod Library
pub mod Search
pub mod Promises

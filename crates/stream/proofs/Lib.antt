pub mod Runs
pub mod Streams
pub mod Chunking
pub mod Parts

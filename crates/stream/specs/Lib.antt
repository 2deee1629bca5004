pub mod Input
pub mod Stream
pub mod Chunking
pub mod Listing
pub mod Cited

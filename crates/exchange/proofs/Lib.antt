pub mod Entries
pub mod Search
pub mod Bare
pub mod Seeking

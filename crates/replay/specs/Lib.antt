pub mod Replay
pub mod Cited
pub mod Examples

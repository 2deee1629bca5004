pub mod Stored
pub mod Streamed
pub mod Low
pub mod Kept
pub mod Given
pub mod Promised
pub mod Asked

pub mod Turns
pub mod Ends
pub mod Rests
pub mod Batches

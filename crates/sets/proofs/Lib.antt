pub mod Bits
pub mod Algebra
pub mod Taken
pub mod Walk
pub mod Bounds

pub mod Lengths
pub mod Digits
pub mod Names
pub mod Sizes

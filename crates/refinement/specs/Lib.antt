pub mod Fraction
pub mod Algorithm4
pub mod Correspondence
pub mod Days
pub mod Slot
pub mod Examples

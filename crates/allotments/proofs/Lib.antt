pub mod Takings
pub mod Cases
pub mod Walks
pub mod Duality
pub mod Most
pub mod Attained

pub mod Fronts
pub mod Told
pub mod Pumps

pub mod Ratio
pub mod Earnings
pub mod Examples

pub mod Figures
pub mod Ratios
pub mod Upto
pub mod Reports
pub mod Gathering
pub mod checks

pub mod Table
pub mod Asks
pub mod Verdicts

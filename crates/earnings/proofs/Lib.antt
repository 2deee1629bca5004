pub mod Divisors
pub mod Told
pub mod Numbers
pub mod Line
pub mod Examples

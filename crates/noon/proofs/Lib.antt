pub mod Dues
pub mod Numbers

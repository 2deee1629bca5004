pub mod Page
pub mod Figures
pub mod Printing
pub mod Promises
pub mod Examples
pub mod Cited

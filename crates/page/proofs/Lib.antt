pub mod Texts
pub mod Spaces
pub mod Lays
pub mod ReadBack
pub mod Promises
pub mod Printed
pub mod Examples

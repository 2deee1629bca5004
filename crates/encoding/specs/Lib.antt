pub mod Encoding
pub mod Faithful
pub mod Words

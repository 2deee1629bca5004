pub mod Forms
pub mod Faithful
pub mod Words

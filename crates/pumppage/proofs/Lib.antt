pub mod Pages
pub mod Examples

pub mod Asked
pub mod Found
pub mod Greatest
pub mod Examples

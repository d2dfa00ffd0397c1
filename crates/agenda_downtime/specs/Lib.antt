pub mod Rows
pub mod Last
pub mod Laws

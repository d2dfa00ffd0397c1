pub mod Rows
pub mod Counts
pub mod Last
pub mod Laws

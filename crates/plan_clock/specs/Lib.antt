pub mod Rows
pub mod Handle
pub mod Equal

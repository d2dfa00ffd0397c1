pub mod Script
pub mod Causes

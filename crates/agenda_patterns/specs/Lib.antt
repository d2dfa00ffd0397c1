pub mod Pattern
pub mod Head

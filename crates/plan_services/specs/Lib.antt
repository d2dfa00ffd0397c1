pub mod Started
pub mod Commands
pub mod Planned
pub mod Accuracy

pub mod Texts
pub mod Settings
pub mod Commands
pub mod Idle
pub mod Scripts

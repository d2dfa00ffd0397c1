pub mod Words
pub mod Lines
pub mod Settings
pub mod Commands
pub mod Users
pub mod Hints

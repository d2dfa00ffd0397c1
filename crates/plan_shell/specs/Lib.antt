pub mod Modes
pub mod Pieces
pub mod Commands
pub mod Reading
pub mod Tree
pub mod Grammar

pub mod Policy
pub mod Comments
pub mod Nearest
pub mod Reading
pub mod Judged

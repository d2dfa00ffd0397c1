pub mod Causes
pub mod Line
pub mod ReadBack
pub mod Reading
pub mod Tails
pub mod Times

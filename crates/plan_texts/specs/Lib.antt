pub mod Limits
pub mod Text
pub mod Steps
pub mod EachLaws
pub mod Lines
pub mod WholeLines
pub mod Joining

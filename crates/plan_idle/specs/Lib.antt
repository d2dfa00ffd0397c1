pub mod Run
pub mod Outcomes
pub mod Reason
pub mod Known
pub mod Answers
pub mod Scripts
pub mod Gathered
pub mod Law

pub mod Sentences
pub mod Timers
pub mod Jobs
pub mod Texts

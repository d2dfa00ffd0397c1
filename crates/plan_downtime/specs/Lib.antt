pub mod Outcome
pub mod Missed
pub mod Tally
pub mod Downtime
pub mod Laws
pub mod Lines

pub mod CalendarCode
pub mod EventMatch
pub mod Heeds
pub mod Match
pub mod WithinLimits
pub mod Zone
pub mod Equal

pub mod Causes
pub mod Parts
pub mod Days
pub mod TimesOfDay
pub mod Forms
pub mod LocalTimes
pub mod Times

pub mod Texts
pub mod ZoneLines
pub mod CronLines
pub mod TimerLines
pub mod Loading

pub mod TimerFile
pub mod Triggers

pub mod Managers
pub mod Dirs
pub mod Lingering
pub mod Found
pub mod Timers
pub mod UserTree

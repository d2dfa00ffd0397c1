pub mod Paths
pub mod Users
pub mod Looks
pub mod Daemon
pub mod FileFaults
pub mod Crontabs

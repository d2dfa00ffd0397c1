pub mod Readings
pub mod Elements
pub mod Cron
pub mod Shape
pub mod EventZones
pub mod Event
pub mod EventItems
pub mod Causes

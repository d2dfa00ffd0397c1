pub mod Changes
pub mod Zones
pub mod ZoneTexts

pub mod Asked
pub mod AtOnce
pub mod Faults
pub mod Findings
pub mod Name
pub mod Sources
pub mod ZoneNames

pub mod Arguments
pub mod Values
pub mod Machine
pub mod Codes
pub mod Tables
pub mod Hint

pub mod Messages
pub mod Findings
pub mod Skipped
pub mod Rules
pub mod Quotes
pub mod Warnings

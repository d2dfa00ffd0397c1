pub mod Booleans
pub mod Spans

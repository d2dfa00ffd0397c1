pub mod Stream
pub mod Writer

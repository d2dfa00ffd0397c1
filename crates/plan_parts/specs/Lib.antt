pub mod Files
pub mod Merging
pub mod Origin
pub mod NameParts
pub mod Specifiers
pub mod Parts

pub mod Cover
pub mod Counting
pub mod Ranking
pub mod Lengths
pub mod Remark

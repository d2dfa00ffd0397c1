pub mod Close
pub mod Next
pub mod Piece
pub mod Search
pub mod Span
pub mod Starts
pub mod StartsLaws
pub mod UtcLaws

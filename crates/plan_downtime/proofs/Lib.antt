pub mod TallyLemmas
pub mod DowntimeLemmas
pub mod LawLemmas
pub mod DowntimeRows
pub mod LinesRows

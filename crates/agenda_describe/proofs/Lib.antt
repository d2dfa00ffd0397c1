mod JobLemmas
mod ShortLemmas
pub mod KnownLemmas

pub mod CollectLemmas
pub mod SerialLemmas

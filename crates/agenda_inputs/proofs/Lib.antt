pub mod EventZonesLemmas
pub mod FileLemmas
pub mod OpenedLemmas
pub mod StepLemmas
pub mod TriedLemmas

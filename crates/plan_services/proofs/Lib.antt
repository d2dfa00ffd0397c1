pub mod PlannedLemmas

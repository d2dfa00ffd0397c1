pub mod GatheringLemmas
pub mod SendingLemmas
pub mod SettlingLemmas
pub mod StartLemmas

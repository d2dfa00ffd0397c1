pub mod NameLemmas
pub mod ZoneLemmas
pub mod ToldLemmas
pub mod UserLemmas

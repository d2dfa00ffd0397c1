pub mod RuleLemmas
pub mod YearLemmas
pub mod ChangeLemmas
pub mod ReadsLemmas

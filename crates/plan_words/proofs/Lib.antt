pub mod TimeLemmas
pub mod WordLemmas
pub mod WhenLemmas
pub mod DayLemmas
pub mod SentenceLemmas
pub mod ListLemmas
pub mod ExistingLemmas
pub mod VoidLemmas

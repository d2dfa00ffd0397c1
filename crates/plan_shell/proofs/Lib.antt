pub mod TokenLemmas
pub mod GrammarLemmas
pub mod SimpleLemmas
pub mod ReadingLemmas
pub mod PieceLemmas
pub mod WordLemmas
pub mod CommandLemmas

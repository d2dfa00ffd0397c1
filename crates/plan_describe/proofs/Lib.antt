pub mod NumbersLemmas
pub mod SeriesLemmas
pub mod WindowLemmas
pub mod TimeLemmas
pub mod DaysLemmas
pub mod RuleLemmas
pub mod FormLemmas
pub mod SentenceLemmas

pub mod CivilLemmas
pub mod FirstLemmas
pub mod ItemsLemmas
pub mod MomentLemmas
pub mod RangeLemmas
pub mod ValuesLemmas
pub mod WordsLemmas

mod HintLemmas
mod LateDaysLemmas
pub mod MergedLemmas
pub mod TextLemmas

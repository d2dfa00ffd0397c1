pub mod CutLemmas
pub mod LinesLemmas
pub mod NumberLemmas
pub mod ReadableLemmas
pub mod TextLemmas
pub mod Utf8Lemmas
pub mod WholeLinesLemmas

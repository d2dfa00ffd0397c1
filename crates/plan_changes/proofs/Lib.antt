pub mod JobLemmas
pub mod CountLemmas
pub mod KeyLemmas
pub mod NumberLemmas
pub mod TextLemmas
pub mod CompareLemmas
pub mod LawLemmas
pub mod ChangesRows

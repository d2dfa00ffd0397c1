pub mod UserLemmas
pub mod UserTreeLemmas

pub mod MessageLemmas
pub mod TextLemmas

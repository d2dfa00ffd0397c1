pub mod KeptLemmas
pub mod LeadsLemmas
pub mod LinksLemmas
pub mod OrderLemmas

pub mod RunLemmas
pub mod AgreementLemmas
pub mod KnownLemmas

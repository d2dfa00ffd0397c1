pub mod LinesLemmas
pub mod OriginLemmas
pub mod PartsLemmas
mod PartsRows
pub mod SpecifierLemmas

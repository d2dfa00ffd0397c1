pub mod NumberLemmas
pub mod UnitLemmas
pub mod SpanLemmas
mod SpanRows

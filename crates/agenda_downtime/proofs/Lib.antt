mod RowLemmas
mod ShortLemmas
mod LawLemmas

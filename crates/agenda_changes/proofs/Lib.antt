mod FirstLemmas
mod CountLemmas
mod KeyLemmas
mod RowLemmas
mod ShortLemmas

pub mod CountLemmas
pub mod OrderLemmas
pub mod RankingLemmas
pub mod TallyLemmas

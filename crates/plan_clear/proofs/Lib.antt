pub mod FirstLemmas
pub mod LeastLemmas

pub mod OnLiterals
pub mod FaultLemmas
mod HintLemmas

pub mod FaultLineLemmas

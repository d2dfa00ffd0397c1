pub mod CleanLemmas
pub mod ErrorLemmas
pub mod LinesLemmas
pub mod TimerLinesLemmas
pub mod DecidingLemmas
pub mod NoteLemmas

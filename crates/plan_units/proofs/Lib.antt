pub mod ReachLemmas
pub mod TextLemmas
pub mod TimerLemmas
pub mod UnitDirLemmas
pub mod UnitLemmas

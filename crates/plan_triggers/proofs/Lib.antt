pub mod TimerFileLemmas

pub mod ClearLemmas
pub mod ExceptLemmas
pub mod KeepingLaws
pub mod MachineLemmas
pub mod NextLemmas
pub mod OutcomeLemmas
pub mod ScriptLemmas
pub mod StepLemmas

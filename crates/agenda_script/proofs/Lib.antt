pub mod ScriptLemmas
mod ScriptRows

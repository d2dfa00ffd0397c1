pub mod SettingsLemmas
pub mod IdleLemmas
pub mod TextLemmas

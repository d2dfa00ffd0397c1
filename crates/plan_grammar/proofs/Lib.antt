pub mod WeekDaysLemmas
pub mod NameLemmas
pub mod TextFaults
pub mod LimitsLemmas
pub mod FieldLemmas
pub mod PlacesLemmas
pub mod EventFaults

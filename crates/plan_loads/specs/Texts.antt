-- What is loaded of a source, and what is said of the rest.
use Rattle.std.specs.Prelude.{ℕ, List, Option}
use Rattle.plan_timers.specs.declared.reports.NotPlanned.{NotPlanned}

-- the text that is loaded, if anything is, and what isn't planned of the source
pub record KnownLoading : Type 0 where
  pub text : Option (List ℕ)
  pub reports : List NotPlanned

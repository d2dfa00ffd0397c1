-- The errors of sources (agenda).
use Rattle.std.specs.Prelude.{◌≢◌, ℕ, Result, Ok, Err}
use Rattle.plan_rules.specs.declared.line_fault.LineCause.{LineCause}
use Rattle.plan_rules.specs.declared.line_fault.LineCause.TheVariants as cause
use Rattle.plan_rules.specs.declared.line_fault.LineFault.{LineFault}
use Rattle.plan_check.specs.declared.deciding.FileFault.{FileFault}
use Rattle.plan_check.specs.declared.deciding.FileFault.TheVariants as fault
use Rattle.agenda_sources.specs.declared.fault.SourceFault.{SourceFault}
use Rattle.agenda_sources.specs.declared.fault.SourceFault.TheVariants.{NoMemory, InSource, SameName, Full}

-- what sources mean, or their first error
abbrev pub SourceReading : Type 0 → Type 0
SourceReading A = Result A SourceFault

-- a source's error, by its cause: if that is NoMemory, so is the error
abbrev pub fault_by_cause : LineCause → SourceFault → SourceFault
fault_by_cause cause.NoMemory fault = NoMemory
fault_by_cause other fault = fault

-- the error of the source at a place, from 0
abbrev pub fault_at : ℕ → LineFault → SourceFault
fault_at place fault = fault_by_cause fault.cause (InSource place fault)

-- the error that decides in the source at a place
abbrev pub fault_in : ℕ → FileFault → SourceFault
fault_in place (fault.Rejected rejected) = fault_at place rejected
fault_in place (fault.SameName name) = SameName name
fault_in place fault.Full = Full

-- what the source at a place means, with its error as an error of the sources
abbrev pub in_source : {A : Type 0} → ℕ → Result A FileFault → SourceReading A
in_source place (Ok x) = Ok x
in_source place (Err fault) = Err (fault_in place fault)

-- NoMemory is never the cause inside the error of a source
abbrev pub IsOwnFault : SourceFault → Type 0
IsOwnFault (InSource place fault) = fault.cause ≢ cause.NoMemory
IsOwnFault other = Unit {0}

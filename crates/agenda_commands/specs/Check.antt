-- What `check` writes about the findings on sources. All of it is our choice (agenda).
use Rattle.std.specs.Prelude.{ℕ, Bool, true, false, List, is_ok, Result, Ok}
pub use Rattle.agenda_findings.specs.Findings.{check_text}
use Rattle.agenda_policy.specs.Judged.{judged}
use Rattle.agenda_policy.specs.declared.Policy.{Policy}
use Rattle.agenda_sources.specs.Findings.{is_all_clean, sources_findings}
use Rattle.agenda_sources.specs.Sources.{sources_reading}
use Rattle.agenda_sources.specs.declared.Source.{Source}
use Rattle.agenda_sources.specs.declared.TimeZones.{TimeZones}
use Rattle.agenda_sources.specs.declared.Found.{Found}
use Rattle.agenda_sources.specs.declared.SourcePath.{SourcePath}
use Rattle.agenda_faults.specs.declared.faults.RunFault.{RunFault}
use Rattle.agenda_commands.specs.declared.check.Checked.{Checked}
use Rattle.agenda_commands.specs.declared.check.Checked.TheVariants as checked

-- what a check found, by whether all findings are warnings
abbrev pub checked_of : (is_clean : Bool) → Checked
checked_of true = checked.WithoutErrors
checked_of false = checked.WithErrors

-- the findings on sources that are reported under a policy
abbrev pub reported : Policy → TimeZones → List Source → List Found
reported policy zones sources = judged policy sources (sources_findings zones sources)

-- what a check of sources found under a policy: there is an error exactly if one is reported
abbrev pub sources_checked : Policy → TimeZones → List Source → Checked
sources_checked policy zones sources = checked_of (is_all_clean (reported policy zones sources))

-- the same if no warning is denied: there is an error exactly if the sources make no list of jobs
abbrev pub reading_checked : TimeZones → List Source → Checked
reading_checked zones sources = checked_of (is_ok (sources_reading zones.timers sources))

-- what `check` writes for sources: the findings that are reported
abbrev pub check_output : Policy → TimeZones → List SourcePath → List Source → (json : Bool) → Result (List ℕ) RunFault
check_output policy zones paths sources json = Ok (check_text json paths (reported policy zones sources))

-- The jobs that a request is answered for. All of it is our choice (agenda).
use Rattle.std.specs.Prelude.{◌≡◌, ⊤, ℕ, Bool, true, false, List, [], chars, Option, None, Some, Result, Ok}
use Rattle.plan_rules.specs.Job.{JobParts}
use Rattle.agenda_sources.specs.Findings.{kept_jobs, sources_errors}
use Rattle.agenda_sources.specs.Sources.{jobs_reading}
use Rattle.agenda_sources.specs.declared.Found.{Found}
use Rattle.agenda_sources.specs.declared.Source.{Source}
use Rattle.agenda_sources.specs.declared.TimeZones.{TimeZones}
use Rattle.agenda_faults.specs.declared.faults.RunFault.{RunFault}
use Rattle.agenda_faults.specs.Faults.{fault_of_sources}
use Rattle.agenda_describe.specs.Texts.{description_rows, descriptions_text}
use Rattle.agenda_table.specs.Layout.{table_text}
use Rattle.agenda_commands.specs.Command.{step}
use Rattle.agenda_commands.specs.Goal.{CanBeWritten, text_of}
use Rattle.agenda_commands.specs.Table.{text_of_table}
use Rattle.agenda_commands.specs.declared.prepare.Prepared.{Prepared}
use Rattle.agenda_commands.specs.declared.prepare.Prepared.TheVariants as prepared

-- the errors that are skipped, if the request keeps going
abbrev pub errors_if : (keeps_going : Bool) → TimeZones → List Source → List Found
errors_if true zones sources = sources_errors zones sources
errors_if false zones sources = []

-- the jobs that are left without them
abbrev pub jobs_if : (keeps_going : Bool) → TimeZones → List Source → Option (List JobParts)
jobs_if true zones sources = Some (kept_jobs zones sources)
jobs_if false zones sources = None

-- those, or else the jobs of all sources or their first error
abbrev pub jobs_or : (kept : Option (List JobParts)) → TimeZones → List Source → Result (List JobParts) RunFault
jobs_or (Some jobs) zones sources = Ok jobs
jobs_or None zones sources = step fault_of_sources (jobs_reading zones sources)

-- there are jobs before any memory is requested: they were kept, or there is no source
abbrev pub HasJobs : (kept : Option (List JobParts)) → List Source → Type 0
HasJobs (Some jobs) sources = ⊤
HasJobs None sources = sources ≡ []

-- ---- the answer before it is written

-- its text
abbrev pub prepared_text : Prepared → List ℕ
prepared_text (prepared.Lines made format) = text_of format made
prepared_text (prepared.Table made form) = text_of_table form made
prepared_text (prepared.Descriptions jobs json) = descriptions_text json jobs
prepared_text (prepared.DescriptionTable jobs last frame) =
    table_text frame.columns frame.terminal (description_rows jobs) (chars last)

-- what holds of it, so that it can be written
abbrev pub IsReady : Prepared → Type 0
IsReady (prepared.Lines made format) = CanBeWritten made
IsReady (prepared.Table made form) = ⊤
IsReady (prepared.Descriptions jobs json) = ⊤
IsReady (prepared.DescriptionTable jobs last frame) = ⊤

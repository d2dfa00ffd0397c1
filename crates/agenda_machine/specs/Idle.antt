-- The idle jobs in what the daemons of a machine load: they start, but run nothing that has an effect (plan_runs).
use Rattle.std.specs.Prelude.{ℕ, Bool, true, false, List, [], map, Option, None, Some}
use Rattle.std.specs.List.{slice_get}
use Rattle.plan_loads.specs.Loading.{path_of_first}
use Rattle.plan_machine.specs.Source.{SourceParts}
use Rattle.plan_machine.specs.declared.NotPlanned.{NotPlanned}
use Rattle.plan_machine.specs.declared.Unplanned.TheVariants.{Idle}
use Rattle.plan_parts.specs.Parts.{files_of}
use Rattle.plan_rules.specs.FileText.{text_reading}
use Rattle.plan_rules.specs.declared.Kind.{Kind}
use Rattle.plan_rules.specs.declared.Kind.TheVariants as whose
use Rattle.plan_rules.specs.declared.SourceKind.{SourceKind}
use Rattle.plan_rules.specs.declared.SourceKind.TheVariants.{Crontab, System, CronD, Spool, Timer}
use Rattle.plan_runs.specs.Idle.{active_crontab}
use Rattle.plan_runs.specs.Texts.{KnownActive}
use Rattle.plan_runs.specs.declared.IdleJob.{IdleJob}
use Rattle.plan_tree.specs.Tree.{Held}

-- whose crontab a source of this kind is, if it is one (crontab(5))
abbrev pub whose_crontab : SourceKind → Option Kind
whose_crontab Crontab = Some whose.User
whose_crontab System = Some whose.System
whose_crontab CronD = Some whose.System
whose_crontab Spool = Some whose.User
whose_crontab Timer = None

-- the same, if the idle jobs of the source aren't planned
abbrev pub whose_idle : (idle : Bool) → SourceKind → Option Kind
whose_idle true kind = None
whose_idle false kind = whose_crontab kind

-- a text without the idle jobs of this crontab, and these jobs
abbrev pub without_idle : Held → Option Kind → (owner text : List ℕ) → KnownActive
without_idle held None owner text = record { text = text; idle = [] }
without_idle held (Some kind) owner text = active_crontab held kind owner text (text_reading text)

-- what a plan reads of a text that is loaded of a source of this kind and name, and the idle jobs that it doesn't plan; a user's crontab
-- has the user's name
abbrev pub kept_text : Held → (idle : Bool) → SourceKind → (name text : List ℕ) → KnownActive
kept_text held idle kind name text = without_idle held (whose_idle idle kind) name text

-- a job that isn't planned since it is idle, in the file with this path
abbrev pub idle_report : (path : List ℕ) → IdleJob → NotPlanned
idle_report path job = record { path = path; why = Idle job.line job.why }

-- a source is reported by its first file
abbrev pub path_of : SourceParts → List ℕ
path_of source = path_of_first (slice_get (files_of source.parts) 0)

-- the idle jobs that aren't planned of a source of which this text is loaded, if anything is
abbrev pub idle_reports : Held → (idle : Bool) → SourceParts → (text : Option (List ℕ)) → List NotPlanned
idle_reports held idle source None = []
idle_reports held idle source (Some text) = map (idle_report (path_of source)) (kept_text held idle source.kind source.name text).idle

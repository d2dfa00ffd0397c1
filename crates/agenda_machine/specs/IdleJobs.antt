-- The names of the idle jobs of a machine, and the law that a plan has exactly the other jobs (agenda).
use Rattle.std.specs.Prelude.{◌≡◌, ℕ, Bool, true, false, not, List, [], map, is_none}
use Rattle.std.specs.List.{flat_map, list_any}
use Rattle.agenda_sources.specs.Findings.{kept_jobs, sources_findings}
use Rattle.agenda_sources.specs.declared.Found.{Found}
use Rattle.agenda_sources.specs.declared.Source.{Source}
use Rattle.agenda_sources.specs.declared.TimeZones.{TimeZones}
use Rattle.agenda_machine.specs.Idle.{kept_text}
use Rattle.agenda_machine.specs.JobFiles.{label_of}
use Rattle.agenda_machine.specs.Loaded.{planned_sources}
use Rattle.plan_check.specs.declared.FindingKind.{FindingKind}
use Rattle.plan_check.specs.declared.FindingKind.TheVariants.{Rejected, SameName, Full, Warned, Denied}
use Rattle.plan_check.specs.Files.{file_cause}
use Rattle.plan_machine.specs.declared.machine.Machine.{Machine}
use Rattle.plan_rules.specs.Crontab.{job_name}
use Rattle.plan_rules.specs.Jobs.{without}
use Rattle.plan_tree.specs.Tree.{Held}

-- ---- the names

-- the names of the idle jobs of a source, if its file has a good name: without one it has no jobs
abbrev pub idle_names_if : (good : Bool) → Held → Source → List (List ℕ)
idle_names_if false held source = []
idle_names_if true held source =
    map (λ job. job_name (label_of source.kind source.name) job.line) (kept_text held false source.kind source.name source.bytes).idle

-- the names of the idle jobs of sources, each from its label and its line
abbrev pub idle_names : Held → List Source → List (List ℕ)
idle_names held sources =
    flat_map (λ source. idle_names_if (is_none (file_cause source.kind source.name)) held source) sources

-- ---- the law

-- the error of a job with nothing wrong in its line: another job has its name, or there are 1,000 jobs before it
abbrev pub is_not_added : FindingKind → Bool
is_not_added (Rejected cause) = false
is_not_added SameName = true
is_not_added Full = true
is_not_added (Warned warning) = false
is_not_added (Denied warning) = false

-- no finding is such an error
abbrev pub are_all_added : List Found → Bool
are_all_added found = not (list_any (λ one. is_not_added one.finding.kind) found)

-- the jobs of a machine without idle jobs are those with idle jobs, in the same order, but for the jobs with the names of idle ones. All
-- jobs have to have names of their own, and there may be at most 1,000; else an idle job may take the place of another one
abbrev pub IdleJobsAreExcepted : Type 0
IdleJobsAreExcepted =
    (held : Held) (machine : Machine) (zones : TimeZones) →
    let all = planned_sources held true machine in
    are_all_added (sources_findings zones all) ≡ true →
    kept_jobs zones (planned_sources held false machine) ≡ without (idle_names held all) (kept_jobs zones all)

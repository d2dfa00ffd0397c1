-- The law of idle jobs: an answer without them is the answer with them, but for them (agenda).
use Rattle.std.specs.Prelude.{◌≡◌, ◌↔◌, ℕ, true, false, List, Result}
use Rattle.plan_machine.specs.declared.NotPlanned.{NotPlanned}
use Rattle.plan_machine.specs.declared.machine.Machine.{Machine}
use Rattle.plan_rules.specs.Jobs.{without}
use Rattle.agenda_arguments.specs.declared.MachineJobs.{MachineJobs}
use Rattle.agenda_commands.specs.declared.Goal.{Goal}
use Rattle.agenda_faults.specs.declared.faults.Failure.{Failure}
use Rattle.agenda_inputs.specs.declared.ZoneClock.{ZoneClock}
use Rattle.agenda_machine.specs.IdleJobs.{are_all_added, idle_names}
use Rattle.agenda_machine.specs.Loaded.{planned_sources}
use Rattle.agenda_sources.specs.Findings.{kept_jobs, sources_findings}
use Rattle.agenda_sources.specs.declared.TimeZones.{TimeZones}
use Rattle.agenda_answers.specs.Host.{KnownHost}
use Rattle.agenda_answers.specs.Machine.{Shown, shows_jobs_in, shows_kept}

-- what is shown of a machine without its idle jobs is what is shown for its jobs with them, but for those with the names of idle ones. All
-- jobs have to have names of their own, and there may be at most 1,000
abbrev pub AnswersExceptIdleJobs : Type 0
AnswersExceptIdleJobs =
    (dir : List ℕ) (jobs : MachineJobs) (host : KnownHost) (goal : Goal) (machine : Machine) (unplanned : List NotPlanned)
    (clock : ZoneClock) (zones : TimeZones) (end : Result Shown Failure) →
    let held = host.tree.held in
    let all = planned_sources held true machine in
    are_all_added (sources_findings zones all) ≡ true →
    shows_jobs_in dir jobs host goal machine unplanned (planned_sources held false machine) clock zones end
    ↔ shows_kept dir jobs host goal machine unplanned clock zones (without (idle_names held all) (kept_jobs zones all)) end

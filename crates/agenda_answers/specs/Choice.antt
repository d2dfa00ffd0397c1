-- The jobs of a machine that an answer is about, and what isn't known of them. All of it is our choice (agenda).
use Rattle.std.specs.Prelude.{ℕ, Bool, true, false, List, ◌++◌, Option, None, Some, codes}
use Rattle.plan_machine.specs.declared.NotPlanned.{NotPlanned}
use Rattle.plan_machine.specs.declared.machine.Machine.{Machine}
use Rattle.plan_rules.specs.Job.{JobParts}
use Rattle.agenda_faults.specs.declared.faults.Failure.TheVariants as failure
use Rattle.agenda_faults.specs.declared.machine_faults.MachineFault.TheVariants.{NothingExcepted, NothingChosen}
use Rattle.agenda_inputs.specs.MachineZone.{fails_with}
use Rattle.agenda_inputs.specs.Steps.{Step, computes, gives, ◌>>=◌}
use Rattle.agenda_machine.specs.Choice.{left_jobs, left_unknown, names_of_machine, unchosen, unexcepted}
use Rattle.agenda_machine.specs.Unknown.{unknowns_of}
use Rattle.agenda_sources.specs.declared.Found.{Found}
use Rattle.agenda_sources.specs.declared.SourcePath.{SourcePath}
use Rattle.agenda_answers.specs.declared.choice.Left.{Left}

-- a pattern of `--except` or `--only` that nothing fits is rejected
abbrev pub names_if : (pattern : Option (List ℕ)) → (is_only : Bool) → Step (Unit {0})
names_if None is_only = gives tt
names_if (Some pattern) false = fails_with (failure.Machine (NothingExcepted pattern))
names_if (Some pattern) true = fails_with (failure.Machine (NothingChosen pattern))

-- what is left of a machine's jobs, of which a plan reads some, and how much is unknown: each pattern has to name something
abbrev pub left_in :
    (root : List ℕ) → Machine → (unplanned : List NotPlanned) → List SourcePath → (errors : List Found) → (is_zone_unknown : Bool) →
    (all planned : List JobParts) → (except only : List (List ℕ)) → Step Left
left_in root machine unplanned paths errors is_zone_unknown all planned except only =
    let sources = machine.sources.items in
    let skipped = machine.skipped.items in
    let front = root ++ codes "/" in do
      unknown ← computes (unknowns_of root sources skipped unplanned paths errors is_zone_unknown)
      names ← computes (names_of_machine sources skipped unplanned all unknown)
      excepted ← names_if (unexcepted front names except) false
      chosen ← names_if (unchosen names only) true
      computes (record { jobs = left_jobs except only planned; unknown = left_unknown front except only unknown })

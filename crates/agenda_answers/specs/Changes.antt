-- The answer to a request to compare an agenda with an earlier one. All of it is our choice (agenda).
use Rattle.std.specs.Prelude.{ℕ, Bool, Result, Ok, Err}
use Rattle.plan_baseline.specs.Line.{Listing}
use Rattle.plan_collect.specs.declared.Sizes.{Sizes}
use Rattle.agenda_arguments.specs.declared.ChangesRequest.{ChangesRequest}
use Rattle.agenda_arguments.specs.declared.JobsRequest.{JobsRequest}
use Rattle.agenda_commands.specs.declared.Goal.{Goal}
use Rattle.agenda_commands.specs.declared.Goal.TheVariants as goal
use Rattle.agenda_faults.specs.declared.faults.Failure.{Failure}
use Rattle.agenda_inputs.specs.Baselines.{baseline_of}
use Rattle.agenda_inputs.specs.Files.{Held}
use Rattle.agenda_inputs.specs.Steps.{Step, computes, ◌>>=◌}
use Rattle.agenda_answers.specs.Answer.{StreamChange}
use Rattle.agenda_answers.specs.Outcome.{AnswersJobs, ExitsWith}

-- what is made of jobs: the differences from an earlier agenda, over its span
abbrev pub changes_since : Listing → Sizes → (delays : Bool) → Goal
changes_since listing sizes delays = goal.Changes (record { span = listing.span; sizes = sizes; delays = delays }) listing

-- the same, as it is requested: the earlier agenda is read from its file
abbrev pub changes_goal : Held → ChangesRequest → Step Goal
changes_goal held request = do
  listing ← baseline_of held request.before
  computes (changes_since listing request.sizes request.jobs.delays)

-- the answer for jobs, unless the earlier agenda is rejected
abbrev pub AnswersOrFails : Held → Result Goal Failure → JobsRequest → ℕ → (out err : StreamChange) → Type 0
AnswersOrFails held (Ok goal) jobs status out err = AnswersJobs held goal jobs status out err
AnswersOrFails held (Err failure) jobs status out err = ExitsWith jobs.sources (Err failure) status out err

-- the answer to a request: the earlier agenda is read first, then the jobs
abbrev pub AnswersChanges : Held → ChangesRequest → ℕ → (out err : StreamChange) → Type 0
AnswersChanges held request status out err =
    (made : Result Goal Failure) × changes_goal held request made × AnswersOrFails held made request.jobs status out err

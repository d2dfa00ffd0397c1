-- What the program answers to its arguments. All of it is our choice (agenda).
use Rattle.std.specs.Prelude.{◌≡◌, ◌≢◌, ℕ, true, List, [], Result, Ok, Err}
use Rattle.agenda_arguments.specs.declared.Ask.{Ask}
use Rattle.agenda_arguments.specs.declared.JobsRequest.{JobsRequest}
use Rattle.agenda_arguments.specs.declared.UsageFault.{UsageFault}
use Rattle.agenda_arguments.specs.Arguments.{Gives, asked_by}
use Rattle.agenda_faults.specs.declared.faults.Failure.{Failure}
use Rattle.agenda_faults.specs.declared.faults.Failure.TheVariants.{Run}
use Rattle.agenda_faults.specs.declared.faults.RunFault.TheVariants.{NoMemory}
use Rattle.agenda_sources.specs.declared.SourcePath.{SourcePath}
use Rattle.agenda_commands.specs.declared.Goal.{Goal}
use Rattle.agenda_answers.specs.declared.requests.Request.{Request}
use Rattle.agenda_answers.specs.declared.requests.Request.TheVariants.{Starts, Jobs, Changes, Check, Describe, DescribeJobs, Steps, Explain, Machine, MachineNext, MachineDescribe}
use Rattle.agenda_answers.specs.Answer.{Exits, Leaves, Printed, StreamChange, check_ends, explain_ends, next_ends, steps_ends, usage_ends}
use Rattle.agenda_inputs.specs.Files.{Held}
use Rattle.agenda_answers.specs.Host.{KnownHost}
use Rattle.agenda_answers.specs.Machine.{AnswersMachine}
use Rattle.agenda_answers.specs.Changes.{AnswersChanges}
use Rattle.agenda_answers.specs.Describe.{AnswersDescriptions, describe_ends}
use Rattle.agenda_answers.specs.MachineDescribe.{AnswersRule}
use Rattle.agenda_answers.specs.MachineNext.{AnswersNext}
use Rattle.agenda_answers.specs.Outcome.{AnswersJobs, Outcome, ReportsOrFails, outcome_by}
use Rattle.agenda_answers.specs.Requests.{request_of, stopping_jobs}
use Rattle.agenda_inputs.specs.Steps.{Step, fails}

-- an answer: its exit status, and both streams
abbrev pub Answering : Type 1
Answering = ℕ → (out err : StreamChange) → Type 0

-- what a command leaves on standard output, and how it ends. These are the paths of the sources that are requested
abbrev pub AnswersBy : Step Printed → List SourcePath → Answering
AnswersBy step sources status out err =
    (done : Result ℕ Failure) × Leaves out.takes_all step done out.old out.new × Exits sources done status err

-- the answer to a request
abbrev pub AnswersRequest : Held → KnownHost → Request → Answering
AnswersRequest held host (Starts starts) = AnswersBy (next_ends held starts) []
AnswersRequest held host (Jobs goal jobs) = AnswersJobs held goal jobs
AnswersRequest held host (Changes changes) = AnswersChanges held changes
AnswersRequest held host (Check zones sources policy json) = AnswersBy (check_ends held zones sources policy json) sources
AnswersRequest held host (Describe rule zones json) = AnswersBy (describe_ends held rule zones json) []
AnswersRequest held host (DescribeJobs jobs) = AnswersDescriptions held jobs
AnswersRequest held host (Steps file) = AnswersBy (steps_ends held file) []
AnswersRequest held host (Explain code) = AnswersBy (explain_ends code) []
AnswersRequest held host (Machine machine) = AnswersMachine held host machine
AnswersRequest held host (MachineNext next) = AnswersNext held host next
AnswersRequest held host (MachineDescribe rule json) = AnswersRule held host rule json

-- the same, unless the request is rejected
abbrev pub AnswersOrFails : Held → KnownHost → Result Request Failure → Answering
AnswersOrFails held host (Ok request) = AnswersRequest held host request
AnswersOrFails held host (Err failure) = AnswersBy (fails failure) []

-- the answer to what is asked: its timestamps are read first
abbrev pub AnswersAsk : Held → KnownHost → Ask → Answering
AnswersAsk held host ask status out err =
    (request : Result Request Failure) × request_of ask request × AnswersOrFails held host request status out err

-- ---- the law of keeping going

-- nothing is skipped, and no allocation failed
abbrev pub SkipsNothing : Result Outcome Failure → Type 0
SkipsNothing (Ok kept) = (kept.unread ≡ []) × (kept.errors ≡ [])
SkipsNothing (Err failure) = failure ≢ Run NoMemory

-- if nothing is skipped, a request that keeps going is answered as it may be without that
abbrev pub ChangesNothing : Held → Goal → JobsRequest → Type 0
ChangesNothing held goal jobs =
    (end : Result Outcome Failure) → outcome_by true held goal jobs end → SkipsNothing end → (status : ℕ) → (out err : StreamChange) →
    ReportsOrFails jobs.sources end status out err → AnswersJobs held goal (stopping_jobs jobs) status out err

-- ---- the whole program

-- the program's answer: to a request, or to arguments that request no command
abbrev pub Answers : Held → KnownHost → Result Ask UsageFault → Answering
Answers held host (Ok ask) = AnswersAsk held host ask
Answers held host (Err fault) = AnswersBy (usage_ends fault) []

-- the same, by the arguments of the command line
abbrev pub AnswersArguments : Held → KnownHost → List (List ℕ) → Answering
AnswersArguments held host words status out err =
    (request : Result Ask UsageFault) × Gives request (asked_by words) × Answers held host request status out err

-- What arguments request, once the timestamps were read. All of it is our choice (agenda).
use Rattle.std.specs.Prelude.{◌≡◌, ℕ, ◌<◌, ◌≤◌, false, List, Ok, Err}
use Rattle.plan_sets.specs.Limits.{end_second}
use Rattle.plan_sets.specs.Moment.{HasFault, moment_text_of}
use Rattle.plan_sets.specs.declared.MomentFault.{MomentFault}
use Rattle.plan_collect.specs.Span.{Bounds}
use Rattle.plan_collect.specs.declared.SpanFault.TheVariants.{Backwards}
use Rattle.agenda_arguments.specs.declared.Ask.{Ask}
use Rattle.agenda_arguments.specs.declared.Ask.TheVariants.{Next, Plan, Upcoming, Quiet, Changes, Check, Describe, DescribeJobs, Steps, Explain, Machine, MachineNext, MachineDescribe}
use Rattle.agenda_arguments.specs.declared.JobsRequest.{JobsRequest}
use Rattle.agenda_arguments.specs.declared.PlanRequest.{PlanRequest}
use Rattle.agenda_faults.specs.declared.faults.Failure.TheVariants.{Moment, Span}
use Rattle.agenda_faults.specs.declared.machine_faults.TimeOption.{TimeOption}
use Rattle.agenda_faults.specs.declared.machine_faults.TimeOption.TheVariants as option
use Rattle.agenda_commands.specs.declared.Goal.TheVariants as goal
use Rattle.agenda_commands.specs.declared.Planning.{Planning}
use Rattle.agenda_answers.specs.declared.requests.Request.{Request}
use Rattle.agenda_answers.specs.declared.requests.Request.TheVariants as request
use Rattle.agenda_inputs.specs.Steps.{Step, gives, ◌>>=◌}

-- the timestamp of an option, with the failure if the text isn't one
abbrev pub moment_of : TimeOption → List ℕ → Step ℕ
moment_of option text (Ok moment) = (moment ≤ end_second) × (text ≡ moment_text_of moment)
moment_of option text (Err failure) = (fault : MomentFault) × (failure ≡ Moment option fault) × HasFault text fault

-- two timestamps bound a span unless the second is earlier
abbrev pub bounded : (since upto : ℕ) → Step Bounds
bounded since upto (Ok span) = span ≡ record { since = since; upto = upto }
bounded since upto (Err failure) = (failure ≡ Span Backwards) × (upto < since)

-- the span of a plan: the first timestamp is read first, then the second, then their order is checked
abbrev pub span_of : (since upto : List ℕ) → Step Bounds
span_of since upto = do
  begin ← moment_of option.Since since
  end ← moment_of option.Until upto
  bounded begin end

-- how the jobs of a request are planned: over its span
abbrev pub planning_of : PlanRequest → Step Planning
planning_of request = do
  span ← span_of request.since request.upto
  gives (record { span = span; sizes = request.sizes; delays = request.jobs.delays })

-- the request, unless a timestamp is rejected
abbrev pub request_of : Ask → Step Request
request_of (Next starts) = do
  moment ← moment_of option.After starts.after
  gives (request.Starts (record {
    after = moment;
    zones = starts.zones;
    count = starts.count;
    rule = starts.rule;
    format = starts.format;
  }))
request_of (Plan plan view) = do
  planning ← planning_of plan
  gives (request.Jobs (goal.Plan planning view) plan.jobs)
request_of (Upcoming after jobs) = do
  moment ← moment_of option.After after
  gives (request.Jobs (goal.Upcoming moment jobs.delays) jobs)
request_of (Quiet plan least) = do
  planning ← planning_of plan
  gives (request.Jobs (goal.Quiet planning least) plan.jobs)
request_of (Changes changes) = gives (request.Changes changes)
request_of (Check zones sources policy json) = gives (request.Check zones sources policy json)
request_of (Describe rule zones json) = gives (request.Describe rule zones json)
request_of (DescribeJobs jobs) = gives (request.DescribeJobs jobs)
request_of (Steps file) = gives (request.Steps file)
request_of (Explain code) = gives (request.Explain code)
request_of (Machine machine) = gives (request.Machine machine)
request_of (MachineNext next) = gives (request.MachineNext next)
request_of (MachineDescribe rule json) = gives (request.MachineDescribe rule json)

-- the same jobs for a request that doesn't keep going
abbrev pub stopping_jobs : JobsRequest → JobsRequest
stopping_jobs jobs = record jobs { keep_going = false }

-- what is requested, without keeping going
abbrev pub stopping : Ask → Ask
stopping (Plan plan view) = Plan (record plan { jobs = stopping_jobs plan.jobs }) view
stopping (Upcoming after jobs) = Upcoming after (stopping_jobs jobs)
stopping (Quiet plan least) = Quiet (record plan { jobs = stopping_jobs plan.jobs }) least
stopping (Changes changes) = Changes (record changes { jobs = stopping_jobs changes.jobs })
stopping (DescribeJobs jobs) = DescribeJobs (stopping_jobs jobs)
stopping other = other

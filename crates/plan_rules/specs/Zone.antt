-- Jobs in the zone of a clock.
use Rattle.std.specs.Prelude.{ℕ, List, map}
use Rattle.plan_clock.specs.declared.row.Change.{Change}
use Rattle.plan_match.specs.Zone.{rule_in}
use Rattle.plan_rules.specs.Delays.{first_changed}
use Rattle.plan_rules.specs.Job.{JobParts}

-- a job whose rule starts by the clock of a zone
abbrev pub job_in : List Change → JobParts → JobParts
job_in clock job = record job { rule = rule_in clock job.rule }

-- jobs in the zone of a clock
abbrev pub jobs_in : List Change → List JobParts → List JobParts
jobs_in clock jobs = map (job_in clock) jobs

-- jobs of which the first `count` are in the zone
abbrev pub first_in : List Change → ℕ → List JobParts → List JobParts
first_in clock count jobs = first_changed (job_in clock) count jobs

use Rattle.std.proofs.Common.{◌≡◌, length}
use Rattle.plan_rules.specs.Delays.{first_changed, nominal}
use Rattle.plan_rules.proofs.jobs.Jobs.without_delays.Given as goal

-- the first jobs have no delay, and no job is lost
abbrev pub invariant-loop-number : goal.invariant-loop-number
invariant-loop-number l = record {
  so_far : l.undelayed ≡ first_changed nominal l.number l.fn.self;
  len : length l.undelayed ≡ length l.fn.self;
}

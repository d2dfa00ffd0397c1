use Rattle.std.proofs.Common.{◌≡◌, length}
use Rattle.plan_rules.specs.Zone.{first_in}
use Rattle.plan_rules.proofs.jobs.Jobs.in_zone.Given as goal

-- the first jobs are in the zone, and no job is lost
abbrev pub invariant-loop-number : goal.invariant-loop-number
invariant-loop-number l = record {
  so_far : l.jobs ≡ first_in l.clock l.number l.fn.self;
  len : length l.jobs ≡ length l.fn.self;
}

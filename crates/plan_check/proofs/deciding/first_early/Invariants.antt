use Rattle.std.proofs.Common.{◌≡◌, drop}
use Rattle.plan_check.specs.Deciding.{first_early}
use Rattle.plan_check.proofs.deciding.first_early.Given as goal

-- the findings so far have no such error
abbrev pub invariant-loop-finding : goal.invariant-loop-finding
invariant-loop-finding l = first_early (drop l.finding-index l.found) ≡ first_early l.found

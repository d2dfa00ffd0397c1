use Rattle.std.proofs.Common.{◌≡◌, drop}
use Rattle.plan_users.specs.Found.{first_at_home}
use Rattle.plan_users.proofs.found.first_at_home.Given as goal

-- the first of those that are left is the first of all
abbrev pub invariant-loop-source : goal.invariant-loop-source
invariant-loop-source l = first_at_home l.home (drop l.source-index l.sources) ≡ first_at_home l.home l.sources

use Rattle.std.proofs.Common.{◌≡◌, drop}
use Rattle.plan_owners.specs.Users.{number_of}
use Rattle.plan_owners.proofs.users.number_of.Given as goal

-- the first of those that are left with the name is the first of all
abbrev pub invariant-loop-user : goal.invariant-loop-user
invariant-loop-user l = number_of (drop l.user-index l.users) l.name ≡ number_of l.users l.name

use Rattle.std.proofs.Common.{◌≡◌, drop, map}
use Rattle.plan_owners.specs.Users.{names_of}
use Rattle.plan_rules.specs.Names.{with_names}
use Rattle.plan_owners.proofs.users.names_of.Given as goal

-- the names so far, with those that are left, are all
abbrev pub invariant-loop-user : goal.invariant-loop-user
invariant-loop-user l = with_names l.names (map (λ user. user.name) (drop l.user-index l.users)) ≡ names_of l.users

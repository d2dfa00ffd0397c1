use Rattle.std.proofs.Common.{◌≡◌, [], ◌++◌, drop}
use Rattle.plan_users.specs.Managers.{managers_after}
use Rattle.plan_users.proofs.managers.managers_among.Given as goal

-- the managers so far, with those of the users who are left, are all
abbrev pub invariant-loop-user : goal.invariant-loop-user
invariant-loop-user l = l.managers.items ++ managers_after l.names (drop l.user-index l.users) ≡ managers_after [] l.users

use Rattle.std.proofs.Common.{◌≡◌, ◌++◌, drop, map}
use Rattle.plan_owners.specs.Users.{users_in}
use Rattle.plan_owners.proofs.users.users_of_found.Given as goal

-- the users so far, with those of the lines that are left, are all
abbrev pub invariant-loop-line : goal.invariant-loop-line
invariant-loop-line l =
    l.users.items ++ users_in (map (λ line. line.now) (drop l.line-index l.line-items)) ≡ users_in (map (λ line. line.now) l.line-items)
